use Rattle.std.proofs.Common.{◌≡◌, ◌+◌, ◌-◌, suc, false, true, Option, None, Some, option_map, drop, sym, subst, ap, ◌∙◌, arith}
use Rattle.std.specs.Prelude.{IfSome}
use Rattle.ot_gpos_tables.specs.KernTable.{IsHeader, is_such, some_subtable, subtable_length}
use Rattle.ot_gpos_tables.specs.declared.kern_table.KernSubtable.{KernSubtable}
use Rattle.ot_gpos_tables.proofs.KernLemmas.{is_such-read, some_subtable-end, some_subtable-here, some_subtable-next}
use Rattle.ot_gpos_tables.proofs.kern_table.KernTable.has.Goals as goal

pub loop-number-init : goal.loop-number-init
loop-number-init c =
    let kern = c.args.self.now in
    let all : kern.count - 0 ≡ kern.count = omega arith in
    ap (λ n. some_subtable (is_such c.args.property) n kern.is_apple kern.table.now c.start-at.result) all
    ∙ ap (some_subtable (is_such c.args.property) kern.count kern.is_apple kern.table.now) c.start-at.ensures

pub loop-number-preserved : goal.loop-number-preserved
loop-number-preserved c =
    let kern = c.args.self.now in
    let rest = drop c.loop-number.at kern.table.now in
    let left = kern.count - (c.loop-number.number + 1) in
    let one : suc left ≡ kern.count - c.loop-number.number = omega (arith, c.loop-number-test.true) in
    let here : subtable_length kern.is_apple rest ≡ Some c.in-Some.subtable.length =
    sym c.subtable_at.ensures.length ∙ ap (option_map (λ (s : KernSubtable). s.length)) c.in-Some.is in
    let header : IsHeader kern.is_apple rest c.in-Some.subtable =
    subst (λ (s : Option KernSubtable). IfSome s (IsHeader kern.is_apple rest)) c.in-Some.is c.subtable_at.ensures.header in
    let fails : is_such c.args.property kern.is_apple rest ≡ false =
    is_such-read c.args.property kern.is_apple rest c.in-Some.subtable header ∙ sym c.has.ensures ∙ c.if-has.false in
    sym (some_subtable-next left kern.is_apple kern.table.now c.loop-number.at (is_such c.args.property) c.in-Some.subtable.length _
    here fails c.saturating_add-at.ensures)
    ∙ ap (λ n. some_subtable (is_such c.args.property) n kern.is_apple kern.table.now c.loop-number.at) one
    ∙ c.loop-number.invariant

pub returns-in_default : goal.returns-in_default
returns-in_default c =
    let kern = c.args.self.now in
    let left = kern.count - (c.loop-number.number + 1) in
    let one : suc left ≡ kern.count - c.loop-number.number = omega (arith, c.loop-number-test.true) in
    let none : subtable_length kern.is_apple (drop c.loop-number.at kern.table.now) ≡ None =
    sym c.subtable_at.ensures.length ∙ ap (option_map (λ (s : KernSubtable). s.length)) c.in_default.is in
    sym (some_subtable-end left kern.is_apple kern.table.now c.loop-number.at (is_such c.args.property) none)
    ∙ ap (λ n. some_subtable (is_such c.args.property) n kern.is_apple kern.table.now c.loop-number.at) one
    ∙ c.loop-number.invariant

pub returns-then-has : goal.returns-then-has
returns-then-has c =
    let kern = c.args.self.now in
    let rest = drop c.loop-number.at kern.table.now in
    let left = kern.count - (c.loop-number.number + 1) in
    let one : suc left ≡ kern.count - c.loop-number.number = omega (arith, c.loop-number-test.true) in
    let here : subtable_length kern.is_apple rest ≡ Some c.in-Some.subtable.length =
    sym c.subtable_at.ensures.length ∙ ap (option_map (λ (s : KernSubtable). s.length)) c.in-Some.is in
    let header : IsHeader kern.is_apple rest c.in-Some.subtable =
    subst (λ (s : Option KernSubtable). IfSome s (IsHeader kern.is_apple rest)) c.in-Some.is c.subtable_at.ensures.header in
    let holds : is_such c.args.property kern.is_apple rest ≡ true =
    is_such-read c.args.property kern.is_apple rest c.in-Some.subtable header ∙ sym c.has.ensures ∙ c.if-has.true in
    sym (some_subtable-here left kern.is_apple kern.table.now c.loop-number.at (is_such c.args.property) c.in-Some.subtable.length here holds)
    ∙ ap (λ n. some_subtable (is_such c.args.property) n kern.is_apple kern.table.now c.loop-number.at) one
    ∙ c.loop-number.invariant

pub returns : goal.returns
returns c =
    let kern = c.args.self.now in
    let none : kern.count - c.loop-number.number ≡ 0 = omega (arith, c.loop-number-test.false) in
    sym (ap (λ n. some_subtable (is_such c.args.property) n kern.is_apple kern.table.now c.loop-number.at) none)
    ∙ c.loop-number.invariant
