use Rattle.std.proofs.Common.{◌≡◌, ◌+◌, ◌-◌, suc, false, true, Option, None, Some, option_map, drop, nat_eq, nat_le, sym, subst, ap, ◌∙◌, arith, if◌then◌else◌}
use Rattle.std.specs.Prelude.{IfSome}
use Rattle.ot_gpos_tables.specs.KernTable.{IsHeader, are_whole, format_in, holds_pairs, subtable_bytes, subtable_length}
use Rattle.ot_gpos_tables.specs.declared.kern_table.KernSubtable.{KernSubtable}
use Rattle.ot_gpos_tables.proofs.KernLemmas.{are_whole-cut, are_whole-end, are_whole-next, holds_pairs-read, nat_eq-last}
use Rattle.ot_gpos_tables.proofs.kern_table.KernTable.is_whole.Goals as goal

pub loop-number-init : goal.loop-number-init
loop-number-init c =
    let kern = c.args.self.now in
    let all : kern.count - 0 ≡ kern.count = omega arith in
    ap (λ n. are_whole n kern.is_apple kern.table.now c.start-at.result) all
    ∙ ap (are_whole kern.count kern.is_apple kern.table.now) c.start-at.ensures

pub loop-number-preserved : goal.loop-number-preserved
loop-number-preserved c =
    let kern = c.args.self.now in
    let rest = drop c.loop-number.at kern.table.now in
    let left = kern.count - (c.loop-number.number + 1) in
    let one : suc left ≡ kern.count - c.loop-number.number = omega (arith, c.loop-number-test.true) in
    let here : subtable_length kern.is_apple rest ≡ Some c.in-Some.subtable.length =
    sym c.subtable_at.ensures.length ∙ ap (option_map (λ (s : KernSubtable). s.length)) c.in-Some.is in
    let header : IsHeader kern.is_apple rest c.in-Some.subtable =
    subst (λ (s : Option KernSubtable). IfSome s (IsHeader kern.is_apple rest)) c.in-Some.is c.subtable_at.ensures.header in
    let bytes : c.in-Some.subtable.table.now ≡ subtable_bytes (nat_le kern.count (c.loop-number.number + 1)) c.in-Some.subtable.length rest =
    subst (λ (s : Option KernSubtable). IfSome s (λ (t : KernSubtable). t.table.now ≡ subtable_bytes (nat_le kern.count (c.loop-number.number + 1)) t.length rest))
    c.in-Some.is c.subtable_at.ensures.bytes in
    let whole : holds_pairs (format_in kern.is_apple rest) (if kern.is_apple then 8 else 6)
    (subtable_bytes (nat_eq left 0) c.in-Some.subtable.length rest) ≡ true =
    ap (λ b. holds_pairs (format_in kern.is_apple rest) (if kern.is_apple then 8 else 6) (subtable_bytes b c.in-Some.subtable.length rest))
    (nat_eq-last kern.count c.loop-number.number)
    ∙ holds_pairs-read kern.is_apple _ rest c.in-Some.subtable header bytes ∙ sym c.has_its_pairs.ensures ∙ c.if-not-has_its_pairs.false in
    sym (are_whole-next left kern.is_apple kern.table.now c.loop-number.at c.in-Some.subtable.length _ here whole c.saturating_add-at.ensures)
    ∙ ap (λ n. are_whole n kern.is_apple kern.table.now c.loop-number.at) one
    ∙ c.loop-number.invariant

pub returns-in_default : goal.returns-in_default
returns-in_default c =
    let kern = c.args.self.now in
    let left = kern.count - (c.loop-number.number + 1) in
    let one : suc left ≡ kern.count - c.loop-number.number = omega (arith, c.loop-number-test.true) in
    let none : subtable_length kern.is_apple (drop c.loop-number.at kern.table.now) ≡ None =
    sym c.subtable_at.ensures.length ∙ ap (option_map (λ (s : KernSubtable). s.length)) c.in_default.is in
    sym (are_whole-end left kern.is_apple kern.table.now c.loop-number.at none)
    ∙ ap (λ n. are_whole n kern.is_apple kern.table.now c.loop-number.at) one
    ∙ c.loop-number.invariant

pub returns-then-not-has_its_pairs : goal.returns-then-not-has_its_pairs
returns-then-not-has_its_pairs c =
    let kern = c.args.self.now in
    let rest = drop c.loop-number.at kern.table.now in
    let left = kern.count - (c.loop-number.number + 1) in
    let one : suc left ≡ kern.count - c.loop-number.number = omega (arith, c.loop-number-test.true) in
    let here : subtable_length kern.is_apple rest ≡ Some c.in-Some.subtable.length =
    sym c.subtable_at.ensures.length ∙ ap (option_map (λ (s : KernSubtable). s.length)) c.in-Some.is in
    let header : IsHeader kern.is_apple rest c.in-Some.subtable =
    subst (λ (s : Option KernSubtable). IfSome s (IsHeader kern.is_apple rest)) c.in-Some.is c.subtable_at.ensures.header in
    let bytes : c.in-Some.subtable.table.now ≡ subtable_bytes (nat_le kern.count (c.loop-number.number + 1)) c.in-Some.subtable.length rest =
    subst (λ (s : Option KernSubtable). IfSome s (λ (t : KernSubtable). t.table.now ≡ subtable_bytes (nat_le kern.count (c.loop-number.number + 1)) t.length rest))
    c.in-Some.is c.subtable_at.ensures.bytes in
    let cut : holds_pairs (format_in kern.is_apple rest) (if kern.is_apple then 8 else 6)
    (subtable_bytes (nat_eq left 0) c.in-Some.subtable.length rest) ≡ false =
    ap (λ b. holds_pairs (format_in kern.is_apple rest) (if kern.is_apple then 8 else 6) (subtable_bytes b c.in-Some.subtable.length rest))
    (nat_eq-last kern.count c.loop-number.number)
    ∙ holds_pairs-read kern.is_apple _ rest c.in-Some.subtable header bytes ∙ sym c.has_its_pairs.ensures ∙ c.if-not-has_its_pairs.true in
    sym (are_whole-cut left kern.is_apple kern.table.now c.loop-number.at c.in-Some.subtable.length here cut)
    ∙ ap (λ n. are_whole n kern.is_apple kern.table.now c.loop-number.at) one
    ∙ c.loop-number.invariant

pub returns : goal.returns
returns c =
    let kern = c.args.self.now in
    let none : kern.count - c.loop-number.number ≡ 0 = omega (arith, c.loop-number-test.false) in
    sym (ap (λ n. are_whole n kern.is_apple kern.table.now c.loop-number.at) none)
    ∙ c.loop-number.invariant
