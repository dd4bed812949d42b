use Rattle.std.proofs.Common.{sym, ◌∙◌, ◌<◌, length, ne_eqb, eqb-true, eq-eqb, arith}
use Rattle.std.proofs.lemmas.Bool.Decides.{nat_tests}
use Rattle.std.proofs.lemmas.List.{nil_from_length}
use Rattle.ucd_normal.specs.Composition.{composite}
use Rattle.ucd_normal.specs.Decomposition.{canonical_decomposition}
use Rattle.unicode_tables.proofs.Whole.{step_none, step_whole, step_same, step_pair}
use Rattle.unicode_tables.proofs.mapping.step_of.Goals as goal

pub returns-then-is_empty : goal.returns-then-is_empty
returns-then-is_empty c =
    let empty = nil_from_length c.args.full.now (eqb-true _ _ (sym c.if-is_empty.ensures)) in
    sym (step_none composite canonical_decomposition c.args.c c.args.full.now empty)

pub returns-in-Some : goal.returns-in-Some
returns-in-Some c =
    c.pair_of-in-Some.ensures
    ∙ sym (step_same composite canonical_decomposition c.args.c c.args.full.now c.in-Some.whole (sym c.in-Some.ensures)
    (eq-eqb _ _ c.if-whole-c.true))

pub returns-in-Some-2 : goal.returns-in-Some-2
returns-in-Some-2 c =
    sym (step_whole composite canonical_decomposition c.args.c c.args.full.now c.in-Some.whole (sym c.in-Some.ensures)
    (ne_eqb _ _ c.if-whole-c.false))

pub returns-in-None : goal.returns-in-None
returns-in-None c =
    let e = c.if-is_empty.ensures in
    let some : 0 < length c.args.full.now = grind (arith, nat_tests, e) in
    c.pair_of.ensures
    ∙ sym (step_pair composite canonical_decomposition c.args.c c.args.full.now some (sym c.in-None.ensures))
