use Rattle.std.proofs.Common.{sym, ◌∙◌, arith}
use Rattle.ucd_normal.specs.Composition.{composite}
use Rattle.unicode_tables.proofs.Whole.{whole_joined, whole_apart, whole_end}
use Rattle.unicode_tables.proofs.mapping.whole_of.Goals as goal

pub returns-in_err-whole : goal.returns-in_err-whole
returns-in_err-whole c =
    c.from_residual-in_err-whole.ensures
    ∙ sym (whole_apart composite c.loop-c.whole c.in_ok-first.rest.now c.loop-c.c-index c.c-item.result
    c.loop-c-test.true
    c.c-item.is (sym c.in_err-whole.ensures))
    ∙ c.loop-c.invariant

pub loop-c-preserved : goal.loop-c-preserved
loop-c-preserved c =
    sym (whole_joined composite c.loop-c.whole c.in_ok-first.rest.now c.loop-c.c-index c.c-item.result
    c.in_ok-whole.whole
    c.loop-c-test.true c.c-item.is (sym c.in_ok-whole.ensures))
    ∙ c.loop-c.invariant

pub returns : goal.returns
returns c =
    sym (whole_end composite c.loop-c.whole c.in_ok-first.rest.now c.loop-c.c-index (omega arith)) ∙ c.loop-c.invariant
