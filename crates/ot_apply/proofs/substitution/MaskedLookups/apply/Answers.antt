use Rattle.std.proofs.Common.{arith}
use Rattle.shaping_buffer.proofs.KeepsLemmas.{keeps_none, keeps_then}
use Rattle.ot_apply.proofs.substitution.MaskedLookups.apply.Goals as goal

pub loop-index-init : goal.loop-index-init
loop-index-init c =
    record { closed = c.requires; keeps = keeps_none c.args.buffer.now; spent = (omega arith, omega arith) }

pub loop-index-preserved : goal.loop-index-preserved
loop-index-preserved c = record {
  closed = c.in_ok-substitute.ensures.left c.if-not-branch.false;
  keeps = keeps_then c.args.buffer.now c.loop-index.buffer c.substitute.new.buffer c.loop-index.invariant.keeps
      c.substitute.ensures.keeps;
  spent = (
    omega (arith, c.loop-index.invariant.spent.0, c.substitute.ensures.spent.0),
    omega (arith, c.loop-index.invariant.spent.1, c.substitute.ensures.spent.1),
  );
}
