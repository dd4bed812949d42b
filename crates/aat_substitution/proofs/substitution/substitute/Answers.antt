use Rattle.std.proofs.Common.{◌≡◌, true, arith}
use Rattle.std.proofs.lemmas.Grind.{common_steps}
use Rattle.shaping_buffer.proofs.KeepsLemmas.{keeps_then}
use Rattle.aat_substitution.proofs.substitution.substitute.Goals as goal

pub loop-chain-preserved : goal.loop-chain-preserved
loop-chain-preserved c =
    let done : c.in_ok-apply_chain.field-0 ≡ true = grind (arith, common_steps) in (
      c.in_ok-apply_chain.ensures.left done,
      keeps_then c.args.buffer.now c.loop-chain.buffer c.apply_chain.new.buffer c.loop-chain.invariant.1
          (c.in_ok-apply_chain.ensures.keeps done),
    )
