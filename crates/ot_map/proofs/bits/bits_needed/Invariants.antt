use Rattle.ot_map.proofs.MaskLemmas.{IsCounted}
use Rattle.ot_map.proofs.bits.bits_needed.Given as goal

abbrev pub invariant-loop-bit : goal.invariant-loop-bit
invariant-loop-bit l = IsCounted l.max_value l.bit l.count
