use Rattle.std.proofs.Common.{◌≡◌, arith}
use Rattle.ot_map.proofs.MaskLemmas.{counted_all, counted_kept, counted_more}
use Rattle.ot_map.proofs.bits.bits_needed.Goals as goal
use Rattle.ot_map.proofs.bits.bits_needed.Goals.{then-max_value-bit-ne0, else-max_value-bit-ne0}

pub loop-bit-preserved : goal.loop-bit-preserved
loop-bit-preserved c =
    elim c.if-max_value-bit-ne0.branch [
      | then-max_value-bit-ne0 w ↦
          rw w.count-is (counted_more c.args.max_value c.loop-bit.bit w.if-max_value-bit-ne0.true)
      | else-max_value-bit-ne0 w ↦
          rw w.count-is
          (counted_kept c.args.max_value c.loop-bit.bit c.loop-bit.count w.if-max_value-bit-ne0.false c.loop-bit.invariant)
    ]

pub returns-clause-is : goal.returns-clause-is
returns-clause-is c =
    let end : c.loop-bit.bit ≡ 8 = omega arith in
    counted_all _ _ (rw end at c.loop-bit.invariant)
