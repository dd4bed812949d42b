use Rattle.std.proofs.Common.{arith}
use Rattle.shaping_buffer.proofs.KeepsLemmas.{keeps_then}
use Rattle.ot_gsub.proofs.LigaturesLemmas.{renumber-next}
use Rattle.ot_gsub.proofs.ligation.renumber.Goals as goal

pub loop-ahead-preserved : goal.loop-ahead-preserved
loop-ahead-preserved c =
    let s = c.args.buffer.now in
    let b = c.loop-ahead.buffer in
    let new = c.write_properties.new.buffer in
    record {
      opened = c.write_properties.ensures.opened;
      keeps = keeps_then s b new c.loop-ahead.invariant.keeps c.write_properties.ensures.keeps;
      so_far = renumber-next c.args.components.now s c.loop-ahead.ahead b new c.glyph_ahead.result c.renumbered-mark.result
          c.requires.opened (omega (arith, c.loop-ahead-test.true, c.requires.within)) c.loop-ahead.invariant.so_far
          c.glyph_ahead.ensures c.renumbered-mark.ensures c.write_properties.ensures.is;
    }
