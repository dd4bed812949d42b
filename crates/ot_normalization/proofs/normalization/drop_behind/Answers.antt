use Rattle.std.proofs.Common.{◌<◌, length, ap, ◌∙◌, arith}
use Rattle.shaping_buffer.specs.State.{State}
use Rattle.ot_normalization.proofs.TwinLemmas.{twin_before}
use Rattle.ot_normalization.proofs.normalization.drop_behind.Goals as goal

pub returns-then-prev-cur : goal.returns-then-prev-cur
returns-then-prev-cur c =
    let some_out : 0 < length c.args.buffer.now.out
    = omega (arith, c.if-out_len-gt0.true, c.out_len.ensures.out_len) in
    record {
      opened = ap (λ (t : State). t.have_output) c.skip_glyph.ensures.is ∙ c.requires.opened;
      keeps = c.skip_glyph.ensures.keeps
          (twin_before c.args.buffer.now c.prev.result.now c.cur.result.now c.requires.opened some_out c.requires.glyph
          c.prev.ensures c.cur.ensures c.if-prev-cur.true);
    }
