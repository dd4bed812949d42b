use Rattle.std.proofs.Common.{ap}
use Rattle.rb_glyph.specs.declared.info.hb_glyph_info_t.{hb_glyph_info_t}
use Rattle.glyph_lists.specs.Marks.{with_glyph_flags}
use Rattle.shaping_buffer.proofs.ClosedKeepsLemmas.{keeps_with_prev}
use Rattle.shaping_buffer.specs.Lending.{with_prev}
use Rattle.ot_gsub.proofs.BufferLemmas.{last_put-read}
use Rattle.ot_gsub.proofs.writing.hand_back.Goals as goal

pub returns-clause-keeps : goal.returns-clause-keeps
unfolding with_glyph_flags
returns-clause-keeps c =
    keeps_with_prev c.args.buffer.now (with_glyph_flags c.args.flags c.prev_mut-taker.result.now)
    c.prev_mut-taker.result.now
    (ap (λ (g : hb_glyph_info_t). g.cluster) c.prev_mut-taker.ensures.value)

pub returns-clause-is : goal.returns-clause-is
unfolding with_glyph_flags
returns-clause-is c =
    ap (λ (g : hb_glyph_info_t). with_prev c.args.buffer.now (with_glyph_flags c.args.flags g))
    (last_put-read c.args.buffer.now c.prev_mut-taker.result.now c.requires.before c.prev_mut-taker.ensures.value)
