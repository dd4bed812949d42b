use Rattle.std.proofs.Common.{ap}
use Rattle.rb_glyph.specs.declared.info.hb_glyph_info_t.{hb_glyph_info_t}
use Rattle.glyph_lists.specs.Marks.{with_glyph_flags}
use Rattle.shaping_buffer.proofs.ClosedKeepsLemmas.{keeps_with_cur}
use Rattle.shaping_buffer.specs.Lending.{with_cur}
use Rattle.ot_gsub.proofs.BufferLemmas.{glyph_ahead-read}
use Rattle.ot_gsub.proofs.writing.hand_ahead.Goals as goal

pub returns-clause-keeps : goal.returns-clause-keeps
unfolding with_glyph_flags
returns-clause-keeps c =
    keeps_with_cur c.args.buffer.now 1 (with_glyph_flags c.args.flags c.cur_mut-taker.result.now)
    c.cur_mut-taker.result.now
    (ap (λ (g : hb_glyph_info_t). g.cluster) c.cur_mut-taker.ensures.value)

pub returns-clause-is : goal.returns-clause-is
unfolding with_glyph_flags
returns-clause-is c =
    ap (λ (g : hb_glyph_info_t). with_cur c.args.buffer.now 1 (with_glyph_flags c.args.flags g))
    (glyph_ahead-read 1 c.args.buffer.now c.cur_mut-taker.result.now c.requires.opened c.requires.behind
    c.cur_mut-taker.ensures.value)
