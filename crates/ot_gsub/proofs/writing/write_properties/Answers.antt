use Rattle.std.proofs.Common.{ap}
use Rattle.rb_glyph.specs.declared.info.hb_glyph_info_t.{hb_glyph_info_t}
use Rattle.shaping_buffer.proofs.ClosedKeepsLemmas.{keeps_with_cur}
use Rattle.shaping_buffer.specs.Lending.{with_cur}
use Rattle.ot_gsub.proofs.BufferLemmas.{glyph_ahead-read}
use Rattle.ot_gsub.proofs.writing.write_properties.Goals as goal

pub returns-clause-keeps : goal.returns-clause-keeps
returns-clause-keeps c =
    keeps_with_cur c.args.buffer.now c.args.ahead
    (record c.cur_mut-written.result.now { var1 = c.args.glyph.now.var1; var2 = c.args.glyph.now.var2 })
    c.cur_mut-written.result.now
    (ap (λ (g : hb_glyph_info_t). g.cluster) c.cur_mut-written.ensures.value)

pub returns-clause-is : goal.returns-clause-is
returns-clause-is c =
    ap (λ (g : hb_glyph_info_t). with_cur c.args.buffer.now c.args.ahead
    (record g { var1 = c.args.glyph.now.var1; var2 = c.args.glyph.now.var2 }))
    (glyph_ahead-read c.args.ahead c.args.buffer.now c.cur_mut-written.result.now c.requires.opened c.requires.glyph
    c.cur_mut-written.ensures.value)
