use Rattle.std.proofs.Common.{◌<◌, length, arith, ap, sym, ◌∙◌}
use Rattle.std.proofs.lemmas.Bool.{lt-ltb}
use Rattle.std.specs.Prelude.{◌==◌, ◌&&◌}
use Rattle.rb_glyph.specs.declared.info.hb_glyph_info_t.{hb_glyph_info_t}
use Rattle.ot_gsub.specs.Writing.{glyph_ahead}
use Rattle.ot_gsub.proofs.writing.has_twin_behind.Goals as goal

pub returns : goal.returns
returns c =
    let s = c.args.buffer.now in
    let some : 1 < length s.input = omega (arith, ap length c.info.ensures) in
    ap (λ (g : hb_glyph_info_t). g.cluster == c.glyph_ahead-current.result.cluster) c.glyph_ahead-next.ensures
    ∙ ap (λ (g : hb_glyph_info_t). (glyph_ahead 1 s).cluster == g.cluster) c.glyph_ahead-current.ensures
    ∙ ap (λ b. b && ((glyph_ahead 1 s).cluster == (glyph_ahead 0 s).cluster)) (sym (lt-ltb 1 (length s.input) some))
