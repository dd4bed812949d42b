use Rattle.std.proofs.Common.{◌<◌, length, arith, ap, sym, ◌∙◌}
use Rattle.std.proofs.lemmas.Bool.{lt-ltb}
use Rattle.std.specs.Prelude.{◌==◌, ◌&&◌, ◌-◌, slice_index_or}
use Rattle.rb_glyph.specs.declared.info.hb_glyph_info_t.{hb_glyph_info_t}
use Rattle.glyph_lists.specs.Clusters.{zero_glyph}
use Rattle.ot_gsub.specs.Writing.{glyph_ahead}
use Rattle.ot_gsub.proofs.BufferLemmas.{last_put-read}
use Rattle.ot_gsub.proofs.writing.has_twin_before.Goals as goal

pub returns : goal.returns
returns c =
    let s = c.args.buffer.now in
    let some : 0 < length s.out = omega (arith, c.out_len.ensures.out_len) in
    let last = slice_index_or s.out (length s.out - 1) zero_glyph in
    ap (λ (g : hb_glyph_info_t). g.cluster == c.glyph_ahead.result.cluster)
    (last_put-read s c.prev.result.now some c.prev.ensures)
    ∙ ap (λ (g : hb_glyph_info_t). last.cluster == g.cluster) c.glyph_ahead.ensures
    ∙ ap (λ b. b && (last.cluster == (glyph_ahead 0 s).cluster)) (sym (lt-ltb 0 (length s.out) some))
