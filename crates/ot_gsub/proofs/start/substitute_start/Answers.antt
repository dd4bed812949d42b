use Rattle.std.proofs.Common.{ap, ◌∙◌, refl, map}
use Rattle.std.proofs.lemmas.List.{length-map}
use Rattle.rb_glyph.specs.declared.info.hb_glyph_info_t.{hb_glyph_info_t}
use Rattle.glyph_lists.specs.Clusters.{clusters}
use Rattle.glyph_lists.proofs.PartsLemmas.{map-map_same}
use Rattle.shaping_buffer.proofs.ClosedKeepsLemmas.{keeps_with_input}
use Rattle.ot_gsub.specs.Properties.{started}
use Rattle.ot_gsub.proofs.BufferLemmas.{with_input_whole}
use Rattle.ot_gsub.proofs.start.substitute_start.Goals as goal

pub returns-clause-is : goal.returns-clause-is
returns-clause-is c =
    let s = c.args.buffer.now in
    let f = started c.args.gdef.now.table.now in
    with_input_whole s c.set_all.new.glyphs (map f s.input)
    (c.set_all.ensures ∙ ap (map f) c.info_slice_mut.ensures.value) (length-map s.input f)

pub returns-clause-keeps : goal.returns-clause-keeps
returns-clause-keeps c =
    let now = c.info_slice_mut.result.now in
    keeps_with_input c.args.buffer.now c.set_all.new.glyphs now c.info_slice_mut.ensures.value
    (ap clusters c.set_all.ensures ∙ map-map_same (λ (g : hb_glyph_info_t). g.cluster)
    (started c.args.gdef.now.table.now) (λ g. refl) now)
