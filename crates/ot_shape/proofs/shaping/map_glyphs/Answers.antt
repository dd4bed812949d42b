use Rattle.std.proofs.Common.{List, map, ap, ◌∙◌}
use Rattle.std.proofs.lemmas.Simd.{map-map}
use Rattle.rb_glyph.specs.declared.info.hb_glyph_info_t.{hb_glyph_info_t}
use Rattle.shaping_buffer.specs.State.{State}
use Rattle.shaping_buffer.proofs.KeepsLemmas.{keeps_then}
use Rattle.ot_gsub.specs.Properties.{started}
use Rattle.ot_shape.specs.Glyphs.{in_place}
use Rattle.ot_shape.proofs.shaping.map_glyphs.Goals as goal

pub returns-clause-is : goal.returns-clause-is
returns-clause-is c =
    let s = c.args.buffer.now in
    let start = started c.args.face.now.gdef.table.now in
    c.substitute_start.ensures.is
    ∙ ap (λ (t : State). record t { input = map start t.input }) c.put_glyphs.ensures.is
    ∙ ap (λ (l : List hb_glyph_info_t). record s { input = l }) (map-map start in_place s.input)

pub returns-clause-keeps : goal.returns-clause-keeps
returns-clause-keeps c =
    keeps_then c.args.buffer.now c.put_glyphs.new.buffer c.substitute_start.new.buffer c.put_glyphs.ensures.keeps
    c.substitute_start.ensures.keeps
