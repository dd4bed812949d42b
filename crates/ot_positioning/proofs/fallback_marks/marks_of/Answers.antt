use Rattle.std.proofs.Common.{List, ap, ◌∙◌}
use Rattle.rb_glyph.specs.declared.info.hb_glyph_info_t.{hb_glyph_info_t}
use Rattle.ot_lookups.specs.LookupProps.{glyph_at}
use Rattle.ot_positioning.specs.MarkPlacing.{position_at}
use Rattle.ot_positioning.proofs.MarkLemmas.{begun_at, slice_index_or-position_at}
use Rattle.ot_positioning.proofs.fallback_marks.marks_of.Goals as goal

pub returns : goal.returns
returns g c =
    let s = c.args.buffer.now in
    let place = c.args.place in
    begun_at (g.F.FontFunctions.may_advance c.args.font.now) c.args.line c.info_at-info.result (glyph_at s.input place)
    c.position_at-position.result (position_at place s) c.marks_around.result
    (c.info_at-info.ensures ∙ ap (λ (gs : List hb_glyph_info_t). glyph_at gs place) c.info.ensures)
    (c.position_at-position.ensures ∙ slice_index_or-position_at s c.pos.result.now place c.pos.ensures.positions) c.marks_around.ensures
