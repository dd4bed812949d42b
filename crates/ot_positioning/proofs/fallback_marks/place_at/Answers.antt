use Rattle.std.proofs.Common.{List, refl, ap, ◌∙◌}
use Rattle.rb_glyph.specs.declared.info.hb_glyph_info_t.{hb_glyph_info_t}
use Rattle.ot_lookups.specs.LookupProps.{glyph_at}
use Rattle.ot_positions.proofs.AdvanceLemmas.{rest_after}
use Rattle.ot_positioning.specs.MarkPlacing.{position_at}
use Rattle.ot_positioning.proofs.MarkLemmas.{behind_at, slice_index_or-position_at}
use Rattle.ot_positioning.proofs.fallback_marks.place_at.Goals as goal

pub returns-clause-is : goal.returns-clause-is
returns-clause-is g c =
    let s = c.args.buffer.now in
    let place = c.args.place in
    record {
      position = c.place_one.new.position;
      placed = behind_at c.args.adjusts c.info_at-info.result (glyph_at s.input place) c.args.marks.now c.place_one.new.marks
          c.position_at-position.result (position_at place s) c.place_one.new.position
          (c.info_at-info.ensures ∙ ap (λ (gs : List hb_glyph_info_t). glyph_at gs place) c.info.ensures)
          (c.position_at-position.ensures ∙ slice_index_or-position_at s c.pos.result.now place c.pos.ensures.positions)
          c.in_ok-place_one.ensures;
      changed = c.set_position.ensures.is;
    }

pub returns-clause-rest : goal.returns-clause-rest
returns-clause-rest g c = rest_after c.args.buffer.now c.args.buffer.now c.set_position.new.buffer _ refl c.set_position.ensures.is
