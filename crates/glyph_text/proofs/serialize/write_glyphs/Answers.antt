use Rattle.std.proofs.Common.{ap, sym, ◌∙◌, ◌++◌, ◌+ℤ◌, get_or, take, arith, pos, string_bytes}
use Rattle.std.specs.List.{zip}
use Rattle.std.proofs.lemmas.Bool.{cond-true}
use Rattle.std.proofs.lemmas.List.Sums.{fold_more}
use Rattle.rb_glyph.specs.declared.info.hb_glyph_info_t.{hb_glyph_info_t}
use Rattle.rb_glyph.specs.declared.position.GlyphPosition.{GlyphPosition}
use Rattle.glyph_text.specs.Text.{Font, bar_before, glyphs_text, x_advances, y_advances, name_text, cluster_text}
use Rattle.glyph_text.specs.Text.{position_text, flags_text, extents_text, said_of}
use Rattle.glyph_text.proofs.TextLemmas.{no_glyph, no_position, glyphs_text-more, pieces_more, position_text-same}
use Rattle.glyph_text.proofs.serialize.write_glyphs.Goals as goal

pub loop-i-preserved : goal.loop-i-preserved
loop-i-preserved g c =
    let font : Font =
    record { name = g.F.GlyphNames.name_of c.args.font.now; extents = g.F.GlyphNames.extents_of c.args.font.now } in
    let flags = c.args.flags in
    let infos = c.args.infos.now in
    let positions = c.args.positions.now in
    let i = c.loop-i.i in
    let old = c.loop-i.invariant in
    let info : hb_glyph_info_t = get_or infos i no_glyph in
    let position : GlyphPosition = get_or positions i no_position in
    let earlier = take i positions in
    let place = c.loop-i.pen in
    let moved = c.behind-pen.ensures in
    record {
      written = pieces_more (string_bytes c.loop-i.text) _ _ _ _ (bar_before i) _ _ _ _ _ c.in_ok-write_head.ensures
          c.in_ok-write_position.ensures c.in_ok-write_flags.ensures c.in_ok-write_extents.ensures
          ∙ ap (λ t. (t ++ bar_before i) ++ (name_text flags (said_of font.name info.glyph_id) info.glyph_id
          ++ cluster_text flags info.cluster ++ position_text flags place.x place.y position
          ++ flags_text flags info.mask ++ extents_text flags (said_of font.extents info.glyph_id))) old.written
          ∙ ap (λ t. (glyphs_text font flags (take i (zip infos positions)) ++ bar_before i)
          ++ (name_text flags (said_of font.name info.glyph_id) info.glyph_id ++ cluster_text flags info.cluster ++ t
          ++ flags_text flags info.mask ++ extents_text flags (said_of font.extents info.glyph_id)))
          (position_text-same flags place.x place.y (x_advances earlier) (y_advances earlier) position old.x old.y)
          ∙ sym (glyphs_text-more font flags infos positions i no_glyph no_position c.loop-i-test.true
          c.requires.as_many);
      x = λ h. moved.x ∙ cond-true _ _ _ h ∙ ap (λ x. x +ℤ position.x_advance) (old.x h)
          ∙ sym (fold_more (λ sum p. sum +ℤ p.x_advance) (pos 0) positions i no_position
          (omega (arith, c.requires.as_many)));
      y = λ h. moved.y ∙ cond-true _ _ _ h ∙ ap (λ y. y +ℤ position.y_advance) (old.y h)
          ∙ sym (fold_more (λ sum p. sum +ℤ p.y_advance) (pos 0) positions i no_position
          (omega (arith, c.requires.as_many)));
      x_near = omega (arith, moved.near_x, old.x_near);
      y_near = omega (arith, moved.near_y, old.y_near);
    }
