use Rattle.std.proofs.Common.{◌≡◌, ◌<◌, List, length, subst, ap, ◌∙◌, arith}
use Rattle.std.specs.Prelude.{slice_index_or}
use Rattle.glyph_lists.specs.Clusters.{zero_glyph}
use Rattle.rb_glyph.specs.declared.info.hb_glyph_info_t.{hb_glyph_info_t}
use Rattle.ot_positions.specs.FontPositions.{IsPlaced}
use Rattle.ot_positions.proofs.AdvanceLemmas.{advanced_more, len_closed, rest_after}
use Rattle.ot_positions.proofs.positions.place_glyphs.Goals as goal

pub loop-i-preserved : goal.loop-i-preserved
loop-i-preserved g c =
    let may = g.F.FontFunctions.may_advance c.args.positions.now.font.now in
    let lacks = c.args.has_spaces in
    let position = c.in_ok-position.position in
    let in_range : c.loop-i.i < length c.args.buffer.now.input =
    omega (arith, c.loop-i-test.true, c.len-i-end.ensures.len, len_closed c.args.buffer.now c.requires.closed) in
    let item : c.info_at.result.now ≡ slice_index_or c.loop-i.buffer.input c.loop-i.i zero_glyph =
    c.info_at.ensures ∙ ap (λ (gs : List hb_glyph_info_t). slice_index_or gs c.loop-i.i zero_glyph) c.info.ensures in
    record {
      rest = rest_after c.args.buffer.now c.loop-i.buffer c.set_position.new.buffer _ c.loop-i.invariant.rest c.set_position.ensures.is;
      placed = c.set_position.ensures.placed;
      kept = c.in_ok-position.ensures.kept;
      font = c.in_ok-position.ensures.font ∙ c.loop-i.invariant.font;
      direction = c.in_ok-position.ensures.direction ∙ c.loop-i.invariant.direction;
      advanced = λ horizontal.
          advanced_more may lacks c.loop-i.i zero_glyph c.args.buffer.now c.loop-i.buffer c.set_position.new.buffer position
          in_range c.loop-i.invariant.rest c.set_position.ensures.is (c.loop-i.invariant.advanced horizontal)
          (subst (λ (x : hb_glyph_info_t). IsPlaced may lacks x position) item
          (subst (λ f. IsPlaced (g.F.FontFunctions.may_advance f.now) lacks c.info_at.result.now position)
          c.loop-i.invariant.font (c.in_ok-position.ensures.position (c.loop-i.invariant.direction ∙ horizontal))));
    }
