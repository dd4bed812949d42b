use Rattle.std.proofs.Common.{◌≡◌, ◌<◌, ℕ, List, length, subst, ap, ◌∙◌, arith}
use Rattle.std.specs.Prelude.{slice_index_or}
use Rattle.glyph_lists.specs.Clusters.{zero_glyph}
use Rattle.rb_glyph.specs.declared.info.hb_glyph_info_t.{hb_glyph_info_t}
use Rattle.ot_positions.specs.FontPositions.{IsAdvanced, glyph_of}
use Rattle.ot_positions.proofs.AdvanceLemmas.{advanced_more, len_closed, placed_by, rest_after}
use Rattle.ot_positions.proofs.positions.advance_glyphs.Goals as goal

pub loop-i-preserved : goal.loop-i-preserved
loop-i-preserved g c =
    let may = g.F.FontFunctions.may_advance c.args.font.now in
    let in_range : c.loop-i.i < length c.args.buffer.now.input =
    omega (arith, c.loop-i-test.true, c.len-i-end.ensures.len, len_closed c.args.buffer.now c.requires.closed) in
    let glyph : c.glyph_of.result.0 ≡ glyph_of (slice_index_or c.loop-i.buffer.input c.loop-i.i zero_glyph) =
    c.glyph_of.ensures ∙ ap glyph_of c.info_at.ensures
    ∙ ap (λ (gs : List hb_glyph_info_t). glyph_of (slice_index_or gs c.loop-i.i zero_glyph)) c.info.ensures in
    record {
      rest = rest_after c.args.buffer.now c.loop-i.buffer c.set_position.new.buffer _ c.loop-i.invariant.rest c.set_position.ensures.is;
      placed = c.set_position.ensures.placed;
      advanced = λ lacks.
          advanced_more may lacks c.loop-i.i zero_glyph c.args.buffer.now c.loop-i.buffer c.set_position.new.buffer
          c.advanced-position.result in_range c.loop-i.invariant.rest c.set_position.ensures.is (c.loop-i.invariant.advanced lacks)
          (placed_by may lacks (slice_index_or c.loop-i.buffer.input c.loop-i.i zero_glyph) c.advanced-position.result
          (subst (λ (n : ℕ). IsAdvanced may n c.advanced-position.result) glyph c.advanced-position.ensures));
    }
