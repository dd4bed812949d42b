use Rattle.std.proofs.Common.{arith}
use Rattle.glyph_text.specs.Text.{Font}
use Rattle.line_formats.proofs.JsonLemmas.{no_glyph, no_position, pieces, glyphs_json-more, glyphs_json-all}
use Rattle.line_formats.specs.Json.{comma_before}
use Rattle.line_formats.proofs.json.glyphs_json.Goals as goal

pub loop-i-preserved : goal.loop-i-preserved
loop-i-preserved g c =
    let font : Font =
    record { name = g.F.GlyphNames.name_of c.args.font.now; extents = g.F.GlyphNames.extents_of c.args.font.now } in
    let infos = c.args.infos.now in
    let positions = c.args.positions.now in
    let i = c.loop-i.i in
    let old = c.loop-i.invariant in
    let moved = c.behind-pen.ensures in
    record {
      left = glyphs_json-more font c.args.flags infos positions i c.loop-i.text.items _ c.loop-i.pen.x c.loop-i.pen.y _ _
          no_glyph no_position c.loop-i-test.true c.requires old.left
          (pieces c.loop-i.text.items _ _ _ (comma_before i) _ _ _ _ _ _ _ c.in_ok-write_head.ensures
          c.in_ok-write_position.ensures c.in_ok-write_tail.ensures)
          moved.x moved.y;
      x_near = omega (arith, moved.near_x, old.x_near);
      y_near = omega (arith, moved.near_y, old.y_near);
    }

pub returns : goal.returns
returns g c =
    glyphs_json-all _ c.args.flags c.args.infos.now c.args.positions.now c.loop-i.i c.loop-i.text.items c.loop-i.pen.x
    c.loop-i.pen.y c.loop-i-test.false c.loop-i.invariant.left
