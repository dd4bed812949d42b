use Rattle.std.proofs.Common.{◌≡◌, refl, arith, pos}
use Rattle.std.specs.Prelude.{◌+ℤ◌, ◌-ℤ◌}
use Rattle.std.proofs.lemmas.Int.{to_z-of_z}
use Rattle.font_tables.specs.Metrics.{advance}
use Rattle.font_gvar.specs.Phantoms.{across, left_edge, phantoms, top_edge, upwards}
use Rattle.font_gvar.proofs.sources.GlyphSources.phantoms.Goals as goal

pub returns : goal.returns
unfolding phantoms
returns c =
    let s = c.args.self.now in
    let glyph = c.args.glyph.0 in
    let left = left_edge s.horizontal glyph c.args.outline.now in
    let top = top_edge s.vertical glyph c.args.outline.now in
    let at_left : c.across.result ≡ across left = grind (arith, to_z-of_z) in
    let at_right : c.across-2.result ≡ across (left +ℤ pos (advance s.horizontal glyph)) = grind (arith, to_z-of_z) in
    let at_top : c.upwards.result ≡ upwards top = grind (arith, to_z-of_z) in
    let at_bottom : c.upwards-2.result ≡ upwards (top -ℤ pos (advance s.vertical glyph)) = grind (arith, to_z-of_z) in
    rw (at_left, at_right, at_top, at_bottom) refl
