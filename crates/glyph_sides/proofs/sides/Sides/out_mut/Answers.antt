use Rattle.std.proofs.Common.{◌≡◌, ◌≤◌, ◌∙◌, length, refl, arith}
use Rattle.std.proofs.lemmas.Grind.{common_steps}
use Rattle.glyph_sides.specs.IsStored.{placed}
use Rattle.glyph_sides.proofs.Views.{placed_within, sub-none_placed}
use Rattle.glyph_sides.proofs.FrontLemmas.{front_written, if-with_front, length_placed}
use Rattle.glyph_sides.proofs.sides.Sides.out_mut.Goals as goal

pub returns : goal.returns
returns c =
    let b = c.self.inside in let near = placed_within b.is_open b.cursor b.gap in
    let within : placed b ≤ length b.info.items = omega (arith, near, c.self.invariant.cursor_within) in
    let all : c.placed-placed.result ≡ placed b = c.placed-placed.ensures
    ∙ length_placed b.is_separate b.out_info.items b.info.items (placed b) c.if-self.false within in (
      (
        refl,
        λ w.
            let written = front_written b.info (placed b) w within in
            let rest =
            if-with_front b.is_open b.info (placed b) b.cursor w within near
            (sub-none_placed b.is_open b.cursor b.gap) in
            rw (← c.self.view_is) (rw all (grind (arith, written, rest))),
      ),
      record { writes_back = tt; value = grind (arith, common_steps) },
    )
