use Rattle.std.proofs.Common.{◌+◌, refl, arith}
use Rattle.std.proofs.lemmas.Grind.{common_steps}
use Rattle.glyph_sides.specs.IsStored.{placed}
use Rattle.glyph_sides.proofs.Views.{if-set_left, placed_within}
use Rattle.glyph_sides.proofs.FrontLemmas.{if-set}
use Rattle.glyph_sides.proofs.sides.Sides.cur_mut.Goals as goal

pub returns : goal.returns
returns c =
    let b = c.self.inside in (
      (
        refl,
        λ w.
            let near = placed_within b.is_open b.cursor b.gap in
            let kept = if-set b.is_separate b.out_info.items b.info.items (placed b) (b.cursor + c.args.i) w
            (λ h. omega (arith, near)) in
            rw (← c.self.view_is) (grind (arith, kept, if-set_left)),
      ),
      record { writes_back = tt; value = grind (arith, common_steps) },
    )
