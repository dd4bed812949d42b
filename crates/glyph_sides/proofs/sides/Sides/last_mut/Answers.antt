use Rattle.std.proofs.Common.{◌<◌, length, refl, sym, subst, arith}
use Rattle.std.proofs.lemmas.Grind.{common_steps}
use Rattle.glyph_sides.specs.TwoLists.{TwoLists}
use Rattle.glyph_sides.specs.IsStored.{placed}
use Rattle.glyph_sides.proofs.Views.{placed_within, sub-none_placed}
use Rattle.glyph_sides.proofs.FrontLemmas.{last_written, last_input}
use Rattle.glyph_sides.proofs.sides.Sides.last_mut.Goals as goal

pub returns : goal.returns
returns c =
    let b = c.self.inside in
    let near = c.if-self.false in
    let some = subst (λ (s : TwoLists). 0 < length s.out) (sym c.self.view_is) c.requires in (
      (
        refl,
        λ w.
            let written = last_written b.is_separate b.out_info.items b.info.items (placed b) w near some in
            let rest = last_input b.is_separate b.out_info.items b.info.items (placed b) w near some b.is_open b.cursor
            (placed_within b.is_open b.cursor b.gap) (sub-none_placed b.is_open b.cursor b.gap) in
            rw (← c.self.view_is) (rw c.placed-last.ensures (grind (arith, written, rest))),
      ),
      record { writes_back = tt; value = grind (arith, common_steps) },
    )
