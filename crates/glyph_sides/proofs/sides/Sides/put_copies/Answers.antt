use Rattle.std.proofs.Common.{◌+◌, ◌-◌, ◌≤◌, length, arith}
use Rattle.std.proofs.lemmas.Grind.{common_steps}
use Rattle.glyph_lists.proofs.LengthsLemmas.{length_copies}
use Rattle.glyph_sides.proofs.ShiftLemmas.{drop_further}
use Rattle.glyph_sides.proofs.sides.Sides.put_copies.Goals as goal

pub returns-clause-done : goal.returns-clause-done
returns-clause-done c =
    let a = c.args in
    let b = c.self.inside in
    let placed = b.cursor - b.gap in
    let room : placed + length a.ids.now ≤ b.cursor + a.read = grind (arith, common_steps) in
    let left = drop_further c.write_copies.new.info _ (placed + length a.ids.now) (b.cursor + a.read)
    room c.write_copies.ensures.behind in
    let put = c.write_copies.ensures.put in
    let count = length_copies a.glyph a.ids.now in
    grind (arith, common_steps, left, put, count)
