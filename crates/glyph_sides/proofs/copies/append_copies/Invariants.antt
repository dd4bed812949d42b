use Rattle.std.proofs.Common.{◌≡◌, ◌++◌, take, vec_capacity}
use Rattle.glyph_lists.specs.Replacement.{copies}
use Rattle.glyph_sides.proofs.copies.append_copies.Given as goal

-- the copies so far were appended
abbrev pub invariant-loop-id : goal.invariant-loop-id
invariant-loop-id l = (l.out.items ≡ l.fn.out.items ++ copies l.glyph (take l.id-index l.ids))
    × (vec_capacity l.out ≡ vec_capacity l.fn.out)
