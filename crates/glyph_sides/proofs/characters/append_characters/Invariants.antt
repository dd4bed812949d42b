use Rattle.std.proofs.Common.{◌≡◌, ◌++◌, vec_capacity, chars}
use Rattle.std.specs.Str.Iter.{char_indices_rest, char_indices_offset}
use Rattle.glyph_sides.specs.TextGlyphs.{glyphs_at}
use Rattle.glyph_sides.proofs.CharactersLemmas.{Filling}
use Rattle.glyph_sides.proofs.characters.append_characters.Given as goal

abbrev pub invariant-loop-i : goal.invariant-loop-i
invariant-loop-i l =
    (goal.iterator-loop-i).can_next l.i-iterator × (goal.iterator-loop-i).is_finite l.i-iterator
    × Filling (l.fn.info.items ++ glyphs_at 0 (chars l.fn.text)) l.info.items (char_indices_offset l.i-iterator)
    (char_indices_rest l.i-iterator) (vec_capacity l.info)
    × (vec_capacity l.info ≡ vec_capacity l.fn.info)
