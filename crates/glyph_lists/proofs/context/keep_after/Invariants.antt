use Rattle.std.proofs.Common.{chars}
use Rattle.std.specs.Iterator.Adapters.{take_source, take_count}
use Rattle.std.specs.Str.Iter.{chars_rest}
use Rattle.glyph_lists.proofs.ContextLemmas.{Reading}
use Rattle.glyph_lists.proofs.context.keep_after.Given as goal

abbrev pub invariant-loop-c : goal.invariant-loop-c
invariant-loop-c l =
    let bytes = chars_rest (take_source l.c-iterator) in
    (goal.iterator-loop-c).can_next l.c-iterator × (goal.iterator-loop-c).is_finite l.c-iterator
    × Reading (chars l.text) l.context.items (chars bytes) bytes (take_count l.c-iterator)
