use Rattle.std.proofs.Common.{reverse, chars}
use Rattle.std.specs.Iterator.Adapters.{take_source, take_count, rev_source}
use Rattle.std.specs.Str.Iter.{chars_rest}
use Rattle.glyph_lists.proofs.ContextLemmas.{Reading}
use Rattle.glyph_lists.proofs.context.keep_before.Given as goal

abbrev pub invariant-loop-c : goal.invariant-loop-c
invariant-loop-c l =
    let bytes = chars_rest (rev_source (take_source l.c-iterator)) in
    (goal.iterator-loop-c).can_next l.c-iterator × (goal.iterator-loop-c).is_finite l.c-iterator
    × Reading (reverse (chars l.text)) l.context.items (reverse (chars bytes)) bytes (take_count l.c-iterator)
