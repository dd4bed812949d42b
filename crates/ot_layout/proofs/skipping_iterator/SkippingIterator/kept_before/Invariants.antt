use Rattle.std.proofs.Common.{◌≡◌, ◌+◌}
use Rattle.ot_layout.specs.SkippingIterator.{passes, kept_before}
use Rattle.ot_layout.proofs.skipping_iterator.SkippingIterator.kept_before.Given as goal

abbrev pub invariant-loop-turn : goal.invariant-loop-turn
invariant-loop-turn l =
    (l.end + l._turn ≡ l.place) × (kept_before (passes l.self l.matcher) l.glyphs l.place
    ≡ kept_before (passes l.self l.matcher) l.glyphs l.end)
