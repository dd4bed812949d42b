use Rattle.std.proofs.Common.{◌≡◌, ◌≤◌}
use Rattle.ot_layout.specs.SkippingIterator.{passes, first_kept}
use Rattle.ot_layout.proofs.skipping_iterator.SkippingIterator.first_kept.Given as goal

abbrev pub invariant-loop-place : goal.invariant-loop-place
invariant-loop-place l =
    (l.start ≤ l.place) × (first_kept (passes l.self l.matcher) l.glyphs l.start
    ≡ first_kept (passes l.self l.matcher) l.glyphs l.place)
