use Rattle.std.proofs.Common.{length, ◌-◌, ◌≡◌, ◌+◌, ◌≤◌, drop, get_or}
use Rattle.glyph_lists.specs.Groups.{Test, first_group_len}
use Rattle.glyph_lists.proofs.groups.group_end.Given as goal

abbrev pub invariant-loop-end : goal.invariant-loop-end
invariant-loop-end g l =
    (l.start + 1 ≤ l.end) × (l.end ≤ length l.info) × (l.last ≡ get_or l.info (l.end - 1) l.last)
    × ((test : Test) → ((x y : _) (r : _) → goal.F-post g l.group x y r → r ≡ test x.now y.now)
    → l.start + first_group_len test (drop l.start l.info)
    ≡ (l.end - 1) + first_group_len test (drop (l.end - 1) l.info))

abbrev pub decreases-loop-end : goal.decreases-loop-end
decreases-loop-end g l = length l.info - l.end
