use Rattle.std.proofs.Common.{ℕ, ◌<◌}
use Rattle.glyph_digests.specs.Digest.{HasMore}
use Rattle.ot_lookups.specs.Seconds.{HasSecondAt}
use Rattle.ot_lookups.proofs.seconds.add_seconds.Given as goal

-- the digest has the second glyphs of the ligatures so far
abbrev pub invariant-loop-index : goal.invariant-loop-index
invariant-loop-index l =
    HasMore l.fn.digest l.digest × ((k : ℕ) → k < l.index → HasSecondAt l.set k l.digest)
