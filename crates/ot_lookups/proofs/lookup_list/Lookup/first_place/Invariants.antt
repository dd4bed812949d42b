use Rattle.std.proofs.Common.{ℕ, ◌≡◌, ◌<◌, ◌≤◌, false}
use Rattle.ot_lookups.specs.Lookup.{is_for}
use Rattle.ot_lookups.specs.LookupProps.{glyph_at}
use Rattle.ot_lookups.proofs.lookup_list.Lookup.first_place.Given as goal

-- the lookup does nothing at the places so far
abbrev pub invariant-loop-place : goal.invariant-loop-place
invariant-loop-place l =
    (place : ℕ) → l.start ≤ place → place < l.place → is_for l.self l.mask (glyph_at l.glyphs place) ≡ false
