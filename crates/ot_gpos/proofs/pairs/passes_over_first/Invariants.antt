use Rattle.std.proofs.Common.{◌≡◌, ◌-◌}
use Rattle.ot_lookups.specs.Lookup.{is_for}
use Rattle.ot_lookups.specs.LookupProps.{glyph_at}
use Rattle.ot_gpos.proofs.pairs.passes_over_first.Given as goal
use Rattle.ot_attachments.specs.Places.{behind, some_place}

-- the places that are left pass the test as all do
abbrev pub invariant-loop-place : goal.invariant-loop-place
invariant-loop-place l =
    some_place (λ k. is_for l.turn.lookup.now l.turn.iterator.mask (glyph_at l.glyphs k)) l.place (l.to - l.place)
    ≡ some_place (λ k. is_for l.turn.lookup.now l.turn.iterator.mask (glyph_at l.glyphs k)) (behind l.turn.place) (l.to - behind l.turn.place)
