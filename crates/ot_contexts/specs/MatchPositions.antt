-- The places of a match after a lookup that it applied put glyphs in, or took some out.
use Rattle.std.specs.Prelude.{◌≡◌, ℕ, ◌+◌, ◌-◌, ◌^◌, ◌<◌, ◌&&◌, Bool, List, length, map, max, min, nat_le, nat_lt, slice_index, if◌then◌else◌}
use Rattle.std.specs.List.{range_with_len}
use Rattle.ot_contexts.specs.declared.match_positions.Matched.{Matched}

-- a place that moves up; none is more than 64 bits hold
abbrev pub moved_up : ℕ → ℕ → ℕ
moved_up place by = min (place + by) (2 ^ 64 - 1)

-- Behind the glyph `number` so many were put in: they are the next glyphs of the match, and those after move up.
unfoldable pub grown_place : List ℕ → ℕ → ℕ → ℕ → ℕ
grown_place places number added k =
    if nat_le k number then slice_index places k
    else if nat_le k (number + added) then moved_up (slice_index places number) (k - number)
    else moved_up (slice_index places (k - added)) added

-- Behind the glyph `number` so many of the match were taken out, and those after move down.
unfoldable pub shrunk_place : List ℕ → ℕ → ℕ → ℕ → ℕ
shrunk_place places number removed k =
    if nat_le k number then slice_index places k else slice_index places (k + removed) - removed

-- The glyph of this number stands behind the end of the match, which lookups took glyphs out of.
abbrev pub is_behind : List ℕ → ℕ → ℕ → Bool
is_behind places end number = nat_lt number (length places) && nat_le end (slice_index places number)

-- the list has so many numbers, and these
pub record AreAll (f : ℕ → ℕ) (count : ℕ) (xs : List ℕ) : Type 0 where
  pub count_of : length xs ≡ count
  pub each : (k : ℕ) → k < count → slice_index xs k ≡ f k

-- Where a match ends after a lookup was applied to the glyph of this number, where both sides had `before` glyphs, and have `after`: not
-- before that glyph.
abbrev pub followed_end : List ℕ → ℕ → ℕ → ℕ → ℕ → ℕ
followed_end places end number before after =
    if nat_lt after before then max (end - (before - after)) (slice_index places number) else moved_up end (after - before)

-- how many glyphs of the match behind that one were taken out
abbrev pub taken_out : List ℕ → ℕ → ℕ → ℕ → ℕ → ℕ
taken_out places end number before after =
    min (end - followed_end places end number before after) (length places - (number + 1))

-- the places of a match that are counted from so many glyphs before them
abbrev pub AreMovedUp : List ℕ → ℕ → List ℕ → Type 0
AreMovedUp places by xs = AreAll (λ k. moved_up (slice_index places k) by) (length places) xs

-- ---- a match

-- the glyphs of a match, by their places in both sides as one list, and where it ends
pub record Match : Type 0 where
  pub places : List ℕ
  pub end : ℕ

abbrev pub match_of : Matched → Match
match_of matched = record { places = matched.places.items; end = matched.end }

-- the same counted from a cursor that so many glyphs stand before
abbrev pub match_at : ℕ → List ℕ → ℕ → Match
match_at before places end =
    record { places = map (λ place. moved_up place before) places; end = moved_up before end }

-- so many places, each by its number
abbrev pub places_by : (ℕ → ℕ) → ℕ → List ℕ
places_by place count = map place (range_with_len 0 count)

-- the places after a lookup was applied to the glyph of this number, where both sides had `before` glyphs, and have `after`
unfoldable pub followed_places : Match → ℕ → ℕ → ℕ → List ℕ
followed_places m number before after =
    if nat_lt after before
    then (let taken = taken_out m.places m.end number before after in
    places_by (shrunk_place m.places number taken) (length m.places - taken))
    else if nat_lt before after
    then places_by (grown_place m.places number (after - before)) (length m.places + (after - before))
    else m.places

-- whether it would have more than 64 glyphs then; its places stay
abbrev pub is_full : Match → ℕ → ℕ → Bool
is_full m before after = nat_lt before after && nat_lt 64 (length m.places + (after - before))

-- the match after that lookup
abbrev pub followed : Match → ℕ → ℕ → ℕ → Match
followed m number before after = record {
  places = if is_full m before after then m.places else followed_places m number before after;
  end = followed_end m.places m.end number before after;
}
