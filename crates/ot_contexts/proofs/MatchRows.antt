-- Worked rows: the places of a match while lookups are applied to its glyphs (HarfBuzz, `apply_lookup`).
use Rattle.std.proofs.Common.{◌≡◌, ℕ, zero, suc, ◌<◌, List, [], ◌∷◌, refl, sym, ap, arith, slice_index}
use Rattle.ot_contexts.specs.MatchPositions.{Match, followed, followed_places, grown_place, shrunk_place}
use Rattle.ot_contexts.proofs.MatchPositionsLemmas.{all_by}

-- a rule takes glyphs at three places
abbrev taken : Match
taken = record { places = 5 ∷ 6 ∷ 8 ∷ []; end = 9 }

-- the first and the second become a ligature: the third is the second now
of_ligature : (k : ℕ) → k < 2 → slice_index (5 ∷ 7 ∷ []) k ≡ shrunk_place taken.places 0 1 k
unfolding shrunk_place
of_ligature zero less = refl
of_ligature (suc zero) less = refl
of_ligature (suc (suc k)) less = absurd (omega (arith, less))

after_ligature : followed taken 0 12 11 ≡ record { places = 5 ∷ 7 ∷ []; end = 8 }
unfolding followed_places
after_ligature =
    ap (λ (l : List ℕ). record { places = l; end = 8 })
    (sym (all_by (shrunk_place taken.places 0 1) 2 (5 ∷ 7 ∷ []) (record { count_of = refl; each = of_ligature })))

-- the first becomes two: they are the first and the second now
of_sequence : (k : ℕ) → k < 4 → slice_index (5 ∷ 6 ∷ 7 ∷ 9 ∷ []) k ≡ grown_place taken.places 0 1 k
unfolding grown_place
of_sequence zero less = refl
of_sequence (suc zero) less = refl
of_sequence (suc (suc zero)) less = refl
of_sequence (suc (suc (suc zero))) less = refl
of_sequence (suc (suc (suc (suc k)))) less = absurd (omega (arith, less))

after_sequence : followed taken 0 12 13 ≡ record { places = 5 ∷ 6 ∷ 7 ∷ 9 ∷ []; end = 10 }
unfolding followed_places
after_sequence =
    ap (λ (l : List ℕ). record { places = l; end = 10 })
    (sym (all_by (grown_place taken.places 0 1) 4 (5 ∷ 6 ∷ 7 ∷ 9 ∷ []) (record { count_of = refl; each = of_sequence })))

-- one for one moves nothing
after_single : followed taken 1 12 12 ≡ taken
unfolding followed_places
after_single = refl
