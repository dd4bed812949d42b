-- One more glyph gets its number.
use Rattle.std.proofs.Common.{◌≡◌, ℕ, zero, suc, ◌+◌, ◌%◌, ◌<◌, List, [], ◌∷◌, ◌++◌, length, take, drop, slice_index_or}
use Rattle.std.proofs.Common.{slice_set, ap, ◌∙◌, arith}
use Rattle.rb_glyph.specs.declared.info.hb_glyph_info_t.{hb_glyph_info_t}
use Rattle.glyph_lists.specs.ClusterNumbers.{reset_clusters}

abbrev pub numbered : ℕ → hb_glyph_info_t → hb_glyph_info_t
numbered n g = record g { cluster = n % 4294967296 }

-- the glyphs before i have their numbers
abbrev pub reset_below : ℕ → ℕ → List hb_glyph_info_t → List hb_glyph_info_t
reset_below first i gs = reset_clusters first (take i gs) ++ drop i gs

slice_set-reset_below_from : (first i n : ℕ) (gs : List hb_glyph_info_t) (d : hb_glyph_info_t) → i < length gs
    → n ≡ first + i
    → slice_set (reset_below first i gs) i (numbered n (slice_index_or (reset_below first i gs) i d))
    ≡ reset_below first (suc i) gs
slice_set-reset_below_from first i n [] d h is = absurd (omega arith)
slice_set-reset_below_from first zero n (g ∷ gs) d h is =
    ap (λ m. numbered m g ∷ gs) (let e : n ≡ first = omega arith in e)
slice_set-reset_below_from first (suc i) n (g ∷ gs) d h is =
    ap (λ l. numbered first g ∷ l) (slice_set-reset_below_from (first + 1) i n gs d (omega arith) (omega arith))

pub slice_set_reset_below : (i : ℕ) (gs : List hb_glyph_info_t) (d : hb_glyph_info_t) → i < length gs
    → slice_set (reset_below 0 i gs) i (numbered i (slice_index_or (reset_below 0 i gs) i d)) ≡ reset_below 0 (i + 1) gs
slice_set_reset_below i gs d h =
    slice_set-reset_below_from 0 i i gs d h (omega arith)
    ∙ ap (λ k. reset_below 0 k gs) (let e : suc i ≡ i + 1 = omega arith in e)
