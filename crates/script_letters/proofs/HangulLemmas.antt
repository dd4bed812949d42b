-- Jamo that keep their numbers, and what is done by what holds.
use Rattle.std.proofs.Common.{◌≡◌, ℕ, ◌+◌, ◌-◌, ◌<◌, ◌≤◌, List, length, Some, refl, ◌∙◌}
use Rattle.std.specs.Prelude.{nat_lt, slice_index_or}
use Rattle.std.proofs.lemmas.Bool.{cond_both, cond-true, cond-false, lt-ltb, le-ltb, le-leb, lt-leb, eq-eqb, ne_eqb, and_from, and_left, and_right}
use Rattle.std.proofs.lemmas.List.{length-set}
use Rattle.rb_glyph.specs.declared.info.hb_glyph_info_t.{hb_glyph_info_t}
use Rattle.glyph_lists.specs.Clusters.{zero_glyph}
use Rattle.shaping_buffer.specs.State.{State, len}
use Rattle.shaping_buffer.specs.ClusterStep.{merge_out_clusters, unsafe_to_break}
use Rattle.script_items.specs.Item.{with_shaper_byte}
use Rattle.script_letters.specs.Hangul.{flagged_unsafe, jamo_merged, numbered, numbered_at}

length-numbered_at : (place number : ℕ) (l : List hb_glyph_info_t) → length (numbered_at place number l) ≡ length l
unfolding numbered_at
length-numbered_at place number l = length-set l place (with_shaper_byte number (slice_index_or l place zero_glyph))

pub length-numbered : (start : ℕ) (l : List hb_glyph_info_t) → length (numbered start l) ≡ length l
length-numbered start l =
    let one = numbered_at start 1 l in
    let two = numbered_at (start + 1) 2 one in
    cond_both (nat_lt start (length l)) (numbered_at (start + 2) 3 two) l (λ (xs : List hb_glyph_info_t). length xs ≡ length l)
    (λ _. length-numbered_at (start + 2) 3 two ∙ length-numbered_at (start + 1) 2 one ∙ length-numbered_at start 1 l) (λ _. refl)

module _ (count : ℕ) (s : State) where
  pub flagged_unsafe-some : 0 < count → count ≤ len s - s.idx
      → flagged_unsafe count s ≡ unsafe_to_break (Some s.idx) (Some (s.idx + count)) s
  unfolding flagged_unsafe
  flagged_unsafe-some some within =
      cond-true _ _ _ (and_from _ _ (lt-ltb 0 count some) (le-leb count (len s - s.idx) within))

  pub flagged_unsafe-none : count ≤ 0 → flagged_unsafe count s ≡ s
  unfolding flagged_unsafe
  flagged_unsafe-none none = cond-false _ _ _ (and_left _ _ (le-ltb 0 count none))

  pub flagged_unsafe-past : len s - s.idx < count → flagged_unsafe count s ≡ s
  unfolding flagged_unsafe
  flagged_unsafe-past past = cond-false _ _ _ (and_right _ _ (lt-leb count (len s - s.idx) past))

  pub jamo_merged-yes : s.cluster_level ≡ 0 → count ≤ length s.out → jamo_merged count s ≡ merge_out_clusters count (length s.out) s
  unfolding jamo_merged
  jamo_merged-yes graphemes within =
      cond-true _ _ _ (and_from _ _ (eq-eqb s.cluster_level 0 graphemes) (le-leb count (length s.out) within))

  pub jamo_merged-level : (s.cluster_level ≡ 0 → ⊥) → jamo_merged count s ≡ s
  unfolding jamo_merged
  jamo_merged-level other = cond-false _ _ _ (and_left _ _ (ne_eqb s.cluster_level 0 other))

  pub jamo_merged-past : length s.out < count → jamo_merged count s ≡ s
  unfolding jamo_merged
  jamo_merged-past past = cond-false _ _ _ (and_right _ _ (lt-leb count (length s.out) past))

pub ruleset steps = (
  flagged_unsafe-some,
  flagged_unsafe-none,
  flagged_unsafe-past,
  jamo_merged-yes,
  jamo_merged-level,
  jamo_merged-past,
)
