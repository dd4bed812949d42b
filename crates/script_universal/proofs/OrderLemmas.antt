-- What moves in a syllable leaves the glyphs before it, and items in the order of their positions.
use Rattle.std.proofs.Common.{◌≡◌, ℕ, ◌-◌, ◌<◌, ◌≤◌, ◌++◌, ◌&&◌, ◌||◌, Bool, false, cond, eqb, leb, ltb, min, List}
use Rattle.std.proofs.Common.{length, map, take, drop, refl, sym, ap, ◌∙◌, arith, inl, inr}
use Rattle.std.proofs.lemmas.Bool.{cond_both, cond-true, cond-false, cases_lt, lt-leb, le-leb, lt-ltb, le-ltb}
use Rattle.std.proofs.lemmas.Bool.{and_left, and_right, or_from, or_left, or_right}
use Rattle.std.proofs.lemmas.List.{drop-map, length-map, length-take-le, take-append-le, take-map, take-take}
use lib.Seq.{drop-append_seam}
use Rattle.rb_glyph.specs.declared.info.hb_glyph_info_t.{hb_glyph_info_t}
use Rattle.glyph_lists.specs.declared.glyph_flags.TheConstants.{BREAK_BITS}
use Rattle.glyph_lists.specs.Clusters.{clusters, least, range_least, run_merge, widened_end, widened_start, with_cluster}
use Rattle.glyph_lists.specs.Deletion.{merge_or_mark}
use Rattle.glyph_lists.specs.Marks.{mark, with_glyph_flags}
use Rattle.glyph_lists.specs.Parts.{is_short, on_part, part}
use Rattle.glyph_lists.proofs.MergesLemmas.{with_cluster_others}
use Rattle.glyph_lists.proofs.PartsLemmas.{map-map_range, map-map_same, map-new_part}
use Rattle.glyph_lists.proofs.RunsLemmas.{widened_end-ge, widened_start-le}
use Rattle.glyph_laws.specs.Cores.{core, cores}
use Rattle.shaping_buffer.specs.ClusterStep.{any_order, both, both_place, floor_of, merge_clusters}
use Rattle.shaping_buffer.specs.Lending.{with_input}
use Rattle.shaping_buffer.specs.State.{State, len}
use Rattle.shaping_passes.specs.NormalizationOrder.{sorted}
use Rattle.script_items.proofs.WrittenLemmas.{with_input-is}
use Rattle.script_syllables.specs.Item.{masked}
use Rattle.script_syllables.specs.Moves.{last_before, merged, moved}
use Rattle.script_syllables.proofs.MergedLemmas.{merged-order}
use Rattle.script_universal.specs.Order.{glyphs, glyphs_before, in_order, position_number}
use Rattle.script_universal.proofs.FlagsLemmas.{len-closed}

-- ---- merges keep the glyphs

glyphs-run_merge : (l : List hb_glyph_info_t) (p q floor : ℕ) → glyphs (run_merge l p q floor) ≡ glyphs l
unfolding run_merge
glyphs-run_merge l p q floor =
    let m = range_least (clusters l) p q in
    elim (cases_lt p q) [
      | inl some ↦ ap glyphs (cond-false _ _ _ (lt-leb q p some))
          ∙ map-map_range (λ g. g.glyph_id) (with_cluster m 0) (λ g. (with_cluster_others m 0 g).0) l
          (widened_start (clusters l) p q floor) (widened_end (clusters l) p q)
          (omega (arith, widened_start-le (clusters l) p q floor, widened_end-ge (clusters l) p q))
      | inr none ↦ ap glyphs (cond-true _ _ _ (le-leb q p none))
    ]

glyphs-mark : (bits : ℕ) (l : List hb_glyph_info_t) → glyphs (mark bits l) ≡ glyphs l
unfolding mark with_glyph_flags
glyphs-mark bits l =
    let m = least (clusters l) in
    map-map_same (λ g. g.glyph_id) (λ g. cond (eqb g.cluster m) g (with_glyph_flags bits g))
    (λ g. cond_both (eqb g.cluster m) _ _ (λ (x : hb_glyph_info_t). x.glyph_id ≡ g.glyph_id) (λ _. refl) (λ _. refl)) l

glyphs-merge_or_mark : (any : Bool) (l : List hb_glyph_info_t) (p q floor : ℕ) → p ≤ q
    → glyphs (merge_or_mark any l p q floor) ≡ glyphs l
unfolding merge_or_mark
glyphs-merge_or_mark any l p q floor up =
    cond_both any _ _ (λ (x : List hb_glyph_info_t). glyphs x ≡ glyphs l)
    (λ _. cond_both (is_short p q) _ _ (λ (x : List hb_glyph_info_t). glyphs x ≡ glyphs l) (λ _. refl)
    (λ _. map-new_part (λ g. g.glyph_id) l (mark BREAK_BITS (part l p q)) p q up (glyphs-mark BREAK_BITS (part l p q))))
    (λ _. glyphs-run_merge l p q floor)

module _ (s : State) (start end : ℕ) (up : start ≤ end) where
  glyphs-merged : glyphs (merge_clusters start end s).input ≡ glyphs s.input
  glyphs-merged =
      let n = length s.out in
      let f : hb_glyph_info_t → ℕ = λ g. g.glyph_id in
      sym (drop-map f n (merge_or_mark (any_order s) (both s) (both_place s start) (both_place s end) (floor_of s)))
      ∙ ap (drop n)
      (glyphs-merge_or_mark (any_order s) (both s) (both_place s start) (both_place s end) (floor_of s) (omega arith))
      ∙ drop-map f n (both s) ∙ ap glyphs (drop-append_seam s.out s.input)

-- ---- moves leave what stands before them

take-last_before : (l : List hb_glyph_info_t) (n start end count : ℕ) → n ≤ start → start ≤ length l
    → take n (last_before start end count l) ≡ take n l
take-last_before l n start end count low in_l =
    let turned = part l (end - count) end ++ part l start (end - count) in
    cond_both (leb start end && (leb end (length l) && leb count (end - start))) (moved start (end - count) end l) l
    (λ (x : List hb_glyph_info_t). take n x ≡ take n l)
    (λ _. take-append-le n (take start l) (turned ++ drop end l)
    (omega (arith, length-take-le start l in_l)) ∙ take-take n start l low)
    (λ _. refl)

-- wherever they stand
take-last_before_any : (l : List hb_glyph_info_t) (start end count : ℕ) → take start (last_before start end count l) ≡ take start l
take-last_before_any l start end count =
    let within : Bool = leb start end && (leb end (length l) && leb count (end - start)) in
    let outside : within ≡ false → take start (last_before start end count l) ≡ take start l = λ e.
    ap (take start) (cond-false _ (moved start (end - count) end l) l e) in
    elim (cases_lt (length l) start) [
      | inr in_l ↦ take-last_before l start start end count (omega arith) in_l
      | inl past ↦ elim (cases_lt end start) [
        | inl turned ↦ outside (and_left (leb start end) _ (lt-leb start end turned))
        | inr up ↦ outside (and_right (leb start end) _ (and_left (leb end (length l)) _ (lt-leb end (length l) (omega arith))))
      ]
    ]

glyphs-merged_any : (s : State) (start end : ℕ) → glyphs (merged start end s).input ≡ glyphs s.input
unfolding merged
glyphs-merged_any s start end =
    elim (cases_lt end start) [
      | inl turned ↦ ap (λ (t : State). glyphs t.input) (merged-order start end s turned)
      | inr up ↦ cond_both (ltb end start || ltb (len s) end) s (merge_clusters start end s)
          (λ (t : State). glyphs t.input ≡ glyphs s.input) (λ _. refl) (λ _. glyphs-merged s start end up)
    ]

-- items that move to the start of their syllable, all in one cluster
pub glyphs_before-moved_to_start : (s : State) (start end count : ℕ)
    → glyphs_before start (last_before start end count (merged start end s).input) ≡ glyphs_before start s.input
glyphs_before-moved_to_start s start end count =
    let f : hb_glyph_info_t → ℕ = λ g. g.glyph_id in
    let l = (merged start end s).input in
    take-map f start (last_before start end count l) ∙ ap (map f) (take-last_before_any l start end count)
    ∙ sym (take-map f start l) ∙ ap (take start) (glyphs-merged_any s start end)

-- ---- masks keep the glyphs

pub glyphs-masked : (mask start end : ℕ) (l : List hb_glyph_info_t) → glyphs (masked mask start end l) ≡ glyphs l
unfolding with_glyph_flags
glyphs-masked mask start end l =
    let until = min end (length l) in
    elim (cases_lt until start) [
      | inl turned ↦ ap glyphs (cond-false (leb start until) _ _ (lt-leb start until turned))
      | inr up ↦ ap glyphs (cond-true (leb start until) _ _ (le-leb start until up))
          ∙ map-map_range (λ g. g.glyph_id) (with_glyph_flags mask) (λ g. refl) l start until up
    ]

-- written through the references that a buffer hands out
pub glyphs-with_input : (s : State) (ws now : List hb_glyph_info_t) → now ≡ s.input → glyphs ws ≡ glyphs now
    → glyphs (with_input s ws).input ≡ glyphs s.input
glyphs-with_input s ws now was e =
    let f : hb_glyph_info_t → ℕ = λ g. g.glyph_id in
    let same : glyphs ws ≡ glyphs s.input = e ∙ ap glyphs was in
    let long : length ws ≡ length s.input = sym (length-map ws f) ∙ ap length same ∙ length-map s.input f in
    ap (λ (t : State). glyphs t.input) (with_input-is s ws ws refl long) ∙ same

-- ---- the order of positions

module _ (start end : ℕ) (s : State) (closed : s.have_output ≡ false) where
  length-cores : length (cores s.input) ≡ len s
  length-cores = length-map s.input core ∙ sym (len-closed s closed)

  pub in_order-some : start < end → end ≤ len s
      → in_order start end (cores s.input) ≡ on_part (sorted position_number) (cores s.input) start end
  unfolding in_order
  in_order-some some within = cond-false _ _ _
      (or_from _ _ (lt-leb end start some) (le-ltb (length (cores s.input)) end (omega (arith, within, length-cores))))

  pub in_order-none : end ≤ start → in_order start end (cores s.input) ≡ cores s.input
  unfolding in_order
  in_order-none none = cond-true _ _ _ (or_left _ _ (le-leb end start none))

  pub in_order-past : len s < end → in_order start end (cores s.input) ≡ cores s.input
  unfolding in_order
  in_order-past past = cond-true _ _ _
      (or_right _ _ (lt-ltb (length (cores s.input)) end (omega (arith, past, length-cores))))

pub ruleset steps = (in_order-none, in_order-past)
