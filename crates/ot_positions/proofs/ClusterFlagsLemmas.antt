-- A walk over the clusters of a text, each of which is written in its place.
use Rattle.std.proofs.Common.{◌≡◌, ◌<◌, ◌≤◌, ◌+◌, ◌-◌, ◌==◌, ℕ, zero, suc, List, [], ◌∷◌, ◌++◌, length, get_or, map, take, drop, refl, sym, ap, ◌∙◌, arith}
use Rattle.std.proofs.Common.{append_assoc, length-drop}
use Rattle.std.proofs.lemmas.List.{append-nil, drop-drop, drop_more, drop_all, drop_at, length-append, length-map, length-take-le, map-append, take-append-drop, take_all, take_at}
use Rattle.std.proofs.lemmas.List.Sums.{prefix_len-le-length}
use Rattle.glyph_lists.specs.Clusters.{clusters, zero_glyph}
use Rattle.glyph_lists.specs.Marks.{with_glyph_flags}
use Rattle.glyph_lists.specs.Masks.{with_mask}
use Rattle.glyph_lists.specs.Parts.{map_range, part}
use Rattle.glyph_lists.proofs.ClustersLemmas.{length-clusters}
use Rattle.glyph_lists.proofs.PartsLemmas.{map-map_same}
use Rattle.rb_glyph.specs.declared.flag_sets.BufferFlags.{BufferFlags}
use Rattle.shaping_buffer.specs.Lending.{with_input}
use Rattle.shaping_buffer.specs.State.{State}
use Rattle.shaping_passes.proofs.NormalizationGlyphsLemmas.{refilled_same}
use Rattle.rb_glyph.specs.declared.info.hb_glyph_info_t.{hb_glyph_info_t}
use Rattle.ot_positions.specs.ClusterFlags.{by_clusters, first_len, in_clusters, len_in, propagated, shared}

pub first_len_within : (gs : List hb_glyph_info_t) → first_len gs ≤ length gs
unfolding first_len len_in
first_len_within [] = omega arith
first_len_within (g ∷ gs) = omega (arith, prefix_len-le-length (λ h. h.cluster == g.cluster) gs)

-- the cluster of the glyph at a place
pub first_len_at : (gs : List hb_glyph_info_t) (n len cluster : ℕ) → n < length gs → cluster ≡ (get_or gs n zero_glyph).cluster
    → len ≡ len_in cluster (drop (n + 1) gs) → n + 1 + len ≡ n + first_len (drop n gs)
unfolding first_len
first_len_at gs n len cluster in_gs of is =
    let here : first_len (drop n gs) ≡ suc (len_in (get_or gs n zero_glyph).cluster (drop (n + 1) gs)) =
    ap first_len (drop_more gs n zero_glyph in_gs) in
    let those : len ≡ len_in (get_or gs n zero_glyph).cluster (drop (n + 1) gs) =
    is ∙ ap (λ (c : ℕ). len_in c (drop (n + 1) gs)) of in
    omega (arith, here, those)

module _ (f : List hb_glyph_info_t → hb_glyph_info_t → hb_glyph_info_t) where
  none : (n : ℕ) → in_clusters f n [] ≡ []
  unfolding in_clusters first_len len_in
  none zero = refl
  none (suc n) = none n

  -- as many clusters as there may be, or more
  enough : (n m : ℕ) (gs : List hb_glyph_info_t) → length gs ≤ n → length gs ≤ m → in_clusters f n gs ≡ in_clusters f m gs
  unfolding in_clusters first_len len_in
  enough n m [] by_n by_m = none n ∙ sym (none m)
  enough zero m (g ∷ gs) by_n by_m = absurd (omega (arith, by_n))
  enough (suc n) zero (g ∷ gs) by_n by_m = absurd (omega (arith, by_m))
  enough (suc n) (suc m) (g ∷ gs) by_n by_m =
      let k = first_len (g ∷ gs) in
      let left : length (drop k (g ∷ gs)) ≡ length (g ∷ gs) - k = length-drop k (g ∷ gs) in
      ap (λ (rest : List hb_glyph_info_t). map (f (take k (g ∷ gs))) (take k (g ∷ gs)) ++ rest)
      (enough n m (drop k (g ∷ gs)) (omega (arith, left, by_n)) (omega (arith, left, by_m)))

  -- the first cluster, and then the others
  first : (gs : List hb_glyph_info_t) → 0 < length gs
      → by_clusters f gs ≡ map (f (take (first_len gs) gs)) (take (first_len gs) gs) ++ by_clusters f (drop (first_len gs) gs)
  unfolding in_clusters first_len len_in
  first [] some = absurd (omega (arith, some))
  first (g ∷ gs) some =
      let k = first_len (g ∷ gs) in
      let left : length (drop k (g ∷ gs)) ≡ length (g ∷ gs) - k = length-drop k (g ∷ gs) in
      ap (λ (rest : List hb_glyph_info_t). map (f (take k (g ∷ gs))) (take k (g ∷ gs)) ++ rest)
      (enough (length gs) (length (drop k (g ∷ gs))) (drop k (g ∷ gs)) (omega (arith, left)) (omega arith))

  -- the cluster at a place is written
  pub by_clusters_more : (gs new : List hb_glyph_info_t) (start end : ℕ) → start < length gs → end ≡ start + first_len (drop start gs)
      → new ≡ map_range (f (part gs start end)) gs start end
      → take end new ++ by_clusters f (drop end new) ≡ take start gs ++ by_clusters f (drop start gs)
  by_clusters_more gs new start end in_gs at_end is =
      let rest = drop start gs in
      let k = first_len rest in
      let long : length rest ≡ length gs - start = length-drop start gs in
      let in_rest : k ≤ length rest = first_len_within rest in
      let size : end - start ≡ k = omega (arith, at_end) in
      let cluster : part gs start end ≡ take k rest = ap (λ (n : ℕ). take n rest) size in
      let written = map (f (part gs start end)) (part gs start end) in
      let front : length (take start gs ++ written) ≡ end =
      length-append (take start gs) written
      ∙ ap (λ (n : ℕ). n + length written) (length-take-le start gs (omega (arith, in_gs)))
      ∙ ap (λ (n : ℕ). start + n) (length-map (part gs start end) (f (part gs start end)) ∙ length-take-le (end - start) rest (omega (arith, size, in_rest)))
      ∙ omega (arith, size, at_end) in
      let parted : new ≡ (take start gs ++ written) ++ drop end gs = is in
      let behind : drop end gs ≡ drop k rest = ap (λ (n : ℕ). drop n gs) at_end ∙ sym (drop-drop k start gs) in
      ap (λ (l : List hb_glyph_info_t). take end l ++ by_clusters f (drop end l)) parted
      ∙ ap (λ (l : List hb_glyph_info_t). l ++ by_clusters f (drop end ((take start gs ++ written) ++ drop end gs)))
      (take_at (take start gs ++ written) (drop end gs) end front)
      ∙ ap (λ (l : List hb_glyph_info_t). (take start gs ++ written) ++ by_clusters f l)
      (drop_at (take start gs ++ written) (drop end gs) end front ∙ behind)
      ∙ append_assoc (take start gs) written (by_clusters f (drop k rest))
      ∙ ap (λ (l : List hb_glyph_info_t). take start gs ++ (map (f l) l ++ by_clusters f (drop k rest))) cluster
      ∙ ap (λ (l : List hb_glyph_info_t). take start gs ++ l) (sym (first rest (omega (arith, long, in_gs))))

  -- all clusters are written
  pub by_clusters_all : (gs old : List hb_glyph_info_t) (start : ℕ) → length gs ≤ start
      → take start gs ++ by_clusters f (drop start gs) ≡ by_clusters f old → gs ≡ by_clusters f old
  by_clusters_all gs old start all is =
      sym (append-nil gs)
      ∙ ap (λ (l : List hb_glyph_info_t). l ++ []) (sym (take_all start gs all))
      ∙ ap (λ (l : List hb_glyph_info_t). take start gs ++ l) (sym (ap (by_clusters f) (drop_all start gs all) ∙ none 0))
      ∙ is

  module _ (same : (cluster : List hb_glyph_info_t) (g : hb_glyph_info_t) → (f cluster g).cluster ≡ g.cluster) where
    clusters-in_clusters : (n : ℕ) (gs : List hb_glyph_info_t) → clusters (in_clusters f n gs) ≡ clusters gs
    unfolding in_clusters
    clusters-in_clusters zero gs = refl
    clusters-in_clusters (suc n) gs =
        let k = first_len gs in
        map-append (λ (g : hb_glyph_info_t). g.cluster) (map (f (take k gs)) (take k gs)) (in_clusters f n (drop k gs))
        ∙ ap (λ (l : List ℕ). l ++ clusters (in_clusters f n (drop k gs)))
        (map-map_same (λ (g : hb_glyph_info_t). g.cluster) (f (take k gs)) (same (take k gs)) (take k gs))
        ∙ ap (λ (l : List ℕ). clusters (take k gs) ++ l) (clusters-in_clusters n (drop k gs))
        ∙ sym (map-append (λ (g : hb_glyph_info_t). g.cluster) (take k gs) (drop k gs))
        ∙ ap clusters (take-append-drop k gs)

    pub clusters-by_clusters : (ws xs : List hb_glyph_info_t) → ws ≡ by_clusters f xs → clusters ws ≡ clusters xs
    clusters-by_clusters ws xs is = ap clusters is ∙ clusters-in_clusters (length xs) xs

    -- glyphs that are written through a reference
    pub with_input-by_clusters : (s : State) (ws xs : List hb_glyph_info_t) → xs ≡ s.input → ws ≡ by_clusters f xs
        → with_input s ws ≡ record s { input = by_clusters f s.input }
    with_input-by_clusters s ws xs are is =
        let long : length ws ≡ length s.input =
        sym (length-clusters ws) ∙ ap length (clusters-by_clusters ws xs is) ∙ length-clusters xs ∙ ap length are in
        ap (λ (l : List hb_glyph_info_t). record s { input = l })
        (refilled_same s.input ws long ∙ is ∙ ap (by_clusters f) are)

pub cluster-shared : (cluster : List hb_glyph_info_t) (g : hb_glyph_info_t) → (shared cluster g).cluster ≡ g.cluster
unfolding with_glyph_flags
cluster-shared cluster g = refl

pub cluster-propagated : (asked : BufferFlags) (cluster : List hb_glyph_info_t) (g : hb_glyph_info_t)
    → (propagated asked cluster g).cluster ≡ g.cluster
unfolding with_mask
cluster-propagated asked cluster g = refl
