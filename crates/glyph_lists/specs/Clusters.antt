-- Clusters: runs of equal numbers, and which glyphs a merge changes.
use Rattle.std.specs.Prelude.{◌≢◌, ℕ, ◌+◌, ◌-◌, ◌*◌, ◌/◌, ◌%◌, ◌<◌, ◌≤◌, ◌==◌, ◌⊎◌, Bool, List, [], ◌∷◌, length, map}
use Rattle.std.specs.Prelude.{drop, min, nat_le, slice_index, slice_index_or, if◌then◌else◌}
use Rattle.std.specs.List.{list_any, prefix_len, suffix_len}
use Rattle.rb_glyph.specs.declared.glyph_flag.TheConstants.{DEFINED}
use Rattle.rb_glyph.specs.declared.info.hb_glyph_info_t.{hb_glyph_info_t}
use Rattle.glyph_lists.specs.Parts.{part, map_range}

-- ---- cluster numbers

-- the clusters of the glyphs, in order
abbrev pub clusters : List hb_glyph_info_t → List ℕ
clusters l = map (λ g. g.cluster) l

-- the numbers never fall
abbrev pub NeverFalls : List ℕ → Type 0
NeverFalls cs = (i j : ℕ) → i ≤ j → j < length cs → slice_index cs i ≤ slice_index cs j

-- the numbers never rise
abbrev pub NeverRises : List ℕ → Type 0
NeverRises cs = (i j : ℕ) → i ≤ j → j < length cs → slice_index cs j ≤ slice_index cs i

-- monotone clusters: they never fall, or they never rise
abbrev pub IsMonotone : List hb_glyph_info_t → Type 0
IsMonotone l = NeverFalls (clusters l) ⊎ NeverRises (clusters l)

-- the least number of a list, and 0 where it is empty
unfoldable pub least : List ℕ → ℕ
least [] = 0
least (c ∷ []) = c
least (c ∷ d ∷ cs) = min c (least (d ∷ cs))

-- the number occurs in the list
abbrev pub occurs : ℕ → List ℕ → Bool
occurs c cs = list_any (λ d. d == c) cs

-- the glyph whose fields are all 0
abbrev pub zero_glyph : hb_glyph_info_t
zero_glyph = record { glyph_id = 0; mask = 0; cluster = 0; var1 = 0; var2 = 0 }

-- A coarse list: its clusters are monotone, each is at most the glyph's var2, and where var2 is not above another's,
-- the cluster isn't either. With the first numbering kept in var2 this says that clusters have only merged.
pub record IsCoarse (l : List hb_glyph_info_t) : Type 0 where
  pub ordered : IsMonotone l
  pub low : (i : ℕ) → i < length l → (slice_index_or l i zero_glyph).cluster ≤ (slice_index_or l i zero_glyph).var2
  pub alike : (i j : ℕ) → i < length l → j < length l
      → (slice_index_or l i zero_glyph).var2 ≤ (slice_index_or l j zero_glyph).var2
      → (slice_index_or l i zero_glyph).cluster ≤ (slice_index_or l j zero_glyph).cluster

-- no run goes on from the first list into the second
abbrev pub NoRunCrosses : List ℕ → List ℕ → Type 0
NoRunCrosses cs ds = 0 < length cs → 0 < length ds → slice_index cs (length cs - 1) ≢ slice_index ds 0

-- ---- merges

-- the glyph flags are the low bits of a mask: those of a number below this
abbrev pub flags_bound : ℕ
flags_bound = DEFINED + 1

-- the mask with the glyph flags of w in place of its own
abbrev pub with_flags_of : ℕ → ℕ → ℕ
with_flags_of w mask = mask / flags_bound * flags_bound + w % flags_bound

-- The glyph in cluster m. Where that is a change, its glyph flags become those of w.
unfoldable pub with_cluster : ℕ → ℕ → hb_glyph_info_t → hb_glyph_info_t
with_cluster m w g = if g.cluster == m then g else record g { cluster = m; mask = with_flags_of w g.mask }

-- Cluster merge, the least coarsening: every glyph of l whose cluster occurs among the glyphs r, wherever it stands,
-- moves to the least of their clusters.
unfoldable pub cluster_merge : List hb_glyph_info_t → List hb_glyph_info_t → List hb_glyph_info_t
cluster_merge l r =
    let m = least (clusters r) in
    map (λ g. if occurs g.cluster (clusters r) then with_cluster m 0 g else g) l

-- where the run of the number c begins that ends before p, not below the floor
unfoldable pub run_start : List ℕ → ℕ → ℕ → ℕ → ℕ
run_start cs c floor p = p - suffix_len (λ d. d == c) (part cs floor p)

-- where the run of the number c ends that begins at q
unfoldable pub run_end : List ℕ → ℕ → ℕ → ℕ
run_end cs c q = q + prefix_len (λ d. d == c) (drop q cs)

-- the least number from place p up to place q
unfoldable pub range_least : List ℕ → ℕ → ℕ → ℕ
range_least cs p q = least (part cs p q)

-- the start of a range, widened down through its run, where that is not of the least number
unfoldable pub widened_start : List ℕ → ℕ → ℕ → ℕ → ℕ
widened_start cs p q floor =
    if slice_index cs p == range_least cs p q then p else run_start cs (slice_index cs p) floor p

-- the end of a range, widened up through its run, where that is not of the least number
unfoldable pub widened_end : List ℕ → ℕ → ℕ → ℕ
widened_end cs p q =
    if slice_index cs (q - 1) == range_least cs p q then q else run_end cs (slice_index cs (q - 1)) q

-- Run merge: the range p to q, widened through the runs at its ends, moves to the least of its clusters. It is the
-- same in any order of clusters.
unfoldable pub run_merge : List hb_glyph_info_t → ℕ → ℕ → ℕ → List hb_glyph_info_t
run_merge l p q floor =
    let cs = clusters l in
    if nat_le q p then l
    else map_range (with_cluster (range_least cs p q) 0) l (widened_start cs p q floor) (widened_end cs p q)
