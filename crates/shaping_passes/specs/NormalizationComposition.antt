-- The canonical composition of a text, after the Unicode Standard Annex 15: each character that is not blocked is tried
-- with the last starter before it.
use Rattle.std.proofs.Common.{zero, suc}
use Rattle.std.specs.Prelude.{◌≡◌, ℕ, ◌+◌, ◌-◌, ◌<◌, ◌≤◌, ◌==◌, ◌&&◌, Bool, true, false, List, [], ◌∷◌, ◌++◌, length}
use Rattle.std.specs.Prelude.{take, drop, slice_index_or, slice_set, nat_lt, nat_le, Option, Some, None, if◌then◌else◌}
use Rattle.rb_glyph.specs.declared.info.hb_glyph_info_t.{hb_glyph_info_t}
use Rattle.glyph_lists.specs.Clusters.{zero_glyph, run_merge}
use Rattle.glyph_lists.specs.Parts.{part}
use Rattle.shaping_buffer.specs.State.{State}
use Rattle.shaping_buffer.specs.Step.{with_id}
use Rattle.glyph_laws.specs.Cores.{core}
use Rattle.shaping_passes.specs.NormalizationParts.{composed_of}
use Rattle.shaping_passes.specs.NormalizationOrder.{Classes}

-- the character that a starter and another one compose to, if they do
abbrev pub Pairs : Type 0
Pairs = hb_glyph_info_t → hb_glyph_info_t → Option ℕ

-- that of their characters, by a table
abbrev pub pair_in : List ((ℕ × ℕ) × ℕ) → Pairs
pair_in rows starter g = composed_of rows starter.glyph_id g.glyph_id

-- neither the cluster nor the mask of a glyph matters
abbrev pub PairsReadCores : Pairs → Type 0
PairsReadCores pairs = (starter g : hb_glyph_info_t) → pairs (core starter) (core g) ≡ pairs starter g

-- a character is blocked from its starter where something stands between them, of which the last is not of a lower class
abbrev pub is_blocked : Classes → List hb_glyph_info_t → hb_glyph_info_t → Bool
is_blocked classes between g =
    nat_lt 0 (length between)
    && nat_le (classes g) (classes (slice_index_or between (length between - 1) zero_glyph))

-- the character that a starter and one that is not blocked from it compose to
unfoldable pub pair_of : Pairs → Classes → hb_glyph_info_t → List hb_glyph_info_t → hb_glyph_info_t
    → Option ℕ
pair_of pairs classes starter between g =
    if is_blocked classes between g then None else pairs starter g

-- What becomes of a starter, of what stands between it and the rest, and of the rest. A character that is composed is
-- gone, and the starter has the new id; any other stays, and if it is a starter, it is the one to be tried from then on.
unfoldable pub composed_from : Pairs → Classes → hb_glyph_info_t → List hb_glyph_info_t
    → List hb_glyph_info_t → List hb_glyph_info_t
composed_from pairs classes starter between [] = starter ∷ between
composed_from pairs classes starter between (g ∷ l) =
    elim (pair_of pairs classes starter between g) [
      | Some id ↦ composed_from pairs classes (with_id id starter) between l
      | None ↦ if classes g == 0 then starter ∷ between ++ composed_from pairs classes g [] l
          else composed_from pairs classes starter (between ++ g ∷ []) l
    ]

-- the text, in which marks before the first starter stay
unfoldable pub composed : Pairs → Classes → List hb_glyph_info_t → List hb_glyph_info_t
composed pairs classes [] = []
composed pairs classes (g ∷ l) =
    if classes g == 0 then composed_from pairs classes g [] l else g ∷ composed pairs classes l

-- ---- with its clusters

-- Two characters are composed, the starter at this place and the one at place n: the clusters from one to the other are
-- merged, except in any order of clusters. Then the starter has the new id, and the other is gone.
abbrev pub pair_composed : Bool → ℕ → ℕ → ℕ → List hb_glyph_info_t → List hb_glyph_info_t
pair_composed any_order starter n id l =
    let merged = if any_order then l else run_merge l starter (n + 1) 0 in
    slice_set (take n merged) starter (with_id id (slice_index_or merged starter zero_glyph)) ++ drop (n + 1) merged

-- the last starter, once the character at place n was read and stays
abbrev pub starter_behind : Classes → Option ℕ → ℕ → List hb_glyph_info_t → Option ℕ
starter_behind classes starter n l =
    if classes (slice_index_or l n zero_glyph) == 0 then Some n else starter

-- The characters with their clusters, where those from place n on are left, so many of them, and the last starter before
-- them, if any, stands at this place.
unfoldable pub composed_at : Bool → Pairs → Classes → Option ℕ → ℕ → ℕ → List hb_glyph_info_t
    → List hb_glyph_info_t
composed_at any_order pairs classes starter n zero l = l
composed_at any_order pairs classes None n (suc more) l =
    composed_at any_order pairs classes (starter_behind classes None n l) (n + 1) more l
composed_at any_order pairs classes (Some at) n (suc more) l =
    elim (pair_of pairs classes (slice_index_or l at zero_glyph) (part l (at + 1) n) (slice_index_or l n zero_glyph)) [
      | Some id ↦ composed_at any_order pairs classes (Some at) n more (pair_composed any_order at n id l)
      | None ↦ composed_at any_order pairs classes (starter_behind classes (Some at) n l) (n + 1) more l
    ]

-- the text with its clusters
abbrev pub composed_glyphs : Bool → Pairs → Classes → List hb_glyph_info_t → List hb_glyph_info_t
composed_glyphs any_order pairs classes l = composed_at any_order pairs classes None 0 (length l) l

-- ---- on a buffer

-- what the text becomes, where these glyphs were put out, the last starter among them, and these are left to read
unfoldable pub so_far : Pairs → Classes → Option ℕ → List hb_glyph_info_t → List hb_glyph_info_t
    → List hb_glyph_info_t
so_far pairs classes None out input = out ++ composed pairs classes input
so_far pairs classes (Some at) out input =
    take at out ++ composed_from pairs classes (slice_index_or out at zero_glyph) (drop (at + 1) out) input

-- an output is open in the storage of the input, and no call was refused
pub record IsReady (s : State) : Type 0 where
  pub opened : s.have_output ≡ true
  pub successful : s.successful ≡ true
  pub in_place : s.have_separate_output ≡ false
  pub near : length s.out ≤ s.idx
  pub within : s.idx + length s.input ≤ s.max_len

-- one more glyph was read and kept
abbrev pub kept_one : State → State
kept_one s = record s { out = s.out ++ take 1 s.input; input = drop 1 s.input; idx = s.idx + 1 }

-- the place of the last starter, if any, is on the out side
abbrev pub IsPlace : Option ℕ → State → Type 0
IsPlace None s = Unit {0}
IsPlace (Some at) s = at < length s.out

-- a glyph is left to be read, behind a starter at this place
abbrev pub IsAtTurn : Option ℕ → State → Type 0
IsAtTurn starter s = record {
  ready : IsReady s;
  some : 0 < length s.input;
  place : IsPlace starter s;
}
