-- Deletion, case by case.
use Rattle.std.proofs.Common.{◌≡◌, ℕ, ◌+◌, ◌-◌, ◌<◌, List, [], ◌∷◌, ◌++◌, length, get_or, take, drop, refl, sym, ap}
use Rattle.std.proofs.Common.{◌∙◌, ◌≤◌, arith, eqb, true, false, Bool}
use Rattle.std.specs.Prelude.{◌&&◌, not, nat_lt}
use Rattle.std.proofs.lemmas.List.{drop_more}
use Rattle.std.proofs.lemmas.Bool.{cond-true, cond-false, and_parts, le-ltb}
use Rattle.rb_glyph.specs.declared.info.hb_glyph_info_t.{hb_glyph_info_t}
use Rattle.glyph_lists.specs.Parts.{map_range}
use Rattle.glyph_lists.specs.Clusters.{clusters, with_cluster, run_start, zero_glyph}
use Rattle.glyph_lists.specs.Deletion.{begins_with, is_not_empty, last_cluster, has_neighbour_in, lowers_run}
use Rattle.glyph_lists.specs.Deletion.{merges_next, merge_or_mark, with_trailing_run, deletion}
use Rattle.glyph_lists.proofs.ClustersLemmas.{get_or-clusters}

-- ---- neighbours

pub begins_none : (c : ℕ) (l : List hb_glyph_info_t) → length l ≡ 0 → begins_with c l ≡ false
unfolding begins_with
begins_none c [] h = refl
begins_none c (g ∷ l) h = absurd (omega arith)

pub begins_with-some : (c : ℕ) (l : List hb_glyph_info_t) (d : hb_glyph_info_t) → 0 < length l
    → begins_with c l ≡ eqb (get_or l 0 d).cluster c
unfolding begins_with
begins_with-some c [] d h = absurd (omega arith)
begins_with-some c (g ∷ l) d h = refl

pub not_empty_none : (l : List hb_glyph_info_t) → length l ≡ 0 → is_not_empty l ≡ false
unfolding is_not_empty
not_empty_none [] h = refl
not_empty_none (g ∷ l) h = absurd (omega arith)

pub not_empty_some : (l : List hb_glyph_info_t) → 0 < length l → is_not_empty l ≡ true
unfolding is_not_empty
not_empty_some [] h = absurd (omega arith)
not_empty_some (g ∷ l) h = refl

pub length_some : (l : List hb_glyph_info_t) → is_not_empty l ≡ true → 0 < length l
unfolding is_not_empty
length_some [] e = cc
length_some (g ∷ l) e = omega arith

length_none : (l : List hb_glyph_info_t) → is_not_empty l ≡ false → length l ≡ 0
unfolding is_not_empty
length_none [] e = refl
length_none (g ∷ l) e = cc

not_true : (b : Bool) → not b ≡ true → b ≡ false
not_true true e = sym e
not_true false e = refl

pub last_cluster-at : (l : List hb_glyph_info_t) (d : hb_glyph_info_t) → 0 < length l
    → last_cluster l ≡ (get_or l (length l - 1) d).cluster
unfolding last_cluster
last_cluster-at l d h = get_or-clusters l (length l - 1) d (omega arith)

pub ruleset neighbours = (begins_none, begins_with-some, not_empty_none, not_empty_some, last_cluster-at)

-- ---- the trailing run

pub map_range-trailing_run : (c w last a : ℕ) (l : List hb_glyph_info_t) → last ≡ last_cluster l
    → a ≡ run_start (clusters l) last 0 (length l) → map_range (with_cluster c w) l a (length l)
    ≡ with_trailing_run c w l
unfolding with_trailing_run
map_range-trailing_run c w last a l e h =
    ap (λ k. map_range (with_cluster c w) l k (length l))
    (h ∙ ap (λ k. run_start (clusters l) k 0 (length l)) e)

-- ---- the first two glyphs of the input, nothing being put out

pub nothing_taken : (out l : List hb_glyph_info_t) → length out ≡ 0 → take (length out) l ≡ out
nothing_taken [] l h = refl
nothing_taken (g ∷ out) l h = absurd (omega arith)

drop-nothing_before : (any_order : Bool) (out l : List hb_glyph_info_t) → length out ≡ 0
    → drop (length out) (merge_or_mark any_order (out ++ l) (length out + 0) (length out + 2) 0) ≡ merge_or_mark any_order l 0 2 0
drop-nothing_before any_order [] l h = refl
drop-nothing_before any_order (g ∷ out) l h = absurd (omega arith)

-- the rest of the input, once its first glyph has left
pub drop-merged : (any_order : Bool) (out l l2 : List hb_glyph_info_t) → 0 < length l → length out ≡ 0
    → l2 ≡ drop (length out) (merge_or_mark any_order (out ++ l) (length out + 0) (length out + 2) 0)
    → drop 1 l2 ≡ drop 1 (merge_or_mark any_order (get_or l 0 zero_glyph ∷ drop 1 l) 0 2 0)
drop-merged any_order out l l2 h none e =
    ap (drop 1) (e ∙ drop-nothing_before any_order out l none)
    ∙ ap (λ xs. drop 1 (merge_or_mark any_order xs 0 2 0)) (drop_more l 0 zero_glyph h)

-- ---- the cases

and_false : (a : Bool) → (a && false) ≡ false
and_false true = refl
and_false false = refl

module _ (out : List hb_glyph_info_t) (x : hb_glyph_info_t) (rest : List hb_glyph_info_t) where
  not_lowered : last_cluster out ≤ x.cluster → lowers_run out x rest ≡ false
  unfolding lowers_run
  not_lowered h =
      ap (λ b. not (has_neighbour_in x.cluster out rest) && (is_not_empty out && b)) (le-ltb _ _ h)
      ∙ ap (λ b. not (has_neighbour_in x.cluster out rest) && b) (and_false (is_not_empty out))
      ∙ and_false (not (has_neighbour_in x.cluster out rest))

  not_merged : is_not_empty out ≡ true → merges_next out x rest ≡ false
  unfolding merges_next
  not_merged h =
      ap (λ b. not (has_neighbour_in x.cluster out rest) && (not b && is_not_empty rest)) h
      ∙ and_false (not (has_neighbour_in x.cluster out rest))

module _ (any_order : Bool) (out : List hb_glyph_info_t) (x : hb_glyph_info_t) (rest : List hb_glyph_info_t) where
  pub deletion_lowers : lowers_run out x rest ≡ true
      → deletion any_order out x rest ≡ record { out = with_trailing_run x.cluster x.mask out; rest = rest }
  unfolding deletion
  deletion_lowers h = cond-true _ _ _ h

  pub deletion_merges : lowers_run out x rest ≡ false → merges_next out x rest ≡ true
      → deletion any_order out x rest ≡ record { out = out; rest = drop 1 (merge_or_mark any_order (x ∷ rest) 0 2 0) }
  unfolding deletion
  deletion_merges h h2 = cond-false _ _ _ h ∙ cond-true _ _ _ h2

  pub deletion_drops : lowers_run out x rest ≡ false → merges_next out x rest ≡ false
      → deletion any_order out x rest ≡ record { out = out; rest = rest }
  unfolding deletion
  deletion_drops h h2 = cond-false _ _ _ h ∙ cond-false _ _ _ h2

  -- a last glyph whose cluster is no higher
  pub deletion_keeps : 0 < length out → last_cluster out ≤ x.cluster
      → deletion any_order out x rest ≡ record { out = out; rest = rest }
  deletion_keeps h h2 = deletion_drops (not_lowered out x rest h2) (not_merged out x rest (not_empty_some out h))

-- what either case says of the lists
module _ (out : List hb_glyph_info_t) (x : hb_glyph_info_t) (rest : List hb_glyph_info_t) where
  pub lowers_parts : lowers_run out x rest ≡ true → (is_not_empty out ≡ true)
      × (nat_lt x.cluster (last_cluster out) ≡ true)
  unfolding lowers_run
  lowers_parts h = and_parts (is_not_empty out) _ (and_parts (not (has_neighbour_in x.cluster out rest)) _ h).1

  pub merges_parts : merges_next out x rest ≡ true → (is_not_empty out ≡ false) × (is_not_empty rest ≡ true)
  unfolding merges_next
  merges_parts h =
      let w = and_parts (not (is_not_empty out)) (is_not_empty rest)
      (and_parts (not (has_neighbour_in x.cluster out rest)) _ h).1 in
      (not_true (is_not_empty out) w.0, w.1)

  pub lowers_some : lowers_run out x rest ≡ true → 0 < length out
  lowers_some h = length_some out (lowers_parts h).0

  pub merges_none : merges_next out x rest ≡ true → length out ≡ 0
  merges_none h = length_none out (merges_parts h).0

  pub merges_some : merges_next out x rest ≡ true → 0 < length rest
  merges_some h = length_some rest (merges_parts h).1

pub ruleset trailing = (last_cluster-at, map_range-trailing_run)

pub ruleset kept = (deletion_keeps, last_cluster-at)

pub ruleset cases = (
  deletion_lowers,
  deletion_merges,
  deletion_drops,
  lowers_some,
  merges_none,
  merges_some,
  nothing_taken,
  drop-merged,
)
