-- The places where a scan by the ends begins and stops, and the least of the ends.
use Rattle.std.proofs.Common.{◌≡◌, ℕ, suc, ◌+◌, ◌-◌, ◌<◌, ◌≤◌, List, [], ◌∷◌, ◌++◌, length, get_or, take, drop, min}
use Rattle.std.proofs.Common.{not, inl, inr, refl, ap, ◌∙◌, arith, eqb}
use Rattle.std.specs.List.{prefix_len, suffix_len}
use Rattle.std.proofs.lemmas.List.{take_all, append-nil}
use Rattle.std.proofs.lemmas.List.Sums.{prefix_len-drop_yes, prefix_len-drop_no, prefix_len-drop_all}
use Rattle.std.proofs.lemmas.List.Sums.{suffix_len-take_yes, suffix_len-take_no}
use Rattle.std.proofs.lemmas.Bool.{eq-eqb, ne_eqb, cond-true, cond-false, cases_Bool}
use Rattle.rb_glyph.specs.declared.info.hb_glyph_info_t.{hb_glyph_info_t}
use Rattle.glyph_lists.specs.Parts.{map_range}
use Rattle.glyph_lists.specs.Clusters.{clusters, least}
use Rattle.glyph_lists.specs.Marks.{with_glyph_flags, mark_others, mark_part, ends, ends_least}
use Rattle.glyph_lists.proofs.PartsLemmas.{length-map_range, map_range_none, set-map_range_more, set-map_range_front}
use Rattle.glyph_lists.proofs.PartsLemmas.{get_or-map_range_next, get_or-map_range_last, map_range_past}
use Rattle.glyph_lists.proofs.ClustersLemmas.{length-clusters, get_or-clusters, clusters-append}

-- where the first c stands from place q on
unfoldable pub first_from : ℕ → List ℕ → ℕ → ℕ
first_from c cs q = q + prefix_len (λ d. not (eqb d c)) (drop q cs)

-- where the numbers begin that stand after the last c before place q
unfoldable pub last_before : ℕ → List ℕ → ℕ → ℕ
last_before c cs q = q - suffix_len (λ d. not (eqb d c)) (take q cs)

pub first_from-more : (c : ℕ) (cs : List ℕ) (q : ℕ) → q < length cs → (get_or cs q 0 ≡ c → ⊥)
    → first_from c cs (q + 1) ≡ first_from c cs q
unfolding first_from
first_from-more c cs q h off =
    omega (arith, prefix_len-drop_yes (λ d. not (eqb d c)) cs q 0 h (ap not (ne_eqb _ c off)))

pub first_from-here : (c : ℕ) (cs : List ℕ) (q : ℕ) → q < length cs → get_or cs q 0 ≡ c → first_from c cs q ≡ q
unfolding first_from
first_from-here c cs q h is = omega (arith, prefix_len-drop_no (λ d. not (eqb d c)) cs q 0 h (ap not (eq-eqb _ c is)))

pub first_from-none : (c : ℕ) (cs : List ℕ) (q : ℕ) → length cs ≤ q → first_from c cs q ≡ q
unfolding first_from
first_from-none c cs q h = omega (arith, prefix_len-drop_all (λ d. not (eqb d c)) cs q h)

pub first_from-zero : (c : ℕ) (cs : List ℕ) → first_from c cs 0 ≡ prefix_len (λ d. not (eqb d c)) cs
unfolding first_from
first_from-zero c cs = omega arith

pub last_before-more : (c : ℕ) (cs : List ℕ) (q : ℕ) → 0 < q → q ≤ length cs → (get_or cs (q - 1) 0 ≡ c → ⊥)
    → last_before c cs (q - 1) ≡ last_before c cs q
unfolding last_before
last_before-more c cs q h h2 off =
    omega (arith, suffix_len-take_yes (λ d. not (eqb d c)) cs q 0 h h2 (ap not (ne_eqb _ c off)))

pub last_before-here : (c : ℕ) (cs : List ℕ) (q : ℕ) → 0 < q → q ≤ length cs → get_or cs (q - 1) 0 ≡ c
    → last_before c cs q ≡ q
unfolding last_before
last_before-here c cs q h h2 is =
    omega (arith, suffix_len-take_no (λ d. not (eqb d c)) cs q 0 h h2 (ap not (eq-eqb _ c is)))

pub last_before_none : (c : ℕ) (cs : List ℕ) (q : ℕ) → q ≤ 0 → last_before c cs q ≡ q
unfolding last_before
last_before_none c cs q h = omega arith

pub last_before-length : (c : ℕ) (cs : List ℕ) (q : ℕ) → length cs ≤ q
    → last_before c cs q ≡ q - suffix_len (λ d. not (eqb d c)) cs
unfolding last_before
last_before-length c cs q h = ap (λ xs. q - suffix_len (λ d. not (eqb d c)) xs) (take_all q cs h)

-- a walk down that came to the first number, and a walk up that came to the last
pub last_before-first : (c : ℕ) (cs : List ℕ) (q : ℕ) → 0 < length cs → get_or cs 0 0 ≡ c → q ≡ 1
    → last_before c cs q ≡ q
last_before-first c cs q h is e =
    last_before-here c cs q (omega arith) (omega arith) (ap (λ k. get_or cs (k - 1) 0) e ∙ is)

pub first_from-last : (c : ℕ) (cs : List ℕ) (q : ℕ) → q + 1 ≡ length cs → get_or cs (length cs - 1) 0 ≡ c
    → first_from c cs q ≡ q
first_from-last c cs q e is =
    let z : q ≡ length cs - 1 = omega arith in
    first_from-here c cs q (omega arith) (ap (λ k. get_or cs k 0) z ∙ is)

pub ruleset walks_up = (
  length-clusters,
  get_or-clusters,
  length-map_range,
  map_range_none,
  set-map_range_more,
  get_or-map_range_next,
  first_from-more,
  first_from-here,
  first_from-none,
  first_from-zero,
  first_from-last,
)

pub ruleset walks_down = (
  length-clusters,
  get_or-clusters,
  length-map_range,
  map_range_none,
  set-map_range_front,
  get_or-map_range_last,
  last_before-more,
  last_before-here,
  last_before_none,
  last_before-length,
  last_before-first,
)

-- ---- one part

map_range-nothing : (bits a b : ℕ) → a ≤ b → map_range (with_glyph_flags bits) [] a b ≡ []
map_range-nothing bits a b up = map_range_past (with_glyph_flags bits) [] a b up (omega arith)

pub mark_part-nothing : (bits m : ℕ) (r : List hb_glyph_info_t) → length r ≡ 0 → mark_part bits m r ≡ r
unfolding mark_part
mark_part-nothing bits m [] h =
    elim (cases_Bool (eqb 0 m)) [
      | inl e ↦ cond-true _ _ _ e ∙ map_range-nothing bits (0 - suffix_len (λ c. not (eqb c m)) []) 0 (omega arith)
      | inr e ↦ cond-false _ _ _ e ∙
          elim (cases_Bool (eqb 0 m)) [
            | inl e2 ↦ cond-true _ _ _ e2 ∙ map_range-nothing bits 0 (prefix_len (λ c. not (eqb c m)) []) (omega arith)
            | inr e2 ↦ cond-false _ _ _ e2
          ]
    ]
mark_part-nothing bits m (g ∷ r) h = absurd (omega arith)

pub mark_part-first : (bits m : ℕ) (r : List hb_glyph_info_t) → get_or (clusters r) 0 0 ≡ m
    → mark_part bits m r ≡ map_range (with_glyph_flags bits) r (length r - suffix_len (λ c. not (eqb c m)) (clusters r))
    (length r)
unfolding mark_part
mark_part-first bits m r h = cond-true _ _ _ (eq-eqb _ m h)

pub mark_part-last : (bits m : ℕ) (r : List hb_glyph_info_t) → (get_or (clusters r) 0 0 ≡ m → ⊥)
    → get_or (clusters r) (length r - 1) 0 ≡ m
    → mark_part bits m r ≡ map_range (with_glyph_flags bits) r 0 (prefix_len (λ c. not (eqb c m)) (clusters r))
unfolding mark_part
mark_part-last bits m r h h2 = cond-false _ _ _ (ne_eqb _ m h) ∙ cond-true _ _ _ (eq-eqb _ m h2)

pub mark_part-else : (bits m : ℕ) (r : List hb_glyph_info_t) → (get_or (clusters r) 0 0 ≡ m → ⊥)
    → (get_or (clusters r) (length r - 1) 0 ≡ m → ⊥)
    → mark_part bits m r ≡ mark_others bits m r
unfolding mark_part
mark_part-else bits m r h h2 = cond-false _ _ _ (ne_eqb _ m h) ∙ cond-false _ _ _ (ne_eqb _ m h2)

pub ruleset parts = (get_or-clusters, mark_part-nothing, mark_part-first, mark_part-last, mark_part-else)

-- ---- the least of the ends

pub least_ends : (l : List hb_glyph_info_t) (d : hb_glyph_info_t) → 0 < length l
    → least (ends (clusters l)) ≡ min (get_or l 0 d).cluster (get_or l (length l - 1) d).cluster
unfolding least ends
least_ends [] d h = absurd (omega arith)
least_ends (g ∷ l) d h =
    let n : length (clusters l) ≡ suc (length l) - 1 = omega (arith, length-clusters l) in
    ap (λ k. min g.cluster k) (ap (λ j. get_or (clusters (g ∷ l)) j 0) n
    ∙ get_or-clusters (g ∷ l) (suc (length l) - 1) d (omega arith))

pub least-no_ends : (l : List hb_glyph_info_t) → length l ≡ 0 → least (ends (clusters l)) ≡ 0
unfolding least ends
least-no_ends [] h = refl
least-no_ends (g ∷ l) h = absurd (omega arith)

pub ends_least-left : (r s : List hb_glyph_info_t) → length r ≡ 0 → ends_least r s ≡ least (ends (clusters s))
unfolding ends_least ends
ends_least-left [] s h = refl
ends_least-left (g ∷ r) s h = absurd (omega arith)

pub ends_least-right : (r s : List hb_glyph_info_t) → length s ≡ 0 → ends_least r s ≡ least (ends (clusters r))
unfolding ends_least ends
ends_least-right r [] h = ap least (append-nil (ends (clusters r)))
ends_least-right r (g ∷ s) h = absurd (omega arith)

min_four : (a b c d : ℕ) → min a (min b (min c d)) ≡ min (min a b) (min c d)
min_four a b c d = omega arith

pub ends_least-both : (r s : List hb_glyph_info_t) → 0 < length r → 0 < length s
    → ends_least r s ≡ min (least (ends (clusters r))) (least (ends (clusters s)))
unfolding ends_least ends least
ends_least-both [] s h h2 = absurd (omega arith)
ends_least-both (g ∷ r) [] h h2 = absurd (omega arith)
ends_least-both (g ∷ r) (k ∷ s) h h2 = min_four _ _ _ _

pub ruleset ends_of = (least_ends, least-no_ends, ends_least-left, ends_least-right, ends_least-both)

-- ---- the least of all

least_append : (cs ds : List ℕ) → 0 < length cs → 0 < length ds → least (cs ++ ds) ≡ min (least cs) (least ds)
unfolding least
least_append [] ds h h2 = absurd (omega arith)
least_append (c ∷ []) [] h h2 = absurd (omega arith)
least_append (c ∷ []) (d ∷ ds) h h2 = refl
least_append (c ∷ b ∷ cs) ds h h2 = omega (arith, least_append (b ∷ cs) ds (omega arith) h2)

pub least_left : (r s : List hb_glyph_info_t) → length r ≡ 0 → least (clusters (r ++ s)) ≡ least (clusters s)
least_left [] s h = refl
least_left (g ∷ r) s h = absurd (omega arith)

pub least_right : (r s : List hb_glyph_info_t) → length s ≡ 0 → least (clusters (r ++ s)) ≡ least (clusters r)
least_right r [] h = ap (λ xs. least (clusters xs)) (append-nil r)
least_right r (g ∷ s) h = absurd (omega arith)

pub least_both : (r s : List hb_glyph_info_t) → 0 < length r → 0 < length s
    → least (clusters (r ++ s)) ≡ min (least (clusters r)) (least (clusters s))
least_both r s h h2 =
    ap least (clusters-append r s) ∙ least_append (clusters r) (clusters s) (omega (arith, length-clusters r))
    (omega (arith, length-clusters s))

pub ruleset leasts = (least_left, least_right, least_both)
