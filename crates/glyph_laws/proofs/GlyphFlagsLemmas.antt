-- Glyph flags: merges, marks and deletion keep every break flag beside its concat flag.
use Rattle.std.proofs.Common.{inl, inr, refl, subst, get_or, cond, ◌≡◌, ℕ, ◌+◌, ◌-◌, ◌*◌, ◌/◌, ◌%◌, bit_or, sym, ◌∙◌}
use Rattle.std.proofs.Common.{arith, List, ◌∷◌, ◌++◌, length, map, take, drop, Bool, true, false, not, eqb, ltb, leb}
use Rattle.std.specs.List.{prefix_len, suffix_len}
use Rattle.std.specs.Int.{bit_at}
use Rattle.std.proofs.lemmas.Bool.{cond_both, cases_lt}
use Rattle.std.proofs.lemmas.Nat.{bit_set_by_shift}
use Rattle.std.proofs.lemmas.Nat.Bits.{shr_and_one, bit_at_or, bit_at-lt}
use Rattle.std.proofs.lemmas.List.{take_at, drop_at}
use Rattle.std.proofs.lemmas.List.Elements.{All-append, All-take, All-drop, All-map, All-weaker, All-head, All-tail}
use Rattle.rb_glyph.specs.declared.info.hb_glyph_info_t.{hb_glyph_info_t}
use Rattle.glyph_lists.specs.Parts.{part}
use Rattle.glyph_lists.specs.Clusters.{clusters, least, occurs, with_cluster, cluster_merge, run_merge, run_start}
use Rattle.glyph_lists.specs.Clusters.{range_least, widened_start, widened_end}
use Rattle.glyph_lists.specs.Marks.{with_glyph_flags, mark, mark_others, mark_part, end_mark, ends}
use Rattle.glyph_lists.specs.declared.glyph_flags.TheConstants.{BREAK_BITS}
use Rattle.glyph_lists.specs.Deletion.{OutAndRest, merge_or_mark, deletion, lowers_run, merges_next, last_cluster}
use Rattle.glyph_lists.specs.Deletion.{with_trailing_run}
use Rattle.glyph_lists.specs.GlyphFlags.{BreakImpliesConcat, FlagsAgree}
use Rattle.glyph_lists.proofs.PartsLemmas.{All-map_range}

-- ---- one mask

-- by the bits themselves
by_bits : (mask : ℕ) → (bit_at mask 0 ≡ 1 → bit_at mask 1 ≡ 1) → BreakImpliesConcat mask
by_bits mask h = λ is_set. (bit_set_by_shift mask 1).0
    (shr_and_one mask 1 ∙ h (sym (shr_and_one mask 0) ∙ (bit_set_by_shift mask 0).1 is_set))

bit_at-mask : (mask : ℕ) → BreakImpliesConcat mask → bit_at mask 0 ≡ 1 → bit_at mask 1 ≡ 1
bit_at-mask mask h e =
    sym (shr_and_one mask 1) ∙ (bit_set_by_shift mask 1).1 (h ((bit_set_by_shift mask 0).0 (shr_and_one mask 0 ∙ e)))

-- the low three bits become those of another mask
pub flags_replaced : (old new : ℕ) → BreakImpliesConcat new → BreakImpliesConcat (old / 8 * 8 + new % 8)
flags_replaced old new h = by_bits (old / 8 * 8 + new % 8) (λ e. omega (arith, bit_at-mask new h (omega arith)))

-- the bits of another mask are added
pub flags_added : (old new : ℕ) → BreakImpliesConcat old → BreakImpliesConcat new → BreakImpliesConcat (bit_or old new)
flags_added old new h h2 =
    by_bits (bit_or old new)
    (λ e.
    let low = bit_at_or old new 0 in
    let high = bit_at_or old new 1 in
    let small = bit_at-lt old 1 in
    let small2 = bit_at-lt new 1 in
    elim (cases_lt (bit_at old 0) 1) [
      | inl none ↦ omega (arith, bit_at-mask new h2 (omega (arith, bit_at-lt new 0)))
      | inr some ↦ omega (arith, bit_at-mask old h (omega (arith, bit_at-lt old 0)))
    ])

-- the bits that scans and concat calls add
pub two_agrees : BreakImpliesConcat 2
two_agrees = by_bits 2 (λ e. refl)

pub three_agrees : BreakImpliesConcat 3
three_agrees = by_bits 3 (λ e. refl)

pub four_agrees : BreakImpliesConcat 4
four_agrees = by_bits 4 (λ e. absurd (omega (arith, e)))

-- ---- one glyph

abbrev Agrees : hb_glyph_info_t → Type 0
Agrees g = BreakImpliesConcat g.mask

with_cluster_agrees : (m w : ℕ) → BreakImpliesConcat w → (g : hb_glyph_info_t) → Agrees g → Agrees (with_cluster m w g)
unfolding with_cluster
with_cluster_agrees m w h g old = cond_both (eqb g.cluster m) _ _ Agrees (λ _. old) (λ _. flags_replaced g.mask w h)

marked_agrees : (bits : ℕ) → BreakImpliesConcat bits → (g : hb_glyph_info_t) → Agrees g
    → Agrees (with_glyph_flags bits g)
unfolding with_glyph_flags
marked_agrees bits h g old = flags_added g.mask bits old h

-- ---- a part

part_agrees : (l : List hb_glyph_info_t) (p q : ℕ) → FlagsAgree l → FlagsAgree (part l p q)
part_agrees l p q all = All-take Agrees (q - p) (drop p l) (All-drop Agrees p l all)

-- a part gives way to one where they agree too
pub new_part_keeps_flags : (l new : List hb_glyph_info_t) (p q : ℕ) → FlagsAgree l → FlagsAgree new
    → FlagsAgree (take p l ++ new ++ drop q l)
new_part_keeps_flags l new p q all agrees =
    All-append Agrees (take p l ++ new) (drop q l) (All-append Agrees (take p l) new (All-take Agrees p l all) agrees)
    (All-drop Agrees q l all)

-- ---- merges

zero_agrees : BreakImpliesConcat 0
zero_agrees = by_bits 0 (λ e. absurd (omega (arith, e)))

-- a glyph that moves loses its flags, and another keeps them
pub merge_keeps_flags : (l r : List hb_glyph_info_t) → FlagsAgree l → FlagsAgree (cluster_merge l r)
unfolding cluster_merge
merge_keeps_flags l r h =
    let m = least (clusters r) in
    let f : hb_glyph_info_t → hb_glyph_info_t = λ g. cond (occurs g.cluster (clusters r)) (with_cluster m 0 g) g in
    All-map Agrees f l
    (All-weaker Agrees (λ g. Agrees (f g))
    (λ g old. cond_both (occurs g.cluster (clusters r)) (with_cluster m 0 g) g Agrees
    (λ _. with_cluster_agrees m 0 zero_agrees g old) (λ _. old)) l h)

pub run_merge_keeps_flags : (l : List hb_glyph_info_t) (p q floor : ℕ) → FlagsAgree l
    → FlagsAgree (run_merge l p q floor)
unfolding run_merge
run_merge_keeps_flags l p q floor h =
    let cs = clusters l in
    let m = range_least cs p q in
    cond_both (leb q p) _ _ FlagsAgree (λ _. h)
    (λ _. All-map_range Agrees (with_cluster m 0) (with_cluster_agrees m 0 zero_agrees) l (widened_start cs p q floor)
    (widened_end cs p q) h)

-- ---- marks

module _ (bits : ℕ) (safe : BreakImpliesConcat bits) where
  pub marked_keep_flags : (r : List hb_glyph_info_t) → FlagsAgree r → FlagsAgree (map (with_glyph_flags bits) r)
  marked_keep_flags r h = All-map Agrees (with_glyph_flags bits) r
      (All-weaker Agrees (λ g. Agrees (with_glyph_flags bits g)) (marked_agrees bits safe) r h)

  pub mark_others_keeps_flags : (m : ℕ) (r : List hb_glyph_info_t) → FlagsAgree r → FlagsAgree (mark_others bits m r)
  mark_others_keeps_flags m r h =
      let f : hb_glyph_info_t → hb_glyph_info_t = λ g. cond (eqb g.cluster m) g (with_glyph_flags bits g) in
      All-map Agrees f r
      (All-weaker Agrees (λ g. Agrees (f g))
      (λ g old. cond_both (eqb g.cluster m) g (with_glyph_flags bits g) Agrees (λ _. old)
      (λ _. marked_agrees bits safe g old)) r h)

  pub mark_keeps_flags : (r : List hb_glyph_info_t) → FlagsAgree r → FlagsAgree (mark bits r)
  unfolding mark
  mark_keeps_flags r h = mark_others_keeps_flags (least (clusters r)) r h

  pub mark_part_keeps_flags : (m : ℕ) (r : List hb_glyph_info_t) → FlagsAgree r → FlagsAgree (mark_part bits m r)
  unfolding mark_part
  mark_part_keeps_flags m r h =
      let cs = clusters r in
      let p : ℕ → Bool = λ c. not (eqb c m) in
      cond_both (eqb (get_or cs 0 0) m) _ _ FlagsAgree
      (λ _. All-map_range Agrees (with_glyph_flags bits) (marked_agrees bits safe) r (length r - suffix_len p cs)
      (length r) h)
      (λ _. cond_both (eqb (get_or cs (length r - 1) 0) m) _ _ FlagsAgree
      (λ _. All-map_range Agrees (with_glyph_flags bits) (marked_agrees bits safe) r 0 (prefix_len p cs) h)
      (λ _. mark_others_keeps_flags m r h))

  pub end_mark_keeps_flags : (r : List hb_glyph_info_t) → FlagsAgree r → FlagsAgree (end_mark bits r)
  unfolding end_mark
  end_mark_keeps_flags r h = mark_part_keeps_flags (least (ends (clusters r))) r h

-- ---- merges and deletion

-- a merge, whether it changes clusters or marks
pub merge_or_mark_keeps_flags : (any_order : Bool) (l : List hb_glyph_info_t) (p q floor : ℕ) → FlagsAgree l
    → FlagsAgree (merge_or_mark any_order l p q floor)
unfolding merge_or_mark
merge_or_mark_keeps_flags true l p q floor h =
    cond_both (ltb (q - p) 2) _ _ FlagsAgree (λ _. h)
    (λ _. new_part_keeps_flags l (mark BREAK_BITS (part l p q)) p q h
    (mark_keeps_flags BREAK_BITS three_agrees (part l p q) (part_agrees l p q h)))
merge_or_mark_keeps_flags false l p q floor h = run_merge_keeps_flags l p q floor h

run_retold_keeps_flags : (c w : ℕ) (l : List hb_glyph_info_t) → BreakImpliesConcat w → FlagsAgree l
    → FlagsAgree (with_trailing_run c w l)
unfolding with_trailing_run
run_retold_keeps_flags c w l safe h = All-map_range Agrees (with_cluster c w) (with_cluster_agrees c w safe) l
    (run_start (clusters l) (last_cluster l) 0 (length l)) (length l) h

-- the flags of both sides, as a deletion finds them
pub deletion_keeps_flags : (any_order : Bool) (out : List hb_glyph_info_t) (x : hb_glyph_info_t)
    (rest : List hb_glyph_info_t) → FlagsAgree (out ++ x ∷ rest)
    → FlagsAgree ((deletion any_order out x rest).out ++ (deletion any_order out x rest).rest)
unfolding deletion
deletion_keeps_flags any_order out x rest h =
    let Q : OutAndRest → Type 0 = λ d. FlagsAgree (d.out ++ d.rest) in
    let before : FlagsAgree out = subst FlagsAgree (take_at out (x ∷ rest) (length out) refl)
    (All-take Agrees (length out) (out ++ x ∷ rest) h) in
    let after : FlagsAgree (x ∷ rest) = subst FlagsAgree (drop_at out (x ∷ rest) (length out) refl)
    (All-drop Agrees (length out) (out ++ x ∷ rest) h) in
    let behind : FlagsAgree rest = All-tail Agrees x rest after in
    let plain : FlagsAgree (out ++ rest) = All-append Agrees out rest before behind in
    cond_both (lowers_run out x rest) _ _ Q
    (λ _. All-append Agrees (with_trailing_run x.cluster x.mask out) rest
    (run_retold_keeps_flags x.cluster x.mask out (All-head Agrees x rest after) before) behind)
    (λ _. cond_both (merges_next out x rest) _ _ Q
    (λ _. All-append Agrees out (drop 1 (merge_or_mark any_order (x ∷ rest) 0 2 0)) before
    (All-drop Agrees 1 (merge_or_mark any_order (x ∷ rest) 0 2 0)
    (merge_or_mark_keeps_flags any_order (x ∷ rest) 0 2 0 after)))
    (λ _. plain))
