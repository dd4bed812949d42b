-- Why a reph and the base of a syllable are found.
use Rattle.std.proofs.Common.{◌≡◌, ℕ, suc, ◌+◌, ◌-◌, ◌<◌, ◌≤◌, Bool, true, false, ◌&&◌, ◌||◌, List, [], ◌∷◌, length, get_or}
use Rattle.std.proofs.Common.{Option, Some, None, if◌then◌else◌, refl, sym, ap, ◌∙◌, arith}
use Rattle.std.proofs.lemmas.Bool.{cond-true, cond-false}
use Rattle.std.proofs.lemmas.List.{get_or_default}
use Rattle.std.specs.Bool.{then_some}
use Rattle.glyph_lists.specs.Clusters.{zero_glyph}
use Rattle.rb_glyph.specs.declared.info.hb_glyph_info_t.{hb_glyph_info_t}
use Rattle.script_indic.specs.Base.{encoded_reph, glyph_at, ids, is_explicit, looked_at, may_form_reph, reph_length, searched}
use Rattle.script_indic.specs.declared.base.BaseSearch.{BaseSearch}
use Rattle.script_indic.specs.declared.configuration.RephMode.{RephMode}
use Rattle.script_indic.specs.declared.configuration.RephMode.TheVariants.{Implicit, Explicit, Encoded}
use Rattle.script_indic.specs.declared.plan.IndicPlan.{IndicPlan}

-- ---- the reph

is_explicit-not : (mode : RephMode) → (mode ≡ Explicit → ⊥) → is_explicit mode ≡ false
is_explicit-not Explicit other = absurd (other refl)
is_explicit-not Implicit other = refl
is_explicit-not Encoded other = refl

-- the glyphs that are asked for
module _ (l : List hb_glyph_info_t) (d e : hb_glyph_info_t) (long : 2 < length l) where
  pub cons-two : (get_or l 0 d).glyph_id ∷ (get_or l 1 e).glyph_id ∷ [] ≡ ids l 2
  cons-two =
      ap (λ (g : hb_glyph_info_t). g.glyph_id ∷ (get_or l 1 e).glyph_id ∷ []) (get_or_default l 0 d zero_glyph (omega arith))
      ∙ ap (λ (g : hb_glyph_info_t). (glyph_at l 0).glyph_id ∷ g.glyph_id ∷ []) (get_or_default l 1 e zero_glyph (omega arith))

  pub cons-three : (f : hb_glyph_info_t)
      → (get_or l 0 d).glyph_id ∷ (get_or l 1 e).glyph_id ∷ (get_or l 2 f).glyph_id ∷ [] ≡ ids l 3
  cons-three f =
      ap (λ (ns : List ℕ). (get_or l 0 d).glyph_id ∷ (get_or l 1 e).glyph_id ∷ ns)
      (ap (λ (g : hb_glyph_info_t). g.glyph_id ∷ []) (get_or_default l 2 f zero_glyph (omega arith)))
      ∙ ap (λ (g : hb_glyph_info_t). g.glyph_id ∷ (get_or l 1 e).glyph_id ∷ (glyph_at l 2).glyph_id ∷ [])
      (get_or_default l 0 d zero_glyph (omega arith))
      ∙ ap (λ (g : hb_glyph_info_t). (glyph_at l 0).glyph_id ∷ g.glyph_id ∷ (glyph_at l 2).glyph_id ∷ [])
      (get_or_default l 1 e zero_glyph (omega arith))

module _ (test : List ℕ → Bool) (plan : IndicPlan) (l : List hb_glyph_info_t) where
  -- it is not asked for
  pub unasked : (may : Bool) (reph : Option ℕ) → may ≡ may_form_reph plan l → may ≡ false
      → reph ≡ encoded_reph plan.configuration.reph_mode l → reph ≡ reph_length test plan l
  unasked may reph is fails encoded = encoded ∙ sym (cond-false _ _ _ (sym is ∙ fails))

  module _ (may : Bool) (is : may ≡ may_form_reph plan l) (yes : may ≡ true) (two : List ℕ) (r : Bool) (is_r : r ≡ test two)
      (is_two : two ≡ ids l 2) where
    then_some-asked : (b : Bool) → (test (ids l 2) || (is_explicit plan.configuration.reph_mode && test (ids l 3))) ≡ b
        → then_some b 2 ≡ reph_length test plan l
    then_some-asked b found = sym (cond-true _ _ _ (sym is ∙ yes) ∙ ap (λ (x : Bool). then_some x 2) found)

    test-two : test (ids l 2) ≡ r
    test-two = sym (is_r ∙ ap test is_two)

    -- RA and a halant make one
    pub asked-two : r ≡ true → Some 2 ≡ reph_length test plan l
    asked-two formed =
        then_some-asked true (ap (λ (b : Bool). b || (is_explicit plan.configuration.reph_mode && test (ids l 3))) (test-two ∙ formed))

    module _ (no : r ≡ false) where
      then_some-second : (b : Bool) → (is_explicit plan.configuration.reph_mode && test (ids l 3)) ≡ b
          → then_some b 2 ≡ reph_length test plan l
      then_some-second b is_b =
          then_some-asked b (ap (λ (x : Bool). x || (is_explicit plan.configuration.reph_mode && test (ids l 3))) (test-two ∙ no) ∙ is_b)

      -- or they do with a joiner
      pub asked-three : (three : List ℕ) (s : Bool) (reph : Option ℕ) → plan.configuration.reph_mode ≡ Explicit → s ≡ test three
          → three ≡ ids l 3 → reph ≡ then_some s 2 → reph ≡ reph_length test plan l
      asked-three three s reph explicit is_s is_three is_reph =
          is_reph
          ∙ then_some-second s (ap (λ (m : RephMode). is_explicit m && test (ids l 3)) explicit ∙ sym (is_s ∙ ap test is_three))

      pub asked-no : (plan.configuration.reph_mode ≡ Explicit → ⊥) → None ≡ reph_length test plan l
      asked-no other = then_some-second false (ap (λ (b : Bool). b && test (ids l 3)) (is_explicit-not plan.configuration.reph_mode other))

-- ---- the base

module _ (l : List hb_glyph_info_t) (limit turn place : ℕ) (walk after : BaseSearch) (base : Option ℕ)
    (is : after ≡ looked_at l limit place walk) (in_l : turn < length l) (at_place : place ≡ length l - 1 - turn)
    (whole : searched l limit (length l - turn) walk ≡ base) where
  searched-next : searched l limit (length l - turn) walk
      ≡ (if after.is_over then after.base else searched l limit place after)
  searched-next =
      let next : length l - turn ≡ suc place = omega (arith, in_l, at_place) in
      ap (λ (m : ℕ). searched l limit m walk) next
      ∙ ap (λ (s : BaseSearch). if s.is_over then s.base else searched l limit place s) (sym is)

  -- it goes on, or is over
  pub searched-on : after.is_over ≡ false → searched l limit (length l - (turn + 1)) after ≡ base
  searched-on goes_on =
      let left : length l - (turn + 1) ≡ place = omega (arith, in_l, at_place) in
      ap (λ (m : ℕ). searched l limit m after) left ∙ sym (searched-next ∙ cond-false _ _ _ goes_on) ∙ whole

  pub base-over : after.is_over ≡ true → after.base ≡ base
  base-over over = sym (searched-next ∙ cond-true _ _ _ over) ∙ whole

-- nothing is left
pub base-none : (l : List hb_glyph_info_t) (limit turn : ℕ) (walk : BaseSearch) (base : Option ℕ)
    → searched l limit (length l - turn) walk ≡ base → length l ≤ turn → walk.base ≡ base
base-none l limit turn walk base whole none =
    let nothing : length l - turn ≡ 0 = omega (arith, none) in
    sym (ap (λ (m : ℕ). searched l limit m walk) nothing) ∙ whole
