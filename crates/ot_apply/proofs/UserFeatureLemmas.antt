-- A user's features, one after the other.
use Rattle.std.proofs.Common.{◌≡◌, ◌↔◌, ℕ, ◌+◌, ◌<◌, Bool, true, false, List, [], ◌∷◌, ◌++◌, length, get_or, take, eqb, refl, sym, subst, ◌∙◌}
use Rattle.std.specs.Prelude.{MatchBool}
use Rattle.std.proofs.lemmas.Bool.{and_from, and_parts, eq-eqb, eqb-true, false_from_ne_true, false≢true}
use Rattle.std.proofs.lemmas.List.{take_more}
use Rattle.rb_text.specs.Feature.{last_end}
use Rattle.rb_text.specs.declared.feature.Feature.{Feature}
use Rattle.shaping_buffer.specs.State.{State}
use Rattle.ot_map.specs.declared.plan.LayoutPlan.{LayoutPlan}
use Rattle.ot_apply.specs.Masks.{is_of_all, HasValue, HasFeature, HasFeatures}

is_of_all-every : (f : Feature) (b : Bool) → ((b ≡ true) ↔ ((f.start ≡ 0) × (f.end ≡ last_end))) → is_of_all f ≡ b
is_of_all-every f true test =
    let both = test.0 refl in
    and_from (eqb f.start 0) (eqb f.end last_end) (eq-eqb f.start 0 both.0) (eq-eqb f.end last_end both.1)
is_of_all-every f false test =
    false_from_ne_true (is_of_all f)
    (λ whole. let both = and_parts (eqb f.start 0) (eqb f.end last_end) whole in
    false≢true (test.1 (eqb-true f.start 0 both.0, eqb-true f.end last_end both.1)))

module _ (plan : LayoutPlan) (f : Feature) (b : Bool) (test : (b ≡ true) ↔ ((f.start ≡ 0) × (f.end ≡ last_end)))
    (old new : State) where
  pub has_feature-of_all : b ≡ true → new ≡ old → HasFeature plan f old new
  has_feature-of_all whole same =
      subst (λ (x : Bool). MatchBool x (new ≡ old) (HasValue plan f old new)) (sym (is_of_all-every f b test ∙ whole)) same

  pub has_feature-of_part : b ≡ false → HasValue plan f old new → HasFeature plan f old new
  has_feature-of_part partial has =
      subst (λ (x : Bool). MatchBool x (new ≡ old) (HasValue plan f old new)) (sym (is_of_all-every f b test ∙ partial)) has

has_features-push : (plan : LayoutPlan) (fs : List Feature) (f : Feature) (old next new : State)
    → HasFeatures plan fs old next → HasFeature plan f next new → HasFeatures plan (fs ++ f ∷ []) old new
has_features-push plan [] f old next new same one =
    (new, (subst (λ (s : State). HasFeature plan f s new) same one, refl))
has_features-push plan (g ∷ fs) f old next new others one =
    (others.0, (others.1.0, has_features-push plan fs f others.0 next new others.1.1 one))

pub has_features-more : (plan : LayoutPlan) (fs : List Feature) (i : ℕ) (d : Feature) (old next new : State) → i < length fs
    → HasFeatures plan (take i fs) old next → HasFeature plan (get_or fs i d) next new
    → HasFeatures plan (take (i + 1) fs) old new
has_features-more plan fs i d old next new within others one =
    subst (λ (xs : List Feature). HasFeatures plan xs old new) (sym (take_more fs i d within))
    (has_features-push plan (take i fs) (get_or fs i d) old next new others one)
