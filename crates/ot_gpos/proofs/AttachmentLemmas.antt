-- Marks: anchors where there are no pixels, and the last base.
use Rattle.std.proofs.Common.{◌≡◌, ℕ, zero, suc, ◌≤◌, Bool, true, false, List, None, Some, refl, ◌&&◌, ◌||◌, nat_lt, ap, ◌∙◌}
use Rattle.std.proofs.lemmas.Bool.{cond-true, cond-false, lt-ltb, le-ltb}
use Rattle.font_tables.specs.Bytes.{number_16, is_number}
use Rattle.font_tables.specs.declared.scale.Scale.{Scale}
use Rattle.ot_gpos_tables.specs.Anchors.{named_point}
use Rattle.ot_gpos.specs.Attachments.{last_place}

and_none : (b : Bool) → (b && false) ≡ false
and_none true = refl
and_none false = refl

-- without pixels no anchor names a point
pub named_point_none : (table : List ℕ) (scale : Scale) → scale.x_ppem ≡ 0 → scale.y_ppem ≡ 0 → named_point table scale ≡ None
named_point_none table scale across up =
    let none : (nat_lt 0 scale.x_ppem || nat_lt 0 scale.y_ppem) ≡ false =
    ap (λ x. nat_lt 0 x || nat_lt 0 scale.y_ppem) across ∙ ap (λ y. nat_lt 0 y) up in
    cond-false _ _ _ (ap (λ b. is_number (number_16 table 0) 2 && b) none ∙ and_none (is_number (number_16 table 0) 2))

-- the last place is the one before, if that passes the test, or else one before it
pub last_place_here : (test : ℕ → Bool) (from k : ℕ) → from ≤ k → test k ≡ true → last_place test from (suc k) ≡ Some k
last_place_here test from k up passes = cond-false _ _ _ (le-ltb k from up) ∙ cond-true _ _ _ passes

pub last_place_before : (test : ℕ → Bool) (from k : ℕ) → from ≤ k → test k ≡ false
    → last_place test from (suc k) ≡ last_place test from k
last_place_before test from k up fails = cond-false _ _ _ (le-ltb k from up) ∙ cond-false _ _ _ fails

pub last_place_none : (test : ℕ → Bool) (from k : ℕ) → k ≤ from → last_place test from k ≡ None
last_place_none test from zero low = refl
last_place_none test from (suc k) low = cond-true _ _ _ (lt-ltb k from low)
