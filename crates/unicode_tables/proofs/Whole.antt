-- How the parts of a character are found, case by case.
use Rattle.std.proofs.Common.{◌≡◌, ℕ, ◌+◌, ◌<◌, ◌≤◌, ◌==◌, nat_eq, true, false, List, [], ◌∷◌, Option, Some, None, find}
use Rattle.std.proofs.Common.{length, get_or, drop, sym, ap, ◌∙◌, arith}
use Rattle.std.specs.Cmp.Lexicographic.{pointwise}
use Rattle.std.proofs.lemmas.List.{drop_more}
use Rattle.std.proofs.Math.ListN.{drop_of_length-le}
use Rattle.unicode_tables.specs.Mapping.{whole_from, whole_of, heads, head_of, pair_of, step_of}

module _ (join : ℕ → ℕ → Option ℕ) where
  from_some : (a b ab : ℕ) (bs : List ℕ) → join a b ≡ Some ab → whole_from join a (b ∷ bs) ≡ whole_from join ab bs
  unfolding whole_from
  from_some a b ab bs h = rw (h, whole_from)

  from_none : (a b : ℕ) (bs : List ℕ) → join a b ≡ None → whole_from join a (b ∷ bs) ≡ None
  unfolding whole_from
  from_none a b bs h = rw (h, whole_from)

  module _ (a : ℕ) (bs : List ℕ) (i : ℕ) where
    cut : (b : ℕ) → i < length bs → b ≡ get_or bs i b → drop i bs ≡ b ∷ drop (i + 1) bs
    cut b within here = drop_more bs i b within ∙ ap (λ x. x ∷ drop (i + 1) bs) (sym here)

    pub whole_joined : (b ab : ℕ) → i < length bs → b ≡ get_or bs i b → join a b ≡ Some ab
        → whole_from join a (drop i bs) ≡ whole_from join ab (drop (i + 1) bs)
    whole_joined b ab within here h = ap (whole_from join a) (cut b within here) ∙ from_some a b ab _ h

    pub whole_apart : (b : ℕ) → i < length bs → b ≡ get_or bs i b → join a b ≡ None
        → whole_from join a (drop i bs) ≡ None
    whole_apart b within here h = ap (whole_from join a) (cut b within here) ∙ from_none a b _ h

    pub whole_end : length bs ≤ i → whole_from join a (drop i bs) ≡ Some a
    unfolding whole_from
    whole_end after = ap (whole_from join a) (drop_of_length-le bs after)

  module _ (full : ℕ → List ℕ) where
    pub head_whole : (chars : List ℕ) (whole : ℕ) → whole_of join chars ≡ Some whole
        → head_of join full chars ≡ Some whole
    unfolding head_of
    head_whole chars whole h = rw (h, head_of)

    pub head_listed : (chars : List ℕ) → whole_of join chars ≡ None
        → head_of join full chars ≡ find (λ h. pointwise nat_eq (full h) chars) heads
    unfolding head_of
    head_listed chars h = rw (h, head_of)

    module _ (c : ℕ) where
      pub step_none : (all : List ℕ) → all ≡ [] → step_of join full c all ≡ None
      unfolding step_of
      step_none all none = ap (step_of join full c) none

      pub step_whole : (all : List ℕ) (whole : ℕ) → whole_of join all ≡ Some whole → (whole == c) ≡ false
          → step_of join full c all ≡ Some (whole, None)
      unfolding step_of
      step_whole [] whole h other = cc
      step_whole (a ∷ bs) whole h other = rw (h, step_of, other)

      pub step_same : (all : List ℕ) (whole : ℕ) → whole_of join all ≡ Some whole → (whole == c) ≡ true
          → step_of join full c all ≡ pair_of join full all
      unfolding step_of
      step_same [] whole h same = cc
      step_same (a ∷ bs) whole h same = rw (h, step_of, same)

      pub step_pair : (all : List ℕ) → 0 < length all → whole_of join all ≡ None
          → step_of join full c all ≡ pair_of join full all
      unfolding step_of
      step_pair [] some h = absurd (omega arith)
      step_pair (a ∷ bs) some h = rw (h, step_of)
