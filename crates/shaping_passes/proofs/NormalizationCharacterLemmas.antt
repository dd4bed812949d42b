-- What a character gives way to: its parts that a font has.
use Rattle.std.proofs.Common.{◌≡◌, ℕ, zero, suc, ◌+◌, ◌-◌, ◌<◌, ◌≤◌, true, false, List, [], ◌∷◌, not, ◌&&◌, ◌++◌}
use Rattle.std.proofs.Common.{length, refl, sym, ap, ◌∙◌, subst, cond, eqb, Option, Some, None, arith, length-append}
use Rattle.std.proofs.Common.{append_assoc}
use Rattle.std.proofs.lemmas.Bool.{cond_both, cond-true, cond-false, false≢true, and_left, and_right}
use Rattle.std.proofs.lemmas.List.{append-nil}
use Rattle.std.specs.Option.{option_or}
use Rattle.std.specs.Prelude.{option_map, unwrap_or, is_some}
use Rattle.shaping_passes.specs.NormalizationDecomposition.{Font, some_part, decomposition, most_steps, first_parts}
use Rattle.shaping_passes.specs.NormalizationDecomposition.{lacks, both_parts, parts_with, decomposition_with}

-- ---- how many parts there are

-- at least one part, and at most so many
Few : ℕ → Option (List ℕ) → Type 0
Few n None = Unit {0}
Few n (Some l) = (1 ≤ length l) × (length l ≤ n)

few_or : (n : ℕ) (o w : Option (List ℕ)) → Few n o → Few n w → Few n (option_or o w)
unfolding Few
few_or n None w few few_w = few_w
few_or n (Some l) w few few_w = few

few_behind : (n b : ℕ) (o : Option (List ℕ)) → Few n o → Few (n + 1) (option_map (λ l. l ++ some_part b) o)
unfolding Few
few_behind n b None few = tt
few_behind n b (Some l) few =
    let both = length-append l (some_part b) in
    let one : length (some_part b) ≤ 1 =
    cond_both (eqb b 0) _ _ (λ (r : List ℕ). length r ≤ 1) (λ _. omega arith) (λ _. omega arith) in
    (omega (arith, few.0), omega (arith, few.1))

module _ (font : Font) where
  abbrev whole : ℕ → Option (List ℕ)
  whole a = cond (font.has a) (Some (a ∷ [])) None

  few_whole : (n a : ℕ) → 1 ≤ n → Few n (whole a)
  unfolding Few
  few_whole n a some = cond_both (font.has a) _ _ (Few n) (λ _. (omega arith, omega arith)) (λ _. tt)

  few_first : (n a : ℕ) (o : Option (List ℕ)) → 1 ≤ n → Few n o → Few n (first_parts font a o)
  few_first n a o some few =
      cond_both (font.fewest && font.has a) _ _ (Few n) (λ _. few_whole n a some)
      (λ _. few_or n o (whole a) few (few_whole n a some))

  few_parts : (n c : ℕ) → Few (n + 1) (parts_with font n c)
  unfolding parts_with Few
  few_parts zero c = tt
  few_parts (suc n) c = taken (font.parts c) (λ a. few_parts n a) where
    taken : (p : Option (ℕ × ℕ)) → ((a : ℕ) → Few (n + 1) (parts_with font n a))
        → Few (suc n + 1) (elim p [
          | None ↦ None
          | Some q ↦ both_parts font q.0 q.1 (parts_with font n q.0)
        ])
    taken None front = tt
    taken (Some q) front =
        cond_both (lacks font q.1) _ _ (Few (suc n + 1)) (λ _. tt)
        (λ _. let m : n + 1 + 1 ≡ suc n + 1 = omega arith in
        subst (λ k. Few k (option_map (λ l. l ++ some_part q.1) (first_parts font q.0 (parts_with font n q.0)))) m
        (few_behind (n + 1) q.1 (first_parts font q.0 (parts_with font n q.0))
        (few_first (n + 1) q.0 (parts_with font n q.0) (omega arith) (front q.0))))

  few_length : (n : ℕ) (o : Option (List ℕ)) → Few n o → length (unwrap_or o []) ≤ n
  unfolding Few
  few_length n None few = omega arith
  few_length n (Some l) few = few.1

  -- the room that is taken
  pub first_room : (n a : ℕ) → 0 < n → length (unwrap_or (first_parts font a (parts_with font (n - 1) a)) []) ≤ n
  first_room n a some =
      let m : n - 1 + 1 ≡ n = omega arith in
      few_length n (first_parts font a (parts_with font (n - 1) a))
      (few_first n a (parts_with font (n - 1) a) (omega arith)
      (subst (λ k. Few k (parts_with font (n - 1) a)) m (few_parts (n - 1) a)))

  -- a character gives way to one or more
  pub length_with : (c : ℕ) → 1 ≤ length (decomposition_with font c)
  unfolding decomposition_with Few
  length_with c =
      cond_both (font.fewest && font.has c) _ _ (λ (l : List ℕ). 1 ≤ length l) (λ _. omega arith)
      (λ _. some_of (parts_with font most_steps c) (few_parts most_steps c)) where
        some_of : (o : Option (List ℕ)) → Few (most_steps + 1) o → 1 ≤ length (unwrap_or o (c ∷ []))
        some_of None few = omega arith
        some_of (Some l) few = few.0

  -- ---- how they are found

  pub parts_last : (n c : ℕ) → n ≡ 0 → parts_with font n c ≡ None
  unfolding parts_with
  parts_last zero c e = refl
  parts_last (suc n) c e = absurd (omega arith)

  pub parts_none : (n c : ℕ) → font.parts c ≡ None → parts_with font n c ≡ None
  unfolding parts_with
  parts_none zero c e = refl
  parts_none (suc n) c e =
      ap (λ (p : Option (ℕ × ℕ)). elim p [
        | None ↦ None
        | Some q ↦ both_parts font q.0 q.1 (parts_with font n q.0)
      ]) e

  pub parts_some : (n c a b : ℕ) → 0 < n → Some (a, b) ≡ font.parts c
      → both_parts font a b (parts_with font (n - 1) a) ≡ parts_with font n c
  unfolding parts_with
  parts_some zero c a b some e = absurd (omega arith)
  parts_some (suc n) c a b some e =
      let m : suc n - 1 ≡ n = omega arith in
      ap (λ k. both_parts font a b (parts_with font k a)) m
      ∙ ap (λ (p : Option (ℕ × ℕ)). elim p [ None ↦ None | Some q ↦ both_parts font q.0 q.1 (parts_with font n q.0) ]) e

  -- nothing is added
  pub told_none : (o : Option (List ℕ)) → o ≡ None → false ≡ is_some o
  told_none o e = ap is_some (sym e)

  pub held_none : (old : List ℕ) (o : Option (List ℕ)) → o ≡ None → old ≡ old ++ unwrap_or o []
  held_none old o e = sym (append-nil old) ∙ ap (λ (p : Option (List ℕ)). old ++ unwrap_or p []) (sym e)

  pub none_of : (o : Option (List ℕ)) → false ≡ is_some o → o ≡ None
  none_of None e = refl
  none_of (Some l) e = absurd (false≢true e)

  module _ (a b : ℕ) (apart : Option (List ℕ)) where
    abbrev first : Option (List ℕ)
    first = first_parts font a apart

    pub second_lacks : true ≡ lacks font b → both_parts font a b apart ≡ None
    second_lacks e = cond-true _ _ _ (sym e)

    pub second_there : false ≡ lacks font b → both_parts font a b apart ≡ option_map (λ l. l ++ some_part b) first
    second_there e = cond-false _ _ _ (sym e)

    pub first_lacks : false ≡ lacks font b → first ≡ None → both_parts font a b apart ≡ None
    first_lacks e none = second_there e ∙ ap (λ (o : Option (List ℕ)). option_map (λ l. l ++ some_part b) o) none

  told_behind : (o : Option (List ℕ)) (b : ℕ) → is_some o ≡ is_some (option_map (λ l. l ++ some_part b) o)
  told_behind None b = refl
  told_behind (Some l) b = refl

  held_behind : (old : List ℕ) (o : Option (List ℕ)) (b : ℕ) → true ≡ is_some o
      → (old ++ unwrap_or o []) ++ some_part b ≡ old ++ unwrap_or (option_map (λ l. l ++ some_part b) o) []
  held_behind old None b e = absurd (false≢true (sym e))
  held_behind old (Some l) b e = append_assoc old l (some_part b)

  module _ (a b : ℕ) (apart : Option (List ℕ)) (there : false ≡ lacks font b)
      (found : true ≡ is_some (first_parts font a apart)) where
    pub both_told : true ≡ is_some (both_parts font a b apart)
    both_told = found ∙ told_behind (first_parts font a apart) b ∙ ap is_some (sym (second_there a b apart there))

    pub both_held : (old made : List ℕ) → made ≡ old ++ unwrap_or (first_parts font a apart) []
        → made ++ some_part b ≡ old ++ unwrap_or (both_parts font a b apart) []
    both_held old made e =
        ap (λ (l : List ℕ). l ++ some_part b) e ∙ held_behind old (first_parts font a apart) b found
        ∙ ap (λ (o : Option (List ℕ)). old ++ unwrap_or o []) (sym (second_there a b apart there))

  -- ---- what a character gives way to

  without : (o : Option (List ℕ)) (d : List ℕ) → is_some o ≡ false → unwrap_or o d ≡ d
  without None d e = refl
  without (Some l) d e = absurd (false≢true (sym e))

  within : (o : Option (List ℕ)) (d : List ℕ) → is_some o ≡ true → unwrap_or o d ≡ unwrap_or o []
  within None d e = absurd (false≢true e)
  within (Some l) d e = refl

  pub stays_whole : (c : ℕ) → (font.fewest && font.has c) ≡ true → decomposition_with font c ≡ c ∷ []
  unfolding decomposition_with
  stays_whole c e = cond-true _ _ _ e

  pub keeps_whole : (c : ℕ) → (font.fewest && font.has c) ≡ false → is_some (parts_with font most_steps c) ≡ false
      → decomposition_with font c ≡ c ∷ []
  unfolding decomposition_with
  keeps_whole c e none = cond-false _ _ _ e ∙ without (parts_with font most_steps c) (c ∷ []) none

  pub gives_way : (c : ℕ) → (font.fewest && font.has c) ≡ false → is_some (parts_with font most_steps c) ≡ true
      → decomposition_with font c ≡ unwrap_or (parts_with font most_steps c) []
  unfolding decomposition_with
  gives_way c e some = cond-false _ _ _ e ∙ within (parts_with font most_steps c) (c ∷ []) some

  -- ---- with every glyph

  joined : (o : Option (List ℕ)) (a b c : ℕ)
      → unwrap_or (option_map (λ l. l ++ some_part b) (option_or o (Some (a ∷ [])))) (c ∷ [])
      ≡ unwrap_or o (a ∷ []) ++ some_part b
  joined None a b c = refl
  joined (Some l) a b c = refl

  module _ (every : (c : ℕ) → font.has c ≡ true) (most : font.fewest ≡ false) where
    first_full : (a : ℕ) (o : Option (List ℕ)) → first_parts font a o ≡ option_or o (Some (a ∷ []))
    first_full a o =
        cond-false _ _ _ (and_left _ _ most)
        ∙ ap (λ (w : Option (List ℕ)). option_or o w) (cond-true _ _ _ (every a))

    full_in : (n c : ℕ) → unwrap_or (parts_with font n c) (c ∷ []) ≡ decomposition n font.parts c
    unfolding parts_with decomposition
    full_in zero c = refl
    full_in (suc n) c = taken (font.parts c) (λ a. full_in n a) where
      taken : (p : Option (ℕ × ℕ))
          → ((a : ℕ) → unwrap_or (parts_with font n a) (a ∷ []) ≡ decomposition n font.parts a)
          → unwrap_or (elim p [
            | None ↦ None
            | Some q ↦ both_parts font q.0 q.1 (parts_with font n q.0)
          ]) (c ∷ []) ≡ elim p [ None ↦ c ∷ [] | Some q ↦ decomposition n font.parts q.0 ++ some_part q.1 ]
      taken None front = refl
      taken (Some q) front =
          ap (λ (o : Option (List ℕ)). unwrap_or o (c ∷ []))
          (cond-false _ _ _ (and_right _ _ (ap not (every q.1)))
          ∙ ap (λ (o : Option (List ℕ)). option_map (λ l. l ++ some_part q.1) o) (first_full q.0 (parts_with font n q.0)))
          ∙ joined (parts_with font n q.0) q.0 q.1 c
          ∙ ap (λ (l : List ℕ). l ++ some_part q.1) (front q.0)

    pub full : (c : ℕ) → decomposition_with font c ≡ decomposition most_steps font.parts c
    unfolding decomposition_with
    full c = cond-false _ _ _ (and_left _ _ most) ∙ full_in most_steps c
