-- What comes of glyphs that are put out one after the other, up to one that is refused.
use Rattle.std.proofs.Common.{◌≡◌, ℕ, zero, suc, ◌+◌, ◌<◌, ◌≤◌, true, false, List, [], ◌∷◌, ◌++◌, length, take, set, arith, refl, sym, ap, ◌∙◌, inl, inr, add-one}
use Rattle.std.proofs.lemmas.Bool.{cond-false, cases_lt}
use Rattle.std.proofs.lemmas.Grind.{take-set_at}
use Rattle.shaping_buffer.specs.State.{State}
use Rattle.shaping_buffer.specs.Step.{Outcome, unlimited}
use Rattle.aat_substitution.specs.Insertions.{Gives, first_glyphs, glyph_at, put_before, put_one, then_do}

outcome_is : (o : Outcome) (new : State) → true ≡ o.done → new ≡ o.state → o ≡ unlimited new
outcome_is o new done is =
    ap (λ d. record { done = d; state = o.state }) (sym done)
    ∙ ap (λ (t : State). record { done = true; state = t }) (sym is)

module _ (glyphs : List ℕ) (s : State) where
  abbrev puts : ℕ → Outcome
  puts n = put_before glyphs n s

  pub puts_none : puts 0 ≡ unlimited s
  unfolding put_before
  puts_none = refl

  puts_next : (n : ℕ) (b : State) → puts n ≡ unlimited b → puts (n + 1) ≡ put_one glyphs n b
  unfolding put_before
  puts_next n b is = ap puts (add-one n) ∙ ap (λ (o : Outcome). then_do o (put_one glyphs n)) is

  pub puts_more : (n : ℕ) (b new : State) → puts n ≡ unlimited b → Gives (put_one glyphs n b) true new
      → puts (n + 1) ≡ unlimited new
  puts_more n b new is g = puts_next n b is ∙ outcome_is (put_one glyphs n b) new g.answer g.state

  puts_same : (m n : ℕ) → n ≤ m → (puts n).done ≡ false → puts m ≡ puts n
  unfolding put_before
  puts_same zero n up halt = let e : zero ≡ n = omega arith in ap puts e
  puts_same (suc m) n up halt = elim (cases_lt n (suc m)) [
    | inl lt ↦
        let same : puts m ≡ puts n = puts_same m n (omega arith) halt in
        ap (λ (o : Outcome). then_do o (put_one glyphs m)) same ∙ cond-false _ _ _ halt
    | inr ge ↦ let e : suc m ≡ n = omega arith in ap puts e
  ]

  -- one was refused
  pub puts_refused : (m n : ℕ) (b new : State) → n < m → puts n ≡ unlimited b → Gives (put_one glyphs n b) false new
      → Gives (puts m) false new
  puts_refused m n b new more done g =
      let last = puts_next n b done in
      let no : (puts (n + 1)).done ≡ false = ap (λ (o : Outcome). o.done) last ∙ sym g.answer in
      let e : puts m ≡ put_one glyphs n b = puts_same m (n + 1) (omega arith) no ∙ last in
      record {
        answer = g.answer ∙ sym (ap (λ (o : Outcome). o.done) e);
        state = g.state ∙ sym (ap (λ (o : Outcome). o.state) e);
      }

  -- all were put out
  pub puts_all : (m n : ℕ) (b : State) → n ≡ m → puts n ≡ unlimited b → Gives (puts m) true b
  puts_all m n b e is =
      let last : puts m ≡ unlimited b = sym (ap puts e) ∙ is in
      record {
        answer = sym (ap (λ (o : Outcome). o.done) last);
        state = sym (ap (λ (o : Outcome). o.state) last);
      }

-- one more glyph is written behind the first one
pub take-written_behind : (glyphs xs : List ℕ) (n place glyph id : ℕ) → place ≡ n → n + 1 < length xs → id ≡ glyph_at glyphs n
    → take (n + 1) xs ≡ glyph ∷ first_glyphs glyphs n
    → take (n + 1 + 1) (set xs (place + 1) id) ≡ glyph ∷ first_glyphs glyphs (n + 1)
unfolding first_glyphs
take-written_behind glyphs xs n place glyph id here within is so_far =
    take-set_at xs (place + 1) (n + 1 + 1) id (omega arith) (omega arith)
    ∙ ap (λ k. take (k + 1) xs ++ id ∷ []) here ∙ ap (λ ys. ys ++ id ∷ []) so_far
    ∙ ap (λ v. glyph ∷ (first_glyphs glyphs n ++ v ∷ [])) is
    ∙ ap (λ k. glyph ∷ first_glyphs glyphs k) (sym (add-one n))
