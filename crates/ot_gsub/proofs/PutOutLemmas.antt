-- Glyphs that are put out in one call, or one by one.
use Rattle.std.proofs.Common.{◌≡◌, ℕ, zero, suc, ◌+◌, ◌<◌, ◌≤◌, Bool, true, false, List, [], ◌∷◌, ◌++◌, length, take, drop, Result, Ok}
use Rattle.std.proofs.Common.{refl, sym, ap, subst, ◌∙◌, inl, inr, arith, append_assoc, length-append}
use Rattle.std.proofs.lemmas.Bool.{cases_lt, cond-true, cond-false, cond_both, eqb-true, false≢true, le-leb, le-ltb, lt-leb, lt-ltb, ne_eqb}
use Rattle.std.proofs.lemmas.List.{get_or-drop, length-take-le, take-append-drop}
use Rattle.std.specs.Prelude.{IsErr, is_err, nat_le, nat_lt, ◌-◌, ◌==◌, ◌||◌, if◌then◌else◌}
use Rattle.std.specs.declared.alloc.AllocError.{AllocError}
use Rattle.rb_glyph.specs.declared.info.hb_glyph_info_t.{hb_glyph_info_t}
use Rattle.glyph_lists.specs.Clusters.{zero_glyph}
use Rattle.ot_lookups.specs.LookupProps.{glyph_at}
use Rattle.shaping_buffer.specs.State.{State}
use Rattle.shaping_buffer.specs.ClusterStep.{both}
use Rattle.shaping_buffer.specs.Step.{Outcome, clear_output, next_glyph, next_glyphs, unlimited}
use Rattle.ot_gsub.specs.Singles.{opened_at}
use Rattle.ot_gsub.proofs.EditsLemmas.{state-limited}
use Rattle.ot_gsub.proofs.SingleTurnLemmas.{settled_level}

-- an output that is open
abbrev pub held : State → Bool → List hb_glyph_info_t → List hb_glyph_info_t → ℕ → State
held b p o l i =
    record b { have_output = true; have_separate_output = p; out = o; input = l; idx = i }

pub held_is : (s : State) → s.have_output ≡ true → s ≡ held s s.have_separate_output s.out s.input s.idx
held_is s is = ap (λ h. record s { have_output = h }) is

-- what comes of n glyphs that are put out, if there are any
abbrev pub put : ℕ → State → Outcome
put n s = if n == 0 then unlimited s else next_glyphs n s

put_some : (n : ℕ) (s : State) → 0 < n → put n s ≡ next_glyphs n s
put_some n s some = cond-false _ _ _ (ne_eqb n 0 (λ e. omega (arith, some, e)))

module _ (b : State) (p : Bool) (o l : List hb_glyph_info_t) (i n : ℕ) where
  done-held : (next_glyphs n (held b p o l i)).done ≡ nat_le (length (o ++ take n l)) b.max_len
  done-held =
      cond_both (nat_le (length (o ++ take n l)) b.max_len) _ _
      (λ (r : Outcome). r.done ≡ nat_le (length (o ++ take n l)) b.max_len) (λ e. sym e) (λ e. sym e)

  state-held : (next_glyphs n (held b p o l i)).done ≡ true → (next_glyphs n (held b p o l i)).state
      ≡ held b (p || nat_lt (i + n) (length (o ++ take n l))) (o ++ take n l) (drop n l) (i + n)
  state-held done =
      state-limited (length (o ++ take n l)) (held b p o l i) (held b p (o ++ take n l) (drop n l) (i + n)) done

  input-held : (put n (held b p o l i)).done ≡ true → (put n (held b p o l i)).state.input ≡ drop n l
  input-held =
      cond_both (n == 0) _ _ (λ (r : Outcome). r.done ≡ true → r.state.input ≡ drop n l)
      (λ none _. ap (λ k. drop k l) (sym (eqb-true n 0 none))) (λ _ done. ap (λ (t : State). t.input) (state-held done))

  both-held : (put n (held b p o l i)).done ≡ true → both (put n (held b p o l i)).state ≡ o ++ l
  both-held =
      cond_both (n == 0) _ _ (λ (r : Outcome). r.done ≡ true → both r.state ≡ o ++ l)
      (λ _ _. refl)
      (λ _ done. ap both (state-held done) ∙ append_assoc o (take n l) (drop n l)
      ∙ ap (λ (x : List hb_glyph_info_t). o ++ x) (take-append-drop n l))

-- what is left to read after that
pub input-put : (n : ℕ) (s : State) → s.have_output ≡ true → (put n s).done ≡ true → (put n s).state.input ≡ drop n s.input
input-put n s is =
    subst (λ (t : State). (put n t).done ≡ true → (put n t).state.input ≡ drop n t.input) (sym (held_is s is))
    (input-held s s.have_separate_output s.out s.input s.idx n)

-- and both sides as one list
pub both-put : (n : ℕ) (s : State) → s.have_output ≡ true → (put n s).done ≡ true → both (put n s).state ≡ both s
both-put n s is =
    subst (λ (t : State). (put n t).done ≡ true → both (put n t).state ≡ both t) (sym (held_is s is))
    (both-held s s.have_separate_output s.out s.input s.idx n)

nat_lt-shift : (a b c d k : ℕ) → a + k ≡ c → b + k ≡ d → nat_lt a b ≡ nat_lt c d
nat_lt-shift a b c d k p q = elim (cases_lt a b) [
  | inl lt ↦ lt-ltb a b lt ∙ sym (lt-ltb c d (omega (arith, lt, p, q)))
  | inr ge ↦ le-ltb a b ge ∙ sym (le-ltb c d (omega (arith, ge, p, q)))
]

or_twice : (p q : Bool) → ((p || q) || q) ≡ (p || q)
or_twice true q = refl
or_twice false true = refl
or_twice false false = refl

module _ (b : State) (p : Bool) (o : List hb_glyph_info_t) (x : hb_glyph_info_t) (xs : List hb_glyph_info_t) (i : ℕ) where
  abbrev s : State
  s = held b p o (x ∷ xs) i

  -- whether there are more than were read once the first of them is put out
  abbrev q : Bool
  q = nat_lt (i + 1) (length (o ++ x ∷ []))

  abbrev s1 : State
  s1 = held b (p || q) (o ++ x ∷ []) xs (i + 1)

  abbrev fits : Bool
  fits = nat_le (length (o ++ x ∷ [])) b.max_len

  pub first_fits : fits ≡ true → next_glyph s ≡ unlimited s1
  first_fits holds = cond-true _ _ _ holds

  pub first_refused : fits ≡ false → (next_glyph s).done ≡ false
  first_refused fails = done-held b p o (x ∷ xs) i 1 ∙ fails

  long_one : length (o ++ x ∷ []) ≡ length o + 1
  long_one = length-append o (x ∷ [])

  module _ (m : ℕ) (within : m ≤ length xs) where
    abbrev more : List hb_glyph_info_t
    more = o ++ x ∷ take m xs

    long_put : length more ≡ length o + 1 + m
    long_put = length-append o (x ∷ take m xs) ∙ omega (arith, length-take-le m xs within)

    one : put (suc m) s ≡ next_glyphs (suc m) s
    one = put_some (suc m) s (omega arith)

    done_all : (put (suc m) s).done ≡ nat_le (length more) b.max_len
    done_all = ap (λ (r : Outcome). r.done) one ∙ done-held b p o (x ∷ xs) i (suc m)

    pub all_refused : fits ≡ false → (put (suc m) s).done ≡ false
    all_refused fails =
        let long : nat_le (length more) b.max_len ≡ false =
        elim (cases_lt b.max_len (length (o ++ x ∷ []))) [
          | inl lt ↦ lt-leb (length more) b.max_len (omega (arith, lt, long_put, long_one))
          | inr ge ↦ absurd (false≢true (sym fails ∙ le-leb (length (o ++ x ∷ [])) b.max_len ge))
        ] in
        done_all ∙ long

    -- those after the first come as if they were put out alone
    abbrev RestIs : Type 0
    RestIs = ((put (suc m) s).done ≡ (put m s1).done) × ((put m s1).done ≡ true → (put (suc m) s).state ≡ (put m s1).state)

    some_more : 0 < m → RestIs
    some_more some =
        let two : put m s1 ≡ next_glyphs m s1 = put_some m s1 some in
        let apart = (o ++ x ∷ []) ++ take m xs in
        let same : apart ≡ more = append_assoc o (x ∷ []) (take m xs) in
        let done_rest : (put m s1).done ≡ nat_le (length apart) b.max_len =
        ap (λ (r : Outcome). r.done) two ∙ done-held b (p || q) (o ++ x ∷ []) xs (i + 1) m in
        let equal : (put (suc m) s).done ≡ (put m s1).done =
        done_all ∙ ap (λ (l : List hb_glyph_info_t). nat_le (length l) b.max_len) (sym same) ∙ sym done_rest in
        let shift : nat_lt (i + 1 + m) (length more) ≡ q =
        sym (nat_lt-shift (i + 1) (length (o ++ x ∷ [])) (i + 1 + m) (length more) m refl (omega (arith, long_put, long_one))) in
        let place : i + suc m ≡ i + 1 + m = omega arith in (
          equal,
          λ holds.
              ap (λ (r : Outcome). r.state) one
              ∙ state-held b p o (x ∷ xs) i (suc m) (sym (ap (λ (r : Outcome). r.done) one) ∙ equal ∙ holds)
              ∙ ap (λ k. held b (p || nat_lt k (length more)) more (drop m xs) k) place
              ∙ ap (λ z. held b z more (drop m xs) (i + 1 + m))
              (ap (λ z. p || z) shift ∙ sym (or_twice p q) ∙ ap (λ z. (p || q) || z) (sym shift))
              ∙ ap (λ (l : List hb_glyph_info_t). held b ((p || q) || nat_lt (i + 1 + m) (length l)) l (drop m xs) (i + 1 + m))
              (sym same)
              ∙ sym (state-held b (p || q) (o ++ x ∷ []) xs (i + 1) m (sym (ap (λ (r : Outcome). r.done) two) ∙ holds))
              ∙ sym (ap (λ (r : Outcome). r.state) two),
        )

  pub rest_is : (m : ℕ) (within : m ≤ length xs) → fits ≡ true
      → ((put (suc m) s).done ≡ (put m s1).done) × ((put m s1).done ≡ true → (put (suc m) s).state ≡ (put m s1).state)
  rest_is zero within holds =
      (ap (λ (r : Outcome). r.done) (first_fits holds), λ _. ap (λ (r : Outcome). r.state) (first_fits holds))
  rest_is (suc m) within holds = some_more (suc m) within (omega arith)

-- an output is opened, and n glyphs are put out
pub next_glyphs-opened : (n : ℕ) (s : State) → n ≤ length s.input → length s.input ≤ s.max_len
    → next_glyphs n (clear_output s) ≡ unlimited (opened_at n s)
next_glyphs-opened n s within long =
    let after : State = record (opened_at n s) { idx = 0 + n } in
    let count = length-take-le n s.input within in
    let place : 0 + n ≡ n = omega arith in
    cond-true _ _ _ (le-leb (length (take n s.input)) s.max_len (omega (arith, count, within, long)))
    ∙ ap unlimited (settled_level after refl (omega (arith, count)))
    ∙ ap (λ k. unlimited (record (opened_at n s) { idx = k })) place

-- memory runs out only while what was put out has a storage of its own
pub wants_storage : (separate : Bool) (result : Result Bool AllocError) → (separate ≡ false → result ≡ Ok true) → IsErr result
    → separate ≡ true
wants_storage true result done failed = refl
wants_storage false result done failed = absurd (false≢true (sym (ap is_err (done refl)) ∙ failed))

pub glyph_at-drop : (n : ℕ) (l : List hb_glyph_info_t) → glyph_at (drop n l) 0 ≡ glyph_at l n
glyph_at-drop n l = let none : n + 0 ≡ n = omega arith in get_or-drop n l 0 zero_glyph ∙ ap (glyph_at l) none
