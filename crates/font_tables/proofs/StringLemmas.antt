-- Where strings begin that stand one behind the other.
use Rattle.std.proofs.Common.{◌≡◌, ℕ, zero, suc, ◌+◌, ◌-◌, ◌<◌, ◌≤◌, List, [], ◌∷◌, ◌++◌, Some, None, refl, sym, ◌∙◌, arith, length, slice_get, length-append, add-one, add-zero, add-suc, inl, inr}
use Rattle.std.proofs.lemmas.Bool.{cases_lt}
use Rattle.std.proofs.lemmas.Option.{slice_get-get_or, slice_get_past}
use Rattle.std.proofs.Math.ListN.{get_or-append}
use Rattle.std.proofs.lemmas.List.{get_or_push}
use Rattle.font_tables.specs.Bytes.{byte_at}
use Rattle.font_tables.specs.GlyphNames.{string_at, string_start, behind}

-- the first `n` strings begin where the list says, and the next one at a place
pub record Starts (strings starts : List ℕ) (n at : ℕ) : Type 0 where
  pub counts : length starts ≡ n
  pub so_far : (i : ℕ) → i < n → slice_get starts i ≡ string_start strings i
  pub here : string_start strings n ≡ string_at strings at

pub Starts-none : (strings starts : List ℕ) → starts ≡ [] → Starts strings starts 0 0
unfolding string_start
Starts-none strings starts empty = record {
  counts = rw empty refl;
  so_far = λ i less. absurd (omega arith);
  here = refl;
}

string_start-next : (bs : List ℕ) (n at : ℕ) → string_start bs n ≡ Some at
    → string_start bs (suc n) ≡ string_at bs (behind bs at)
unfolding string_start
string_start-next bs n at is = rw is refl

-- there is no string behind one that is not there
string_start-none : (bs : List ℕ) (n d : ℕ) → string_start bs n ≡ None → string_start bs (n + d) ≡ None
unfolding string_start
string_start-none bs n zero is = rw add-zero is
string_start-none bs n (suc d) is = rw (add-suc, string_start-none bs n d is) refl

slice_get_kept : (xs : List ℕ) (y i : ℕ) → i < length xs → slice_get (xs ++ y ∷ []) i ≡ slice_get xs i
slice_get_kept xs y i less =
    let more : i < length (xs ++ y ∷ []) = simp length-append (omega arith) in
    let both = slice_get-get_or (xs ++ y ∷ []) i 0 more in
    let one = slice_get-get_or xs i 0 less in
    let same = get_or-append xs (y ∷ []) 0 i less in
    cc

slice_get_last : (xs : List ℕ) (y n : ℕ) → length xs ≡ n → slice_get (xs ++ y ∷ []) n ≡ Some y
slice_get_last xs y n is =
    let more : n < length (xs ++ y ∷ []) = simp length-append (omega arith) in
    let both = slice_get-get_or (xs ++ y ∷ []) n 0 more in
    let last = get_or_push xs y 0 n is in
    cc

pub Starts-push : (strings starts more : List ℕ) (n at size next : ℕ) → Starts strings starts n at
    → string_at strings at ≡ Some at → byte_at strings at ≡ Some size → more ≡ starts ++ at ∷ [] → next ≡ at + (1 + size)
    → Starts strings more (n + 1) next
Starts-push strings starts more n at size next s there is items place = record {
  counts = rw items (simp length-append (omega arith));
  so_far = λ i less.
      elim (cases_lt i n) [
        | inl below ↦ rw items (slice_get_kept starts at i (omega arith) ∙ s.so_far i below)
        | inr most ↦
            let last : i ≡ n = omega arith in
            rw (items, last) (slice_get_last starts at n s.counts ∙ sym (s.here ∙ there))
      ];
  here =
      let same : behind strings at ≡ next = rw is (omega arith) in
      rw (add-one, ← same) (string_start-next strings n at (s.here ∙ there));
}

pub slice_get-starts : (strings starts : List ℕ) (n at : ℕ) → Starts strings starts n at → string_at strings at ≡ None
    → (i : ℕ) → slice_get starts i ≡ string_start strings i
slice_get-starts strings starts n at s none i =
    elim (cases_lt i n) [
      | inl below ↦ s.so_far i below
      | inr past ↦
          let over : length starts ≤ i = omega arith in
          let sum : n + (i - n) ≡ i = omega arith in
          slice_get_past starts i over ∙ sym (rw sum at (string_start-none strings n (i - n) (s.here ∙ none)))
    ]
