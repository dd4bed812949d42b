-- Digits, and the numbers that they write.
use Rattle.std.proofs.Common.{ℕ, ◌≡◌, ◌^◌, ◌<◌, List, [], ◌∷◌, Bool, true, false, Result, Ok, Err, SomeIff, refl, subst}
use Rattle.std.proofs.Common.{arith, rules}
use Rattle.std.specs.Char.{is_ascii_digit, is_ascii_hexdigit, digit_value}
use Rattle.std.specs.List.{list_all}
use Rattle.std.specs.Result.{OkIff, result_ok}
use Rattle.std.specs.Str.Parse.{AllDigits, IsNumeral, ParsesUnsigned, digits_value, without_leading_plus}
use Rattle.std.proofs.lemmas.Bool.Decides.{nat_tests}
use Rattle.std.proofs.lemmas.Str.Parse.{IsNumeralModel, numerals_by_value, parse_digits}
use Rattle.shaping_session.specs.Words.{IsDecimal, decimal_value, IsHexadecimal, hexadecimal_value}

-- texts of digits are those that the test passes
decimals : IsNumeralModel (λ word. list_all is_ascii_digit word ≡ true) decimal_value
decimals = numerals_by_value _ (search rules)

-- `parse` at a text of digits
pub decimal_from_parse : {E : Type 0} → (word : List ℕ) (r : Result ℕ E) → ParsesUnsigned 64 10 word r
    → list_all is_ascii_digit word ≡ true
    → SomeIff (result_ok r) (IsDecimal word × (decimal_value word < 2 ^ 64)) (decimal_value word)
decimal_from_parse {E} word (Ok n) h p =
    let q = parse_digits decimals {E = E} 64 word (Ok n) h p in (((q.0.0, p), q.0.1), q.1)
decimal_from_parse {E} word (Err e) h p = λ d. parse_digits decimals {E = E} 64 word (Err e) h p (d.0.0, d.1)

-- the value of a hexadecimal digit, which is no plus
hexadecimal_digit : (c : ℕ) → is_ascii_hexdigit c ≡ true → digit_value c < 16
hexadecimal_digit c h = grind (arith, nat_tests)

hexadecimal_digits : (word : List ℕ) → list_all is_ascii_hexdigit word ≡ true → AllDigits 16 word
hexadecimal_digits [] h = tt
hexadecimal_digits (c ∷ cs) h = first (is_ascii_hexdigit c) refl (hexadecimal_digits cs)
  where
    first : (b : Bool) → is_ascii_hexdigit c ≡ b → (list_all is_ascii_hexdigit cs ≡ true → AllDigits 16 cs)
        → AllDigits 16 (c ∷ cs)
    first true e more = (hexadecimal_digit c e, more (search (rules, h, e)))
    first false e more = absurd (search (rules, h, e))

without_leading_plus-none : (word : List ℕ) → list_all is_ascii_hexdigit word ≡ true → without_leading_plus word ≡ word
without_leading_plus-none [] h = refl
without_leading_plus-none (c ∷ cs) h = search (rules, h)

-- the same of hexadecimal digits
pub hexadecimal_from_parse : {E : Type 0} → (word : List ℕ) (r : Result ℕ E) → ParsesUnsigned 32 16 word r
    → list_all is_ascii_hexdigit word ≡ true
    → SomeIff (result_ok r) (IsHexadecimal word × (hexadecimal_value word < 2 ^ 32)) (hexadecimal_value word)
hexadecimal_from_parse {E} word (Ok n) h p =
    let q = subst (λ t. OkIff {E = E} (Ok n) (IsNumeral 16 t × (digits_value 16 t < 2 ^ 32)) (digits_value 16 t))
    (without_leading_plus-none word p) h in
    (((q.0.0.0, p), q.0.1), q.1)
hexadecimal_from_parse {E} word (Err e) h p =
    let q = subst (λ t. OkIff {E = E} (Err e) (IsNumeral 16 t × (digits_value 16 t < 2 ^ 32)) (digits_value 16 t))
    (without_leading_plus-none word p) h in
    λ d. q ((d.0.0, hexadecimal_digits word p), d.1)
