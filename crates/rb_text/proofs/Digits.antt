use Rattle.std.proofs.Common.{◌≡◌, ℕ, ◌+◌, ◌*◌, ◌-◌, ◌<◌, ◌≤◌, List, Bool, true, length, take, get_or, arith}
use Rattle.std.specs.List.{take_while, prefix_len, AllPass}
use Rattle.std.specs.Char.{is_ascii_digit}
use Rattle.std.specs.Int.{IsInRange}
use Rattle.std.specs.Str.Parse.{digits_value}
use Rattle.std.proofs.lemmas.Str.{digit_value_digit}
use Rattle.std.proofs.lemmas.Int.Digits.{digits_value_more}
use Rattle.std.proofs.lemmas.List.{get_or-take}
use Rattle.std.proofs.lemmas.List.Folds.{length-prefix_len}
use Rattle.std.proofs.lemmas.List.Sums.{prefix_len_passes}
use Rattle.std.proofs.lemmas.Bool.Decides.{nat_tests}

pub AllPass-take_while : (p : ℕ → Bool) (xs : List ℕ) → AllPass p (take_while p xs)
AllPass-take_while p xs k d h =
    let l : k < prefix_len p xs = omega (arith, length-prefix_len p xs) in
    rw (get_or-take (prefix_len p xs) xs k d l) (prefix_len_passes p xs k d l)

in_range : (c : ℕ) → is_ascii_digit c ≡ true → IsInRange 48 57 c
in_range c h = grind (arith, nat_tests)

-- one more digit
pub value_more : (ds : List ℕ) (i : ℕ) → AllPass is_ascii_digit ds → i < length ds
    → (48 ≤ get_or ds i 0) × (digits_value 10 (take (i + 1) ds)
    ≡ digits_value 10 (take i ds) * 10 + (get_or ds i 0 - 48))
value_more ds i all h =
    let r = in_range (get_or ds i 0) (all i 0 h) in
    let e = digit_value_digit (get_or ds i 0) r in
    (omega (arith, r.0), omega (arith, digits_value_more 10 ds i h, e))
