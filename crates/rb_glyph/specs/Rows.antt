-- Rows in the order of their keys, the row of a key, and ranges of characters.
use Rattle.std.specs.Prelude.{ℕ, Bool, true, ◌==◌, ◌&&◌, nat_lt, nat_le, List, [], ◌∷◌, Option, option_map}
use Rattle.std.specs.List.{find, list_any, list_all}

-- each row is below the next
abbrev pub rise : {R : Type 0} → (R → R → Bool) → List R → Bool
rise below [] = true
rise below (a ∷ []) = true
rise below (a ∷ (b ∷ rows)) = below a b && rise below (b ∷ rows)

-- the rule of rows whose key is a character: each key is below the next
abbrev pub keys_rise : {V : Type 0} → List (ℕ × V) → Bool
keys_rise rows = rise (λ a b. nat_lt a.0 b.0) rows

-- what the row with the key holds, by a walk over the rows
abbrev pub value_of : {V : Type 0} → ℕ → List (ℕ × V) → Option V
value_of key rows = option_map (λ row. row.1) (find (λ row. row.0 == key) rows)

-- whether a range, from its first to its last, holds the number
abbrev pub is_in : ℕ → ℕ × ℕ → Bool
is_in c range = nat_le range.0 c && nat_le c range.1

-- the rule of rows with a range each: none ends before it begins, and each ends before the next begins
abbrev pub ranges_apart : {R : Type 0} → (R → ℕ × ℕ) → List R → Bool
ranges_apart range_of rows =
    list_all (λ r. nat_le (range_of r).0 (range_of r).1) rows && rise (λ a b. nat_lt (range_of a).1 (range_of b).0) rows

abbrev pub are_apart : List (ℕ × ℕ) → Bool
are_apart ranges = ranges_apart (λ r. r) ranges

-- some range holds the character
unfoldable pub holds : ℕ → List (ℕ × ℕ) → Bool
holds c ranges = list_any (is_in c) ranges
