-- Ranges of a list, by places: the first is in the range, the last is not.
use Rattle.std.specs.Prelude.{ℕ, ◌-◌, ◌++◌, Bool, List, map, take, drop, nat_lt}

-- what stands from place p up to place q
abbrev pub part : {X : Type 0} → List X → ℕ → ℕ → List X
part xs p q = take (q - p) (drop p xs)

-- the list with f of the part from place p up to place q in place of that part
abbrev pub on_part : {X : Type 0} → (List X → List X) → List X → ℕ → ℕ → List X
on_part f xs p q = take p xs ++ f (part xs p q) ++ drop q xs

-- the list with f applied to each item from place p up to place q
abbrev pub map_range : {X : Type 0} → (X → X) → List X → ℕ → ℕ → List X
map_range f xs p q = on_part (map f) xs p q

-- fewer than two places stand from p up to q
abbrev pub is_short : ℕ → ℕ → Bool
is_short p q = nat_lt (q - p) 2
