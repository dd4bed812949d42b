-- Tables of pairs that a character is made of, and of the parts that it is taken into.
use Rattle.std.specs.Prelude.{ℕ, Bool, ◌==◌, ◌&&◌, ◌||◌, nat_lt, List, Option, option_map, unwrap_or}
use Rattle.std.specs.List.{find}
use Rattle.rb_glyph.specs.Rows.{rise}

-- a pair is below another by its first character, and by its second where the first is the same
abbrev pub pair_lt : ℕ × ℕ → ℕ × ℕ → Bool
pair_lt a b = nat_lt a.0 b.0 || (a.0 == b.0 && nat_lt a.1 b.1)

-- the rule of compositions: each pair is below the next
abbrev pub pairs_rise : List ((ℕ × ℕ) × ℕ) → Bool
pairs_rise rows = rise (λ a b. pair_lt a.0 b.0) rows

-- what the row of the pair says that it makes
abbrev pub composition_of : ℕ → ℕ → List ((ℕ × ℕ) × ℕ) → Option ℕ
composition_of a b rows = option_map (λ row. row.1) (find (λ row. row.0.0 == a && row.0.1 == b) rows)

-- the rule of decompositions: each character is below the next
abbrev pub decompositions_rise : List (ℕ × ℕ × Option ℕ) → Bool
decompositions_rise rows = rise (λ a b. nat_lt a.0 b.0) rows

-- the parts in the character's row, with the null character where there is no second
abbrev pub decomposition_of : ℕ → List (ℕ × ℕ × Option ℕ) → Option (ℕ × ℕ)
decomposition_of c rows = option_map (λ row. (row.1, unwrap_or row.2 0)) (find (λ row. row.0 == c) rows)
