-- The standard encoding (The Compact Font Format Specification, Appendix B).
use Rattle.std.specs.Prelude.{ℕ, List, [], ◌∷◌, Option, ◌&&◌, ◌+◌, ◌-◌, nat_le, option_map}
use Rattle.std.specs.List.{find}

-- codes in a row, from the first to the last, with the string number of the first
abbrev pub encoded_rows : List (ℕ × ℕ × ℕ)
encoded_rows =
    (32, 126, 1) ∷ ((161, 175, 96) ∷ ((177, 180, 111) ∷ ((182, 189, 115) ∷ ((191, 191, 123) ∷ ((193, 200, 124)
    ∷ ((202, 203, 132) ∷ ((205, 208, 134) ∷ ((225, 225, 138) ∷ ((227, 227, 139) ∷ ((232, 235, 140) ∷ ((241, 241, 144)
    ∷ ((245, 245, 145) ∷ ((248, 251, 146) ∷ [])))))))))))))

-- the string number of a code: one more for each code behind the first
unfoldable pub encoded_string : ℕ → Option ℕ
encoded_string code =
    option_map (λ row. row.2 + (code - row.0)) (find (λ row. nat_le row.0 code && nat_le code row.1) encoded_rows)
