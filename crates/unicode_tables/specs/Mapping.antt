-- The canonical decomposition of a character in one step (field 5 of `UnicodeData.txt`), found from the full one.
use Rattle.std.specs.Prelude.{ℕ, ◌-◌, ◌==◌, List, [], ◌∷◌, Option, Some, None, find, option_map, length, slice_index}
use Rattle.std.specs.Prelude.{slice_range, nat_eq, if◌then◌else◌}
use Rattle.std.specs.Cmp.Lexicographic.{pointwise}

-- the first character of a mapping, and the second if there is one
abbrev pub parts_of : List ℕ → Option (ℕ × Option ℕ)
parts_of [] = None
parts_of (a ∷ []) = Some (a, None)
parts_of (a ∷ b ∷ rest) = Some (a, Some b)

-- ---- how it is found

-- the character that a character and those behind it compose to, taken in order
unfoldable pub whole_from : (ℕ → ℕ → Option ℕ) → ℕ → List ℕ → Option ℕ
whole_from join a [] = Some a
whole_from join a (b ∷ bs) = elim (join a b) [ Some ab ↦ whole_from join ab bs | None ↦ None ]

abbrev pub whole_of : (ℕ → ℕ → Option ℕ) → List ℕ → Option ℕ
whole_of join [] = None
whole_of join (a ∷ bs) = whole_from join a bs

-- characters that no pair composes to and that are the first part of another one's decomposition
abbrev pub heads : List ℕ
heads = 0xFB49 ∷ 0x1D15F ∷ 0x1D1BB ∷ 0x1D1BC ∷ []

-- the character that decomposes to the characters
unfoldable pub head_of : (ℕ → ℕ → Option ℕ) → (ℕ → List ℕ) → List ℕ → Option ℕ
head_of join full chars =
    elim (whole_of join chars) [ Some whole ↦ Some whole | None ↦ find (λ h. pointwise nat_eq (full h) chars) heads ]

-- all but the last of the characters, as the character that decomposes to them, and the last
abbrev pub pair_of : (ℕ → ℕ → Option ℕ) → (ℕ → List ℕ) → List ℕ → Option (ℕ × Option ℕ)
pair_of join full all =
    let last = length all - 1 in
    option_map (λ h. (h, Some (slice_index all last))) (head_of join full (slice_range all 0 last))

-- the parts of c, where `all` is its full decomposition
unfoldable pub step_of : (ℕ → ℕ → Option ℕ) → (ℕ → List ℕ) → ℕ → List ℕ → Option (ℕ × Option ℕ)
step_of join full c [] = None
step_of join full c (a ∷ bs) =
    let pair = pair_of join full (a ∷ bs) in
    elim (whole_from join a bs) [ Some whole ↦ (if whole == c then pair else Some (whole, None)) | None ↦ pair ]
