-- What a character is in a syllable, and where it stands there (HarfBuzz, `hb-ot-shaper-indic.hh`).
use Rattle.std.specs.Prelude.{ℕ, ◌==◌, Bool, true, false, List, [], ◌∷◌, Option, option_map, slice_index_or}
use Rattle.std.specs.List.{find}
use Rattle.rb_glyph.specs.Rows.{is_in, ranges_apart}
use Rattle.script_syllables.specs.declared.category.Category.{Category}
use Rattle.script_syllables.specs.declared.category.Category.TheVariants as own
use Rattle.script_syllables.specs.declared.category.position.Position.{Position}
use Rattle.script_syllables.specs.declared.category.position.Position.TheVariants as spot

-- ---- categories, and the numbers by which items keep them

abbrev pub categories : List Category
categories =
    own.Other ∷ own.Consonant ∷ own.Vowel ∷ own.Nukta ∷ own.Halant ∷ own.NonJoiner ∷ own.Joiner ∷ own.Matra
    ∷ own.Modifier ∷ own.Cantillation ∷ own.Placeholder ∷ own.DottedCircle ∷ own.RegisterShifter ∷ own.MatraPost
    ∷ own.Repha ∷ own.Ra ∷ own.ConsonantMedial ∷ own.Symbol ∷ own.ConsonantWithStacker ∷ own.ModifierPost
    ∷ own.VowelAbove ∷ own.VowelBelow ∷ own.VowelPre ∷ own.VowelPost ∷ own.Robatic ∷ own.XGroup ∷ own.YGroup
    ∷ own.Asat ∷ own.MedialHa ∷ own.MedialRa ∷ own.MedialWa ∷ own.MedialYa ∷ own.PwoTone ∷ own.VariationSelector
    ∷ own.MedialLa ∷ []

-- the category with a number, which is none where no category has it
abbrev pub category_of_number : ℕ → Category
category_of_number n = slice_index_or categories n own.Other

abbrev pub number_of_category : Category → ℕ
number_of_category own.Other = 0
number_of_category own.Consonant = 1
number_of_category own.Vowel = 2
number_of_category own.Nukta = 3
number_of_category own.Halant = 4
number_of_category own.NonJoiner = 5
number_of_category own.Joiner = 6
number_of_category own.Matra = 7
number_of_category own.Modifier = 8
number_of_category own.Cantillation = 9
number_of_category own.Placeholder = 10
number_of_category own.DottedCircle = 11
number_of_category own.RegisterShifter = 12
number_of_category own.MatraPost = 13
number_of_category own.Repha = 14
number_of_category own.Ra = 15
number_of_category own.ConsonantMedial = 16
number_of_category own.Symbol = 17
number_of_category own.ConsonantWithStacker = 18
number_of_category own.ModifierPost = 19
number_of_category own.VowelAbove = 20
number_of_category own.VowelBelow = 21
number_of_category own.VowelPre = 22
number_of_category own.VowelPost = 23
number_of_category own.Robatic = 24
number_of_category own.XGroup = 25
number_of_category own.YGroup = 26
number_of_category own.Asat = 27
number_of_category own.MedialHa = 28
number_of_category own.MedialRa = 29
number_of_category own.MedialWa = 30
number_of_category own.MedialYa = 31
number_of_category own.PwoTone = 32
number_of_category own.VariationSelector = 33
number_of_category own.MedialLa = 34

abbrev pub same_category : Category → Category → Bool
same_category a b = number_of_category a == number_of_category b

-- consonants, and what takes signs as they do (HarfBuzz, `CONSONANT_FLAGS_MYANMAR`)
abbrev pub takes_signs : Category → Bool
takes_signs own.Consonant = true
takes_signs own.ConsonantWithStacker = true
takes_signs own.Ra = true
takes_signs own.Vowel = true
takes_signs own.Placeholder = true
takes_signs own.DottedCircle = true
takes_signs _ = false

-- ---- positions, in HarfBuzz's order

abbrev pub positions : List Position
positions =
    spot.Start ∷ spot.Reph ∷ spot.PreMatra ∷ spot.PreConsonant ∷ spot.Base ∷ spot.AfterMain ∷ spot.Above
    ∷ spot.BeforeSub ∷ spot.Below ∷ spot.AfterSub ∷ spot.BeforePost ∷ spot.Post ∷ spot.AfterPost ∷ spot.Sign
    ∷ spot.End ∷ []

-- the position with a number, which is the end where no position has it
abbrev pub position_of_number : ℕ → Position
position_of_number n = slice_index_or positions n spot.End

abbrev pub number_of_position : Position → ℕ
number_of_position spot.Start = 0
number_of_position spot.Reph = 1
number_of_position spot.PreMatra = 2
number_of_position spot.PreConsonant = 3
number_of_position spot.Base = 4
number_of_position spot.AfterMain = 5
number_of_position spot.Above = 6
number_of_position spot.BeforeSub = 7
number_of_position spot.Below = 8
number_of_position spot.AfterSub = 9
number_of_position spot.BeforePost = 10
number_of_position spot.Post = 11
number_of_position spot.AfterPost = 12
number_of_position spot.Sign = 13
number_of_position spot.End = 14

abbrev pub same_position : Position → Position → Bool
same_position a b = number_of_position a == number_of_position b

-- ---- rows of characters, from the first of each to its last, with a category and a position

abbrev pub range_of : ℕ × ℕ × Category × Position → ℕ × ℕ
range_of row = (row.0, row.1)

abbrev pub are_apart : List (ℕ × ℕ × Category × Position) → Bool
are_apart rows = ranges_apart range_of rows

-- what the row that holds a character has
abbrev pub row_of : ℕ → List (ℕ × ℕ × Category × Position) → Option (Category × Position)
row_of c rows = option_map (λ row. (row.2, row.3)) (find (λ row. is_in c (range_of row)) rows)
