-- The variations of a list.
use Rattle.std.specs.Prelude.{ℕ, List, [], ◌∷◌, Bool, true, false, Option, Some, None, ◌≡◌, ◌<◌, ◌≤◌, ◌==◌, ◌||◌, take, drop}
use Rattle.std.specs.Prelude.{slice_index_or, if◌then◌else◌}
use Rattle.std.specs.Option.{option_map}
use Rattle.std.specs.Float.{round_to_format}
use Rattle.std.specs.Float.Ieee.{Float, binary32, binary64}
use Rattle.std.specs.Float.Parse.{parse_float}
use Rattle.std.specs.Char.{is_ascii_alphanumeric, is_ascii_digit}
use Rattle.rb_common.specs.Tag.{lossy_tag_of}
use Rattle.font_variations.specs.declared.user_variations.Variation.{Variation}

-- a letter, a digit or `_`
abbrev pub is_letter : ℕ → Bool
is_letter c = is_ascii_alphanumeric c || c == 95

-- a digit or a point, behind a sign or with none
abbrev pub begins_number : List ℕ → Bool
begins_number [] = false
begins_number (c ∷ l) =
    let first = if c == 43 || c == 45 then slice_index_or l 0 0 else c in is_ascii_digit first || first == 46

-- the number that a text reads as: it is read as one of 64 bits, which is rounded to 32
unfoldable pub number_of : List ℕ → Option Float
number_of text = if begins_number text then option_map (round_to_format binary32) (parse_float binary64 text) else None

-- what a text has behind an equals sign, or all of it where it begins with none
abbrev pub behind_equals : List ℕ → List ℕ
behind_equals text = if slice_index_or text 0 0 == 61 then drop 1 text else text

-- a text begins with the tag of a variation, which has one to four letters; no letter stands behind it, but its value
pub record HasTagOf (text : List ℕ) (variation : Variation) : Type 0 where
  pub size : ℕ
  pub some : 0 < size
  pub few : size ≤ 4
  pub letters : (k : ℕ) → k < size → is_letter (slice_index_or text k 0) ≡ true
  pub ends : is_letter (slice_index_or text size 0) ≡ false
  pub tag : variation.tag.0 ≡ lossy_tag_of (take size text)
  pub value : Some variation.value ≡ number_of (behind_equals (drop size text))

-- some text does
abbrev pub HasTag : Variation → Type 0
HasTag variation = (text : List ℕ) × HasTagOf text variation
