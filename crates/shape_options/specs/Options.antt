-- Options of HarfBuzz's `hb-shape`, by the texts of their values.
use Rattle.std.specs.Prelude.{◌≡◌, ◌&&◌, ℤ, pos, ℕ, false, List, map, codes, Option, Some, None, is_some, FitsSigned}
use Rattle.std.specs.Float.Ieee.{Float}
use Rattle.std.specs.Char.{to_ascii_lowercase}
use Rattle.std.specs.Int.{w32}
use Rattle.std.specs.Str.Parse.{IsNumeral, signed_digits_value, without_leading_sign}
use Rattle.shape_options.specs.Variations.{number_of}
use Rattle.clap.specs.Matches.{first_value}
use Rattle.clap.specs.declared.parser.matches.Found.{Found}
use Rattle.shaping_buffer.specs.declared.cluster_level.BufferClusterLevel.{BufferClusterLevel}
use Rattle.shaping_buffer.specs.declared.cluster_level.BufferClusterLevel.TheVariants as level

-- an option is not given, or its value is so
abbrev pub IfGiven : (List ℕ → Type 0) → Option (List ℕ) → Type 0
IfGiven P None = Unit {0}
IfGiven P (Some value) = P value

-- a whole number of 32 bits
abbrev pub IsInt : List ℕ → Type 0
IsInt text = IsNumeral 10 (without_leading_sign text) × FitsSigned w32 (signed_digits_value 10 text)

-- `ot`, in letters of either case: the face loader and the font functions that there are
abbrev pub IsOpenType : List ℕ → Type 0
IsOpenType name = map to_ascii_lowercase name ≡ codes "ot"

-- `--cluster-level`: 0, 2 and 3 are levels, and any other number stands for level 1, which does not merge graphemes
abbrev pub HasLevel : ℤ → BufferClusterLevel → Type 0
HasLevel n is =
    (n ≡ pos 0 → is ≡ level.MonotoneGraphemes) × (n ≡ pos 2 → is ≡ level.Characters) × (n ≡ pos 3 → is ≡ level.Graphemes)
    × ((n ≡ pos 0 → ⊥) → (n ≡ pos 2 → ⊥) → (n ≡ pos 3 → ⊥) → is ≡ level.MonotoneCharacters)

-- level 0 where it is not given
abbrev pub IsLevelOf : Option (List ℕ) → BufferClusterLevel → Type 0
IsLevelOf None is = is ≡ level.MonotoneGraphemes
IsLevelOf (Some text) is = IsInt text × HasLevel (signed_digits_value 10 text) is

-- the options that are there for HarfBuzz's sake alone change nothing
pub record ChangesNothing (found : Found) : Type 0 where
  pub loader : IfGiven IsOpenType (first_value found (codes "face-loader"))
  pub load_flags : IfGiven IsInt (first_value found (codes "ft-load-flags"))
  pub functions : IfGiven IsOpenType (first_value found (codes "font-funcs"))

-- at most one of two options is given
abbrev pub AreNotBoth : Option (List ℕ) → Option (List ℕ) → Type 0
AreNotBoth first second = (is_some first && is_some second) ≡ false

-- the value of an option, if it is given, reads as this number
abbrev pub IsReadAs : Float → Option (List ℕ) → Type 0
IsReadAs number value = IfGiven (λ text. Some number ≡ number_of text) value
