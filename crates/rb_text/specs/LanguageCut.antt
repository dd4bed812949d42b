-- How the text of a language is cut. A singleton is a byte with `-` on both sides. What the singleton `x` begins is for
-- private use, what stands before the first singleton is the prefix, and one subtag of it is looked up in a table.
use Rattle.std.specs.Prelude.{ℕ, ◌==◌, ◌&&◌, List, [], ◌∷◌, Option, Some, None, Bool, false, if◌then◌else◌, nat_le}
use Rattle.std.specs.Prelude.{nat_eq, length, drop, option_map, codes}
use Rattle.std.specs.List.{starts_with, before_first, after_first}
use Rattle.std.specs.Char.{is_ascii_alphabetic}
use Rattle.rb_common.specs.Ascii.{hyphen}

abbrev pub is_hyphen : ℕ → Bool
is_hyphen b = b == hyphen

-- whether a text begins with a `-`, a singleton and a `-`
abbrev pub begins_with_singleton : List ℕ → Bool
begins_with_singleton [] = false
begins_with_singleton (a ∷ []) = false
begins_with_singleton (a ∷ b ∷ []) = false
begins_with_singleton (a ∷ b ∷ c ∷ rest) = is_hyphen a && is_hyphen c

-- what stands before the `-` of the first singleton, or all
abbrev pub until_singleton : List ℕ → List ℕ
until_singleton [] = []
until_singleton (b ∷ bs) = if begins_with_singleton (b ∷ bs) then [] else b ∷ until_singleton bs

-- the same, but a singleton whose `-` is the first byte does not count
abbrev pub before_singleton : List ℕ → List ℕ
before_singleton [] = []
before_singleton (b ∷ bs) = b ∷ until_singleton bs

-- the prefix: none where the text begins with `x-`, `-` where it begins with `-x-`, and else what stands before the
-- first singleton
abbrev pub prefix_of : List ℕ → List ℕ
prefix_of text =
    if starts_with nat_eq text (codes "x-") then []
    else if starts_with nat_eq text (codes "-x-") then codes "-"
    else before_singleton text

-- what is left of a text from the first place on where the mark stands
abbrev pub from_first : List ℕ → List ℕ → Option (List ℕ)
from_first mark [] = None
from_first mark (b ∷ bs) = if starts_with nat_eq (b ∷ bs) mark then Some (b ∷ bs) else from_first mark bs

-- what is for private use: all where it begins with `x-`, and else from the first singleton `x` on
abbrev pub private_use_of : List ℕ → Option (List ℕ)
private_use_of text =
    if starts_with nat_eq text (codes "x-") then Some text
    else option_map (λ rest. drop 1 rest) (from_first (codes "-x-") text)

-- the second subtag of a prefix
abbrev pub second_subtag : List ℕ → List ℕ
second_subtag prefix = before_first is_hyphen (after_first is_hyphen prefix)

-- whether a subtag has the form of an extended language: three bytes, the first a letter
abbrev pub is_extended : List ℕ → Bool
is_extended [] = false
is_extended (a ∷ []) = false
is_extended (a ∷ b ∷ []) = false
is_extended (a ∷ b ∷ c ∷ []) = is_ascii_alphabetic a
is_extended (a ∷ b ∷ c ∷ d ∷ more) = false

-- the subtag of a prefix that is looked up in a table: the second where that is an extended language and the prefix has
-- at least six bytes, and else the first
abbrev pub key_of : List ℕ → List ℕ
key_of prefix =
    if nat_le 6 (length prefix) && is_extended (second_subtag prefix) then second_subtag prefix
    else before_first is_hyphen prefix
