-- How the text of a language is cut into its subtags, between which hyphens stand (BCP 47, RFC 5646, section 2.1).
use Rattle.std.specs.Prelude.{ℕ, Bool, ◌&&◌, List, [], Option, Some, None, if◌then◌else◌, nat_eq, nat_le, length, codes}
use Rattle.std.specs.List.{slice_split, list_any, before_first, after_first, starts_with}
use Rattle.std.specs.Str.{bytes_eq}
use Rattle.rb_text.specs.LanguageCut.{is_hyphen, is_extended, before_singleton}

-- the subtags of a text: what stands between its hyphens
abbrev pub subtags : List ℕ → List (List ℕ)
subtags text = slice_split is_hyphen text

-- the first subtag of a text
unfoldable pub first_subtag : List ℕ → List ℕ
first_subtag text = before_first is_hyphen text

-- the subtags behind the first, as a text: nothing where there are none
unfoldable pub behind_first : List ℕ → List ℕ
behind_first text = after_first is_hyphen text

-- whether one of the subtags of a text is this one
unfoldable pub has_subtag : List ℕ → List ℕ → Bool
has_subtag text subtag = list_any (λ part. bytes_eq part subtag) (subtags text)

-- the part of a language that says which language it is: what stands before the first singleton; nothing of one that begins with
-- `x-`, which is all for private use
unfoldable pub prefix_of : List ℕ → List ℕ
prefix_of language = if starts_with nat_eq language (codes "x-") then [] else before_singleton language

-- the extended language of a prefix, by what stands behind its first subtag: a second subtag of three bytes, the first of them a
-- letter, where the prefix has at least six bytes
unfoldable pub extended_language : List ℕ → List ℕ → Option (List ℕ)
extended_language prefix rest =
    if nat_le 6 (length prefix) && is_extended (first_subtag rest) then Some (first_subtag rest) else None
