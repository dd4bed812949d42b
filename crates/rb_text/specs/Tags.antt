-- The OpenType tags of a script and a language.
use Rattle.std.specs.Prelude.{ℕ, ◌==◌, List, [], ◌∷◌, ◌++◌, Option, Some, None, if◌then◌else◌, map, take, drop}
use Rattle.std.specs.Prelude.{length, option_map, unwrap_or, bit_or, codes}
use Rattle.std.specs.Option.{option_and_then}
use Rattle.std.specs.List.{take_while}
use Rattle.std.specs.Char.{is_ascii_alphanumeric, to_ascii_lowercase}
use Rattle.std.specs.Int.{to_be_bytes, w32}
use Rattle.rb_common.specs.Tag.{tag_of, lossy_tag_of, uppercase_tag}
use Rattle.rb_text.specs.LanguageCut.{prefix_of, private_use_of, from_first, key_of}
use Rattle.rb_text.specs.LanguageTable.{tags_of_key}

-- the tag of the second shaping specification of a script, which some scripts of India and that of Myanmar have
abbrev pub new_tag : ℕ → Option ℕ
new_tag script =
    if script == tag_of (codes "Beng") then Some (tag_of (codes "bng2"))
    else if script == tag_of (codes "Deva") then Some (tag_of (codes "dev2"))
    else if script == tag_of (codes "Gujr") then Some (tag_of (codes "gjr2"))
    else if script == tag_of (codes "Guru") then Some (tag_of (codes "gur2"))
    else if script == tag_of (codes "Knda") then Some (tag_of (codes "knd2"))
    else if script == tag_of (codes "Mlym") then Some (tag_of (codes "mlm2"))
    else if script == tag_of (codes "Orya") then Some (tag_of (codes "ory2"))
    else if script == tag_of (codes "Taml") then Some (tag_of (codes "tml2"))
    else if script == tag_of (codes "Telu") then Some (tag_of (codes "tel2"))
    else if script == tag_of (codes "Mymr") then Some (tag_of (codes "mym2"))
    else None

-- the tag that OpenType first gave a script: its ISO 15924 tag with a small first letter, except for five
abbrev pub old_tag : ℕ → ℕ
old_tag script =
    if script == tag_of (codes "Hira") then tag_of (codes "kana")
    else if script == tag_of (codes "Laoo") then tag_of (codes "lao ")
    else if script == tag_of (codes "Yiii") then tag_of (codes "yi  ")
    else if script == tag_of (codes "Nkoo") then tag_of (codes "nko ")
    else if script == tag_of (codes "Vaii") then tag_of (codes "vai ")
    else bit_or script 0x20000000

-- the tag with `3` as its last byte
abbrev pub third_tag : ℕ → ℕ
third_tag tag = tag_of (take 3 (to_be_bytes w32 tag) ++ codes "3")

-- the third tag, except for Myanmar, which has none, and the new tag
abbrev pub newer_tags : Option ℕ → List ℕ
newer_tags None = []
newer_tags (Some tag) = if tag == tag_of (codes "mym2") then tag ∷ [] else third_tag tag ∷ tag ∷ []

-- the tags of a script, the newest first
abbrev pub script_tags : Option ℕ → List ℕ
script_tags None = []
script_tags (Some script) = newer_tags (new_tag script) ++ old_tag script ∷ []

-- the tag with its ASCII letters made small
abbrev pub lowercase_tag : ℕ → ℕ
lowercase_tag tag = tag_of (map to_ascii_lowercase (to_be_bytes w32 tag))

-- DFLT and dflt each give the other
abbrev pub swap_dflt : ℕ → ℕ
swap_dflt tag =
    if tag == tag_of (codes "DFLT") then tag_of (codes "dflt")
    else if tag == tag_of (codes "dflt") then tag_of (codes "DFLT")
    else tag

-- the letters and digits behind a mark, four at most
abbrev pub word_behind : List ℕ → List ℕ → List ℕ
word_behind mark rest = take_while is_ascii_alphanumeric (take 4 (drop (length mark) rest))

-- the tag of a word, where it has a byte
abbrev pub word_tag : List ℕ → Option ℕ
word_tag word = if length word == 0 then None else Some (lossy_tag_of word)

-- the tag that a text for private use names behind the first mark
abbrev pub tag_behind : List ℕ → List ℕ → Option ℕ
tag_behind mark text = option_and_then (λ rest. word_tag (word_behind mark rest)) (from_first mark text)

-- the script tag that a language names for itself, in small letters
abbrev pub private_script_tag : List ℕ → Option ℕ
private_script_tag private = option_map (λ tag. swap_dflt (lowercase_tag tag)) (tag_behind (codes "-hbsc") private)

-- the language tag that a language names for itself, in capitals
abbrev pub private_language_tag : List ℕ → Option ℕ
private_language_tag private = option_map (λ tag. swap_dflt (uppercase_tag tag)) (tag_behind (codes "-hbot") private)

-- a prefix of three bytes is its own tag, in capitals
abbrev pub own_tags : List ℕ → List ℕ
own_tags (a ∷ b ∷ c ∷ []) = uppercase_tag (lossy_tag_of (a ∷ b ∷ c ∷ [])) ∷ []
own_tags prefix = []

-- the tags of a prefix: those of its complex case, if it is one; else those of its key in the table, if the table has a
-- row with it; else its own
abbrev pub tags_of_prefix : (List ℕ → Option (List ℕ)) → List (List ℕ × ℕ) → List ℕ → List ℕ
tags_of_prefix cases table prefix =
    if length prefix == 0 then []
    else unwrap_or (cases prefix) (unwrap_or (tags_of_key (key_of prefix) table) (own_tags prefix))

-- a private tag stands alone, in place of all others
abbrev pub alone_or : Option ℕ → List ℕ → List ℕ
alone_or None tags = tags
alone_or (Some tag) tags = tag ∷ []

-- the tags of a script, for a text in the language
abbrev pub scripts_of : Option ℕ → Option (List ℕ) → List ℕ
scripts_of script None = script_tags script
scripts_of script (Some language) =
    alone_or (option_and_then private_script_tag (private_use_of language)) (script_tags script)

-- the tags of a language
abbrev pub languages_of : (List ℕ → Option (List ℕ)) → List (List ℕ × ℕ) → Option (List ℕ) → List ℕ
languages_of cases table None = []
languages_of cases table (Some language) =
    alone_or (option_and_then private_language_tag (private_use_of language))
    (tags_of_prefix cases table (prefix_of language))
