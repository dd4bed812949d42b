-- Which script of a table, and which of its language systems, a text is shaped by.
use Rattle.std.specs.Prelude.{ℕ, List, [], ◌∷◌, Option, Some, None, option_map, unwrap_or, codes}
use Rattle.std.specs.Option.{option_or}
use Rattle.rb_common.specs.Tag.{tag_of}
use Rattle.font_tables.specs.Bytes.{table_at_16}
use Rattle.ot_map.specs.Tables.{first_record, table_of_record}

-- the first of these tags that has a record, with the first record that it has
abbrev pub first_of : List ℕ → ℕ → List ℕ → Option (ℕ × ℕ)
first_of list at [] = None
first_of list at (tag ∷ tags) = option_or (option_map (λ row. (tag, row)) (first_record list at tag)) (first_of list at tags)

-- the script tags that are tried where a list has none of the text's
abbrev pub default_scripts : List ℕ
default_scripts = tag_of (codes "DFLT") ∷ tag_of (codes "dflt") ∷ tag_of (codes "latn") ∷ []

-- the tag and the table of a script; the null tag and an empty table where there is none
abbrev pub script_at : List ℕ → Option (ℕ × ℕ) → ℕ × List ℕ
script_at scripts None = (0, [])
script_at scripts (Some found) = (found.0, table_of_record scripts 0 found.1)

-- the script of a list for a text with these script tags
unfoldable pub script_of : List ℕ → List ℕ → ℕ × List ℕ
script_of scripts tags = script_at scripts (option_or (first_of scripts 0 tags) (first_of scripts 0 default_scripts))

-- the language system of a script for a language with these tags: that of the first tag that has one, else that of the tag `dflt`,
-- and else the default one
unfoldable pub system_of : List ℕ → List ℕ → List ℕ
system_of script tags =
    unwrap_or (option_map (table_of_record script 2)
    (option_or (option_map (λ found. found.1) (first_of script 2 tags)) (first_record script 2 (tag_of (codes "dflt")))))
    (unwrap_or (table_at_16 script 0) [])
