-- The OpenType tags of a language (HarfBuzz, `hb_ot_tags_from_language`).
use Rattle.std.specs.Prelude.{ℕ, List, [], Option, Some, None, unwrap_or}
use Rattle.std.specs.Option.{option_or}
use Rattle.rb_text.specs.Tags.{own_tags}
use Rattle.ot_tags.specs.Subtags.{prefix_of, first_subtag, behind_first, extended_language}
use Rattle.ot_tags.specs.SubtagRules.{tags_of_variant, tags_of_name, tags_of_region}
use Rattle.ot_tags.specs.Registry.{registered_tags}

-- what the registry has: the tags of the extended language, where there is one, and else those of the first subtag. One of three
-- bytes that it does not have is its own tag, in capitals
abbrev pub looked_up_by : Option (List ℕ) → List ℕ → List ℕ
looked_up_by (Some extended) first = unwrap_or (registered_tags extended) []
looked_up_by None first = unwrap_or (registered_tags first) (own_tags first)

unfoldable pub looked_up : List ℕ → List ℕ → List ℕ → List ℕ
looked_up prefix first rest = looked_up_by (extended_language prefix rest) first

-- the tags of a language: by a variant or a script that has one, else by its whole name, else by the script or the region beside
-- its first subtag, and else by the registry
unfoldable pub tags_of_language : List ℕ → List ℕ
tags_of_language language =
    let prefix = prefix_of language in
    let first = first_subtag prefix in
    let rest = behind_first prefix in
    unwrap_or (option_or (option_or (tags_of_variant rest) (tags_of_name language)) (tags_of_region first rest))
    (looked_up prefix first rest)

-- an unknown language has none
unfoldable pub tags_of : Option (List ℕ) → List ℕ
tags_of None = []
tags_of (Some language) = tags_of_language language
