-- The tags of a language that follow from more than its first subtag (HarfBuzz, `hb_ot_tags_from_complex_language`).
use Rattle.std.specs.Prelude.{ℕ, Bool, List, [], ◌∷◌, Option, Some, None, if◌then◌else◌, option_map, codes}
use Rattle.std.specs.List.{find, list_any}
use Rattle.std.specs.Str.{bytes_eq}
use Rattle.rb_common.specs.Tag.{tag_of}
use Rattle.ot_tags.specs.Subtags.{first_subtag, behind_first, has_subtag}

-- one tag, and two of which the first is the better
abbrev pub one : List ℕ → List ℕ
one tag = tag_of tag ∷ []

abbrev pub two : List ℕ → List ℕ → List ℕ
two first second = tag_of first ∷ tag_of second ∷ []

-- the variants and the scripts that have a tag of their own in any language
abbrev pub variants : List (List ℕ × List ℕ)
variants =
    (codes "fonnapa", codes "APPH")
    ∷ (codes "polyton", codes "PGR ")
    ∷ (codes "arevmda", codes "HYE ")
    ∷ (codes "provenc", codes "PRO ")
    ∷ (codes "fonipa", codes "IPPH")
    ∷ (codes "geok", codes "KGE ")
    ∷ (codes "syre", codes "SYRE")
    ∷ (codes "syrj", codes "SYRJ")
    ∷ (codes "syrn", codes "SYRN")
    ∷ []

-- the tag of the first of them that is among the subtags
unfoldable pub tags_of_variant : List ℕ → Option (List ℕ)
tags_of_variant subtags = option_map (λ row. one row.1) (find (λ row. has_subtag subtags row.0) variants)

-- the whole names that BCP 47 keeps from before it had subtags ("grandfathered", RFC 5646, section 2.2.8), with their tags
abbrev pub kept_names : List (List ℕ × List ℕ)
kept_names =
    (codes "art-lojban", one (codes "JBO "))
    ∷ (codes "i-hak", one (codes "ZHS "))
    ∷ (codes "i-lux", one (codes "LTZ "))
    ∷ (codes "i-navajo", two (codes "NAV ") (codes "ATH "))
    ∷ (codes "no-bok", one (codes "NOR "))
    ∷ (codes "no-nyn", one (codes "NYN "))
    ∷ (codes "zh-min", one (codes "ZHS "))
    ∷ (codes "zh-min-nan", one (codes "ZHS "))
    ∷ []

unfoldable pub tags_of_name : List ℕ → Option (List ℕ)
tags_of_name language = option_map (λ row. row.1) (find (λ row. bytes_eq language row.0) kept_names)

-- Chinese, and the languages of China that are written as it is
abbrev pub chinese : List (List ℕ)
chinese =
    codes "zh" ∷ codes "cdo" ∷ codes "cjy" ∷ codes "cmn" ∷ codes "cnp" ∷ codes "cpx" ∷ codes "csp" ∷ codes "czh"
    ∷ codes "czo" ∷ codes "gan" ∷ codes "hak" ∷ codes "hsn" ∷ codes "mnp" ∷ codes "nan" ∷ codes "wuu" ∷ []

unfoldable pub is_chinese : List ℕ → Bool
is_chinese language = list_any (λ name. bytes_eq name language) chinese

-- Chinese in the traditional script, by the region right behind the script: Hong Kong and Macao have tags of their own
unfoldable pub tags_of_traditional : List ℕ → List ℕ
tags_of_traditional region =
    if bytes_eq region (codes "hk") then one (codes "ZHH ")
    else if bytes_eq region (codes "mo") then two (codes "ZHTM") (codes "ZHH ")
    else one (codes "ZHT ")

-- Chinese by its region alone, wherever that stands
unfoldable pub tags_of_chinese_region : List ℕ → Option (List ℕ)
tags_of_chinese_region subtags =
    if has_subtag subtags (codes "hk") then Some (one (codes "ZHH "))
    else if has_subtag subtags (codes "mo") then Some (two (codes "ZHTM") (codes "ZHH "))
    else if has_subtag subtags (codes "tw") then Some (one (codes "ZHT "))
    else None

-- Chinese, by the subtags behind the first: the script right behind the language decides, and else the region
unfoldable pub tags_of_chinese : List ℕ → Option (List ℕ)
tags_of_chinese subtags =
    if bytes_eq (first_subtag subtags) (codes "hant")
    then Some (tags_of_traditional (first_subtag (behind_first subtags)))
    else if bytes_eq (first_subtag subtags) (codes "hans") then Some (one (codes "ZHS "))
    else tags_of_chinese_region subtags

-- tags that a language has where it passes a test
abbrev pub tags_if : Bool → List ℕ → Option (List ℕ)
tags_if test tags = if test then Some tags else None

-- a language with a script right behind it, or with a region anywhere behind it
unfoldable pub tags_of_region : List ℕ → List ℕ → Option (List ℕ)
tags_of_region language subtags =
    if bytes_eq language (codes "lzh") then tags_if (bytes_eq (first_subtag subtags) (codes "hans")) (one (codes "ZHS "))
    else if bytes_eq language (codes "yue")
    then tags_if (bytes_eq (first_subtag subtags) (codes "hans")) (one (codes "ZHS "))
    else if bytes_eq language (codes "ga") then tags_if (bytes_eq (first_subtag subtags) (codes "latg")) (one (codes "IRT "))
    else if bytes_eq language (codes "mnw") then tags_if (has_subtag subtags (codes "th")) (one (codes "MONT"))
    else if bytes_eq language (codes "ro")
    then tags_if (has_subtag subtags (codes "md")) (two (codes "MOL ") (codes "ROM "))
    else if is_chinese language then tags_of_chinese subtags
    else None
