-- The answers to questions that are asked of no text.
use Rattle.std.specs.Prelude.{ℕ, ◌≡◌, ◌-◌, false, List, [], ◌∷◌, ◌++◌, length, replicate, codes, flat_map, map, Option}
use Rattle.std.specs.Prelude.{None, option_map}
use Rattle.std.specs.Char.{to_ascii_lowercase}
use Rattle.std.specs.Fmt.{decimal, radix_digits}
use Rattle.rb_text.specs.declared.feature.Feature.{Feature}
use Rattle.rb_text.specs.Feature.{ReadsAs}
use Rattle.rb_common.specs.Tag.{tag_of}
use Rattle.rb_text.specs.Tags.{scripts_of, languages_of}
use Rattle.rb_glyph.specs.Hangul.{HangulComposes}
use Rattle.shaping_session.specs.Replies.{IsOneLine}

-- a number in small hexadecimal digits
abbrev pub hexadecimal : ℕ → List ℕ
hexadecimal n = radix_digits 16 false n

-- the same in eight digits at least
abbrev pub eight_digits : ℕ → List ℕ
eight_digits n = replicate (8 - length (hexadecimal n)) 48 ++ hexadecimal n

-- the tag, the value, the start and the end of a feature, parted by spaces
abbrev pub feature_text : Feature → List ℕ
feature_text f = eight_digits f.tag.0 ++ 32 ∷ decimal f.value ++ 32 ∷ decimal f.start ++ 32 ∷ decimal f.end

-- the feature that a text reads as, where it reads as one
abbrev pub AnswersFeature : List ℕ → List ℕ → Type 0
AnswersFeature text answer =
    ((f : Feature) → ReadsAs text f → answer ≡ feature_text f)
    × (((f : Feature) → ¬ ReadsAs text f) → answer ≡ codes "invalid feature")
    × IsOneLine answer

-- the syllable that two characters make, where they make one
abbrev pub AnswersCompose : ℕ → ℕ → List ℕ → Type 0
AnswersCompose a b answer =
    ((s : ℕ) → HangulComposes s a b → answer ≡ hexadecimal s)
    × (((s : ℕ) → ¬ HangulComposes s a b) → answer ≡ codes "none")
    × IsOneLine answer

-- the two characters that make a syllable
abbrev pub AnswersDecompose : ℕ → List ℕ → Type 0
AnswersDecompose s answer =
    ((a b : ℕ) → HangulComposes s a b → answer ≡ hexadecimal a ++ 32 ∷ hexadecimal b)
    × (((a b : ℕ) → ¬ HangulComposes s a b) → answer ≡ codes "none")
    × IsOneLine answer

-- the table of languages that tags are asked of: its one row is that of Malayalam
abbrev pub language_rows : List (List ℕ × ℕ)
language_rows = (codes "ml", tag_of (codes "MAL ")) ∷ []

-- tags in hexadecimal digits, each with a space before it
abbrev pub spaced_tags : List ℕ → List ℕ
spaced_tags tags = flat_map (λ tag. 32 ∷ eight_digits tag) tags

-- the tags of a script, and those of a language
abbrev pub tag_lists_text : List ℕ → List ℕ → List ℕ
tag_lists_text scripts languages = codes "scripts" ++ spaced_tags scripts ++ codes " languages" ++ spaced_tags languages

-- the tags of a script and a language, of which none is a complex case; the letters of the language are made small
abbrev pub tags_text : Option ℕ → Option (List ℕ) → List ℕ
tags_text script text =
    let language = option_map (λ t. map to_ascii_lowercase t) text in
    tag_lists_text (scripts_of script language) (languages_of (λ prefix. None) language_rows language)
