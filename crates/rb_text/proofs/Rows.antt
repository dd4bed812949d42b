-- Worked examples of the definitions of tags.
use Rattle.std.proofs.Common.{◌≡◌, ℕ, List, [], ◌∷◌, Option, Some, None, true, false, refl}
use Rattle.std.specs.Prelude.{codes}
use Rattle.rb_common.specs.Tag.{tag_of}
use Rattle.rb_text.specs.LanguageCut.{prefix_of, private_use_of, key_of}
use Rattle.rb_text.specs.LanguageTable.{is_table, tags_of_key}
use Rattle.rb_text.specs.Tags.{scripts_of, languages_of}

abbrev no_cases : List ℕ → Option (List ℕ)
no_cases prefix = None

-- the prefix and the private use of texts
whole_private : prefix_of (codes "x-hbsc") ≡ []
whole_private = refl

second_byte : prefix_of (codes "-x-abc-d-e") ≡ codes "-"
second_byte = refl

first_singleton_ends : prefix_of (codes "xyz-a-foo-b-bar") ≡ codes "xyz"
first_singleton_ends = refl

before_private : prefix_of (codes "zh-cn-x-hbotabc") ≡ codes "zh-cn"
before_private = refl

no_singleton : prefix_of (codes "zh-cn") ≡ codes "zh-cn"
no_singleton = refl

singleton_that_leaves_nothing : prefix_of (codes "-a-bc") ≡ codes "-a-bc"
singleton_that_leaves_nothing = refl

empty_subtags : prefix_of (codes "a---b") ≡ codes "a"
empty_subtags = refl

private_behind_another : private_use_of (codes "a-b-c-x-d") ≡ Some (codes "x-d")
private_behind_another = refl

no_private : private_use_of (codes "ax-b") ≡ None
no_private = refl

x_at_the_end : private_use_of (codes "en-x") ≡ None
x_at_the_end = refl

-- the subtag that is asked for
first_asked : key_of (codes "ml") ≡ codes "ml"
first_asked = refl

extended_asked : key_of (codes "ar-ary") ≡ codes "ary"
extended_asked = refl

too_long : key_of (codes "ar-ary1") ≡ codes "ar"
too_long = refl

too_short_prefix : key_of (codes "a-ary") ≡ codes "a"
too_short_prefix = refl

-- script tags
bengali : scripts_of (Some (tag_of (codes "Beng"))) None ≡ tag_of (codes "bng3") ∷ tag_of (codes "bng2") ∷ tag_of
    (codes "beng") ∷ []
bengali = refl

myanmar : scripts_of (Some (tag_of (codes "Mymr"))) None ≡ tag_of (codes "mym2") ∷ tag_of (codes "mymr") ∷ []
myanmar = refl

lao : scripts_of (Some (tag_of (codes "Laoo"))) None ≡ tag_of (codes "lao ") ∷ []
lao = refl

private_script : scripts_of None (Some (codes "en-x-hbscabc")) ≡ tag_of (codes "abc ") ∷ []
private_script = refl

private_dflt : scripts_of None (Some (codes "x-hbscdflt")) ≡ tag_of (codes "DFLT") ∷ []
private_dflt = refl

no_private_tag : scripts_of (Some (tag_of (codes "Copt"))) (Some (codes "x-hbsc")) ≡ tag_of (codes "copt") ∷ []
no_private_tag = refl

-- language tags
three_bytes : languages_of no_cases [] (Some (codes "xyz-a-foo-b-bar")) ≡ tag_of (codes "XYZ ") ∷ []
three_bytes = refl

with_second_subtag : languages_of no_cases [] (Some (codes "xyz-qw")) ≡ []
with_second_subtag = refl

private_language : languages_of no_cases [] (Some (codes "x-hbsc5678-hbot1234")) ≡ tag_of (codes "1234") ∷ []
private_language = refl

abbrev two_rows : List (List ℕ × ℕ)
two_rows = (codes "ml", tag_of (codes "MAL ")) ∷ (codes "ml", tag_of (codes "MLR ")) ∷ []

two_tags : languages_of no_cases two_rows (Some (codes "ml")) ≡ tag_of (codes "MAL ") ∷ tag_of (codes "MLR ") ∷ []
two_tags = refl

null_first : tags_of_key (codes "aaa") ((codes "aaa", 0) ∷ (codes "aaa", 1) ∷ []) ≡ Some []
null_first = refl

is_two_rows : is_table two_rows ≡ true
is_two_rows = refl

falling_rows : is_table ((codes "b", 1) ∷ (codes "a", 1) ∷ []) ≡ false
falling_rows = refl

no_key : is_table (([], 1) ∷ []) ≡ false
no_key = refl

capital_key : is_table ((codes "A", 1) ∷ []) ≡ false
capital_key = refl
