-- Worked examples of the tags of languages, most of them of HarfBuzz's tests (`test-ot-tag.c`).
use Rattle.std.proofs.Common.{◌≡◌, [], ◌∷◌, Some, refl}
use Rattle.std.specs.Prelude.{codes}
use Rattle.rb_common.specs.Tag.{tag_of}
use Rattle.ot_tags.specs.Subtags.{subtags, prefix_of, first_subtag, behind_first, has_subtag, extended_language}
use Rattle.ot_tags.specs.SubtagRules.{one, two, tags_of_variant, tags_of_name, tags_of_region, is_chinese}
use Rattle.ot_tags.specs.SubtagRules.{tags_of_chinese, tags_of_traditional, tags_of_chinese_region}
use Rattle.ot_tags.specs.Registry.{registry, rows_of, tag_of_cell, tags_of_code, registered_tags}
use Rattle.ot_tags.specs.LanguageTags.{looked_up, tags_of_language, tags_of}

-- one name to unfold for the rules, and one for the registry too
unfoldable by_rules : Unit {0}
unfolding prefix_of first_subtag behind_first has_subtag extended_language tags_of_variant tags_of_name tags_of_region is_chinese tags_of_chinese tags_of_traditional tags_of_chinese_region looked_up tags_of_language tags_of
by_rules = tt

unfoldable by_registry : Unit {0}
unfolding by_rules registry rows_of tag_of_cell tags_of_code registered_tags
by_registry = tt

-- what is cut
between_hyphens : subtags (codes "zh-hant-hk") ≡ codes "zh" ∷ codes "hant" ∷ codes "hk" ∷ []
between_hyphens = refl

before_a_singleton : prefix_of (codes "zh-u-co-hk") ≡ codes "zh"
unfolding by_rules
before_a_singleton = refl

all_private : prefix_of (codes "x-hbotabc") ≡ []
unfolding by_rules
all_private = refl

-- variants, scripts and names
phonetic : tags_of (Some (codes "und-fonnapa")) ≡ one (codes "APPH")
unfolding by_rules
phonetic = refl

polytonic : tags_of (Some (codes "el-polyton")) ≡ one (codes "PGR ")
unfolding by_rules
polytonic = refl

lojban : tags_of (Some (codes "art-lojban")) ≡ one (codes "JBO ")
unfolding by_rules
lojban = refl

navajo : tags_of (Some (codes "i-navajo")) ≡ two (codes "NAV ") (codes "ATH ")
unfolding by_rules
navajo = refl

-- a script or a region beside the language
hong_kong : tags_of (Some (codes "zh-hant-hk")) ≡ one (codes "ZHH ")
unfolding by_rules
hong_kong = refl

macao : tags_of (Some (codes "zh-hant-mo")) ≡ two (codes "ZHTM") (codes "ZHH ")
unfolding by_rules
macao = refl

script_before_region : tags_of (Some (codes "zh-hans-hk")) ≡ one (codes "ZHS ")
unfolding by_rules
script_before_region = refl

region_alone : tags_of (Some (codes "zh-latn-hk")) ≡ one (codes "ZHH ")
unfolding by_rules
region_alone = refl

moldavian : tags_of (Some (codes "ro-md")) ≡ two (codes "MOL ") (codes "ROM ")
unfolding by_rules
moldavian = refl

irish : tags_of (Some (codes "ga-latg")) ≡ one (codes "IRT ")
unfolding by_rules
irish = refl

-- the registry
three_tags : tags_of (Some (codes "sh")) ≡ tag_of (codes "BOS ") ∷ tag_of (codes "HRV ") ∷ tag_of (codes "SRB ") ∷ []
unfolding by_registry
three_tags = refl

extended : tags_of (Some (codes "zh-yue")) ≡ one (codes "ZHH ")
unfolding by_registry
extended = refl

extended_with_no_row : tags_of (Some (codes "qq-abc")) ≡ []
unfolding by_registry
extended_with_no_row = refl

own : tags_of (Some (codes "xyz-latn")) ≡ one (codes "XYZ ")
unfolding by_registry
own = refl

row_with_no_tag : tags_of (Some (codes "aba")) ≡ []
unfolding by_registry
row_with_no_tag = refl

region_behind_a_singleton : tags_of (Some (codes "zh-u-co-hk")) ≡ one (codes "ZHS ")
unfolding by_registry
region_behind_a_singleton = refl
