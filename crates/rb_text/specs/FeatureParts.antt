-- The bytes of the parts that a reading of a feature's text cuts it into.
use Rattle.std.specs.Prelude.{ℕ, ◌++◌, List, [], ◌∷◌, Option, Some, None, ℤ, option_to_list}
use Rattle.std.proofs.Common.{inl, inr}
use Rattle.rb_text.specs.Feature.{Number, TagPart, Range, Word, Setting, ReadsAs}
use Rattle.rb_common.specs.Ascii.{open_bracket, close_bracket}
use Rattle.rb_text.specs.declared.feature.Feature.{Feature}

abbrev pub number_text : (text : List ℕ) (value : Option ℤ) (rest : List ℕ) → Number text value rest → List ℕ
number_text text value rest n = option_to_list n.sign ++ n.digits

abbrev pub tag_text : (text : List ℕ) (tag : ℕ) (rest : List ℕ) → TagPart text tag rest → List ℕ
tag_text text tag rest t = t.gap ++ option_to_list t.quote ++ t.word ++ option_to_list t.quote

abbrev pub range_text : (text : List ℕ) (from to : ℕ) (rest : List ℕ) → Range text from to rest → List ℕ
range_text text from to rest (inl none) = []
range_text text from to rest (inr (inl one)) =
    (open_bracket ∷ []) ++ number_text _ _ _ one.number_is ++ (close_bracket ∷ [])
range_text text from to rest (inr (inr two)) =
    (open_bracket ∷ []) ++ number_text _ _ _ two.first_is ++ (two.separator ∷ []) ++ number_text _ _ _ two.second_is
    ++ (close_bracket ∷ [])

abbrev pub word_text : (equals : Option ℕ) (prefix : ℕ) (number : Option ℤ) (text : List ℕ) (value : ℕ) (rest : List ℕ)
    → Word equals prefix number text value rest → List ℕ
word_text equals prefix (Some z) text value rest w = []
word_text equals prefix None text value rest w = w.gap ++ w.letters

abbrev pub setting_text : (prefix : ℕ) (text : List ℕ) (value : ℕ) (rest : List ℕ) → Setting prefix text value rest
    → List ℕ
setting_text prefix text value rest s =
    option_to_list s.equals ++ number_text _ _ _ s.number_is ++ word_text _ _ s.number _ _ _ s.word_is

-- the parts of the whole text, one after another
abbrev pub parts_text : (text : List ℕ) (f : Feature) → ReadsAs text f → List ℕ
parts_text text f r =
    option_to_list r.prefix ++ tag_text _ _ _ r.tag_is ++ r.gap ++ range_text _ _ _ _ r.range_is
    ++ setting_text _ _ _ _ r.setting_is ++ r.last
