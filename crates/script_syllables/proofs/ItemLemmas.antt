-- The numbers of categories and positions, and the bytes in which items keep them.
use Rattle.std.proofs.Common.{◌≡◌, ℕ, ◌+◌, ◌*◌, ◌^◌, ◌<◌, ◌≤◌, Bool, true, false, not, List, [], length, drop}
use Rattle.std.proofs.Common.{bit_and, bit_or, eqb, refl, sym, ap, ◌∙◌, arith, inl, inr}
use Rattle.std.proofs.lemmas.Bool.{cases_lt}
use Rattle.std.proofs.lemmas.List.{drop-drop, drop_all}
use Rattle.std.proofs.lemmas.List.Sums.{prefix_len-drop_all, prefix_len-drop_no, prefix_len_stops}
use Rattle.std.specs.List.{prefix_len}
use denote.Enum.Bare.{sameb}
use denote.Enum.Declared.{tag_of}
use Rattle.glyph_lists.specs.Clusters.{zero_glyph}
use Rattle.rb_glyph.specs.Fields.{with_field}
use Rattle.rb_glyph.specs.declared.info.hb_glyph_info_t.{hb_glyph_info_t}
use Rattle.std.proofs.lemmas.Nat.{shl_whole}
use Rattle.rb_glyph.proofs.FieldLemmas.{bit_or-mask}
use Rattle.script_syllables.specs.Category.{number_of_category, number_of_position, same_category, same_position}
use Rattle.script_syllables.specs.Item.{is_passed_over, passed_count}
use Rattle.script_syllables.specs.contracts.category.Category as category
use Rattle.script_syllables.specs.contracts.category.position.Position as position
use Rattle.script_syllables.specs.declared.category.Category.{Category}
use Rattle.script_syllables.specs.declared.category.Category.TheVariants as own
use Rattle.script_syllables.specs.declared.category.position.Position.{Position}
use Rattle.script_syllables.specs.declared.category.position.Position.TheVariants as spot

-- what the program numbers a category and a position by
pub tag_of-category : (c : Category) → tag_of category.the_type c ≡ number_of_category c
tag_of-category own.Other = refl
tag_of-category own.Consonant = refl
tag_of-category own.Vowel = refl
tag_of-category own.Nukta = refl
tag_of-category own.Halant = refl
tag_of-category own.NonJoiner = refl
tag_of-category own.Joiner = refl
tag_of-category own.Matra = refl
tag_of-category own.Modifier = refl
tag_of-category own.Cantillation = refl
tag_of-category own.Placeholder = refl
tag_of-category own.DottedCircle = refl
tag_of-category own.RegisterShifter = refl
tag_of-category own.MatraPost = refl
tag_of-category own.Repha = refl
tag_of-category own.Ra = refl
tag_of-category own.ConsonantMedial = refl
tag_of-category own.Symbol = refl
tag_of-category own.ConsonantWithStacker = refl
tag_of-category own.ModifierPost = refl
tag_of-category own.VowelAbove = refl
tag_of-category own.VowelBelow = refl
tag_of-category own.VowelPre = refl
tag_of-category own.VowelPost = refl
tag_of-category own.Robatic = refl
tag_of-category own.XGroup = refl
tag_of-category own.YGroup = refl
tag_of-category own.Asat = refl
tag_of-category own.MedialHa = refl
tag_of-category own.MedialRa = refl
tag_of-category own.MedialWa = refl
tag_of-category own.MedialYa = refl
tag_of-category own.PwoTone = refl
tag_of-category own.VariationSelector = refl
tag_of-category own.MedialLa = refl

pub tag_of-position : (p : Position) → tag_of position.the_type p ≡ number_of_position p
tag_of-position spot.Start = refl
tag_of-position spot.Reph = refl
tag_of-position spot.PreMatra = refl
tag_of-position spot.PreConsonant = refl
tag_of-position spot.Base = refl
tag_of-position spot.AfterMain = refl
tag_of-position spot.Above = refl
tag_of-position spot.BeforeSub = refl
tag_of-position spot.Below = refl
tag_of-position spot.AfterSub = refl
tag_of-position spot.BeforePost = refl
tag_of-position spot.Post = refl
tag_of-position spot.AfterPost = refl
tag_of-position spot.Sign = refl
tag_of-position spot.End = refl

-- and so how it compares two of them
pub sameb-category : (a b : Category) → sameb category.the_type a b ≡ same_category a b
sameb-category a b =
    ap (λ n. eqb n (tag_of category.the_type b)) (tag_of-category a)
    ∙ ap (λ n. eqb (number_of_category a) n) (tag_of-category b)

pub sameb-position : (a b : Position) → sameb position.the_type a b ≡ same_position a b
sameb-position a b =
    ap (λ n. eqb n (tag_of position.the_type b)) (tag_of-position a)
    ∙ ap (λ n. eqb (number_of_position a) n) (tag_of-position b)

-- a mask and a sum set the third byte of a word
pub bit_or-byte : (word byte : ℕ) → word < 2 ^ 32 → byte < 256
    → bit_or (bit_and word 0xFF00FFFF) (byte * 0x10000) ≡ with_field word 16 8 byte
bit_or-byte word byte small fits =
    ap (bit_or (bit_and word 0xFF00FFFF)) (sym (shl_whole byte 8 16 32 fits (omega arith)))
    ∙ bit_or-mask word 16 8 byte (omega arith) small fits

-- ---- items that are passed over

prefix_len-none_left : (test : hb_glyph_info_t → Bool) (l : List hb_glyph_info_t)
    → prefix_len test (drop (prefix_len test l) l) ≡ 0
prefix_len-none_left test l =
    let n = prefix_len test l in
    elim (cases_lt n (length l)) [
      | inl some ↦ prefix_len-drop_no test l n zero_glyph some (prefix_len_stops test l zero_glyph some)
      | inr none ↦ prefix_len-drop_all test l n none
    ]

-- none is left behind those
pub passed_count-behind : (passes : Bool) (l : List hb_glyph_info_t) (start : ℕ)
    → passed_count passes (drop (start + passed_count passes (drop start l)) l) ≡ 0
passed_count-behind false l start = refl
passed_count-behind true l start =
    let test : hb_glyph_info_t → Bool = λ g. not (not (is_passed_over g)) in
    ap (prefix_len test) (sym (drop-drop (prefix_len test (drop start l)) start l)) ∙ prefix_len-none_left test (drop start l)

passed_count-nil : (passes : Bool) → passed_count passes [] ≡ 0
passed_count-nil false = refl
passed_count-nil true = refl

pub passed_count-drop_all : (passes : Bool) (l : List hb_glyph_info_t) (start : ℕ) → length l ≤ start
    → passed_count passes (drop start l) ≡ 0
passed_count-drop_all passes l start past = ap (passed_count passes) (drop_all start l past) ∙ passed_count-nil passes
