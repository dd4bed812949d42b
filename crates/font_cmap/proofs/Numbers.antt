-- No subtable gives the glyph 0, so this number stands for no glyph.
use Rattle.std.proofs.Common.{◌≡◌, ℕ, List, Bool, true, false, Option, Some, None, refl, sym, ap, ◌∙◌, inl, inr}
use Rattle.std.proofs.lemmas.Bool.{cases_Bool}
use Rattle.std.specs.Prelude.{unwrap_or, option_and_then, nat_lt, nat_eq, ◌+◌, ◌-◌, ◌*◌, ◌%◌, ◌||◌, if◌then◌else◌}
use Rattle.std.specs.Option.{option_or}
use Rattle.font_tables.specs.Bytes.{byte_at, number_16, number_32}
use Rattle.font_cmap.specs.Subtables.{some_glyph, byte_glyph, listed_glyph, trimmed_table_glyph, trimmed_array_glyph}
use Rattle.font_cmap.specs.Subtables.{with_delta, glyph_in_segment, segment_glyph, segments_glyph}
use Rattle.font_cmap.specs.Subtables.{number_of_list}
use Rattle.font_cmap.specs.Subtables.{glyph_in_group, group_glyph, groups_glyph, group_start}
use Rattle.font_cmap.specs.Subtables.{glyph_by_format, subtable_glyph}
use Rattle.font_cmap.specs.Codes.{glyph_index, own_code, other_code}
use Rattle.font_cmap.specs.declared.codes.Encoding.{Encoding}

-- a glyph is none where its number is 0
abbrev IsGlyph : Option ℕ → Type 0
IsGlyph glyph = some_glyph (unwrap_or glyph 0) ≡ glyph

none : (n : ℕ) → some_glyph n ≡ None → IsGlyph (some_glyph n)
none n is = ap (λ g. some_glyph (unwrap_or g 0)) is ∙ sym is

number : (n : ℕ) → IsGlyph (some_glyph n)
number n =
    elim (cases_Bool (nat_eq n 0)) [
      | inl nothing ↦ none n (rw nothing refl)
      | inr something ↦
          elim (cases_Bool (nat_lt n 65536)) [
            | inl within ↦
                let is : some_glyph n ≡ Some n = rw (something, within) refl in
                ap (λ g. some_glyph (unwrap_or g 0)) is
            | inr past ↦ none n (rw (something, past) refl)
          ]
    ]

behind : (number : Option ℕ) (glyph : ℕ → Option ℕ) → ((n : ℕ) → IsGlyph (glyph n)) → IsGlyph (option_and_then glyph number)
behind None glyph is = refl
behind (Some n) glyph is = is n

either : (test : Bool) (one other : Option ℕ) → IsGlyph one → IsGlyph other → IsGlyph (if test then one else other)
either true one other is_one is_other = is_one
either false one other is_one is_other = is_other

first : (one other : Option ℕ) → IsGlyph one → IsGlyph other → IsGlyph (option_or one other)
first None other is_one is_other = is_other
first (Some n) other is_one is_other = is_one

byte : (bs : List ℕ) (code : ℕ) → IsGlyph (byte_glyph bs code)
unfolding byte_glyph
byte bs code = either (nat_lt code 256) (option_and_then some_glyph (byte_at bs (6 + code))) None (behind (byte_at bs (6 + code)) some_glyph number) refl

listed : (bs : List ℕ) (place first count code : ℕ) → IsGlyph (listed_glyph bs place first count code)
unfolding listed_glyph
listed bs place start count code =
    let here = number_16 bs (place + 2 * (code - start)) in
    either (nat_lt code start) None _ refl
    (either (nat_lt (code - start) count) (option_and_then some_glyph here) None (behind here some_glyph number) refl)

trimmed_table : (bs : List ℕ) (code : ℕ) → IsGlyph (trimmed_table_glyph bs code)
unfolding trimmed_table_glyph
trimmed_table bs code =
    behind (number_16 bs 6) _ (λ start. behind (number_16 bs 8) _ (λ count. listed bs 10 start count code))

trimmed_array : (bs : List ℕ) (code : ℕ) → IsGlyph (trimmed_array_glyph bs code)
unfolding trimmed_array_glyph
trimmed_array bs code =
    behind (number_32 bs 12) _ (λ start. behind (number_32 bs 16) _ (λ count. listed bs 20 start count code))

pub some_glyph_in_segment : (bs : List ℕ) (code row start delta offset : ℕ)
    → some_glyph (unwrap_or (glyph_in_segment bs code row start delta offset) 0) ≡ glyph_in_segment bs code row start delta offset
unfolding glyph_in_segment
some_glyph_in_segment bs code row start delta offset =
    either (nat_lt code start) None _ refl
    (either (nat_eq offset 0) (with_delta delta code) _ (number ((code + delta) % 65536))
    (behind _ (with_delta delta) (λ n. number ((n + delta) % 65536))))

segments : (bs : List ℕ) (code : ℕ) → IsGlyph (segments_glyph bs code)
unfolding segments_glyph segment_glyph
segments bs code =
    behind _ (segment_glyph bs code)
    (λ row. behind (number_of_list bs 1 row) _ (λ start. behind (number_of_list bs 2 row) _ (λ delta.
    behind (number_of_list bs 3 row) _ (λ offset. some_glyph_in_segment bs code row start delta offset))))

in_group : (format code start glyph : ℕ) → IsGlyph (glyph_in_group format code start glyph)
unfolding glyph_in_group
in_group format code start glyph =
    either (nat_lt code start) None _ refl
    (either (nat_eq format 12) (some_glyph (glyph + (code - start))) (some_glyph glyph) (number (glyph + (code - start))) (number glyph))

groups : (bs : List ℕ) (format code : ℕ) → IsGlyph (groups_glyph bs format code)
unfolding groups_glyph group_glyph
groups bs format code =
    behind _ (group_glyph bs format code)
    (λ row. behind (group_start bs row) _ (λ start. behind (number_32 bs (24 + 12 * row)) _ (λ glyph. in_group format code start glyph)))

by_format : (bs : List ℕ) (code format : ℕ) → IsGlyph (glyph_by_format bs code format)
unfolding glyph_by_format
by_format bs code format =
    either (nat_eq format 0) _ _ (byte bs code)
    (either (nat_eq format 4) _ _ (segments bs code)
    (either (nat_eq format 6) _ _ (trimmed_table bs code)
    (either (nat_eq format 10) _ _ (trimmed_array bs code)
    (either (nat_eq format 12 || nat_eq format 13) _ None (groups bs format code) refl))))

pub some_glyph_of_subtable : (bs : List ℕ) (code : ℕ)
    → some_glyph (unwrap_or (subtable_glyph bs code) 0) ≡ subtable_glyph bs code
unfolding subtable_glyph
some_glyph_of_subtable bs code = behind (number_16 bs 0) _ (λ format. by_format bs code format)

pub some_glyph_of_character : (bs : List ℕ) (encoding : Encoding) (character : ℕ)
    → some_glyph (unwrap_or (glyph_index bs encoding character) 0) ≡ glyph_index bs encoding character
unfolding glyph_index
some_glyph_of_character bs encoding character =
    first _ _ (behind (own_code encoding character) _ (λ code. some_glyph_of_subtable bs code))
    (behind (other_code encoding character) _ (λ code. some_glyph_of_subtable bs code))
