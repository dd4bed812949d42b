-- The rows of a word, and the glyphs of a coverage.
use Rattle.std.proofs.Common.{◌≡◌, ℕ, zero, suc, ◌+◌, ◌-◌, ◌*◌, ◌/◌, ◌%◌, ◌^◌, ◌<◌, ◌≤◌, Bool, true, false, Option, Some, None, List, get_or, length, refl, arith, ap, sym, ◌∙◌, subst, inl, inr, eq-eqb}
use Rattle.std.proofs.lemmas.Bool.{cases_lt, cases_Bool}
use Rattle.std.proofs.lemmas.Grind.{common_steps}
use Rattle.std.proofs.lemmas.Option.{slice_get-get_or}
use Rattle.std.proofs.lemmas.Nat.{pow_pos, shr-shr}
use Rattle.std.proofs.lemmas.Nat.Bits.{bit_at_or, bit_at_and, bit_at-lt, bit_at-zero, bit_at_ones, bit_at_cat_low, bit_at_cat_high, bit_at_set_same, ones_shr}
use Rattle.std.specs.Prelude.{is_some, bit_and, bit_or, nat_eq, nat_lt, unwrap_or, if◌then◌else◌, option_and_then, option_map, slice_get}
use Rattle.std.specs.Option.{option_or}
use Rattle.std.specs.Int.{bit_at, rotate_left, w64}
use Rattle.font_tables.specs.Rows.{first_below, first_row, is_within, is_at_most, reaches}
use Rattle.font_tables.specs.Bytes.{number_16}
use Rattle.font_tables.specs.Coverage.{listed_glyph, listed_count, listed_index, ranged_index, coverage_index}
use Rattle.font_tables.specs.GlyphRanges.{range_first, range_last, range_value, range_count, range_of}
use Rattle.glyph_digests.specs.Digest.{has_row}
use Rattle.glyph_digests.specs.Covered.{covered_index}

-- a word that has a row
pub bit_at-row : (word row : ℕ) → has_row word row ≡ true → bit_at word (row % 64) ≡ 1
bit_at-row word row has = grind (arith, common_steps)

pub row_of : (word row : ℕ) → bit_at word (row % 64) ≡ 1 → has_row word row ≡ true
row_of word row has = eq-eqb (bit_at word (row % 64)) 1 has

bit_at-or_left : (a b i : ℕ) → bit_at a i ≡ 1 → bit_at (bit_or a b) i ≡ 1
bit_at-or_left a b i one =
    let most : bit_at b i < 2 = bit_at-lt b i in
    rw (bit_at_or a b i, one) (omega arith)

bit_at-or_right : (a b i : ℕ) → bit_at b i ≡ 1 → bit_at (bit_or a b) i ≡ 1
bit_at-or_right a b i one =
    let most : bit_at a i < 2 = bit_at-lt a i in
    rw (bit_at_or a b i, one) (omega arith)

bit_at-and : (a b i : ℕ) → bit_at a i ≡ 1 → bit_at b i ≡ 1 → bit_at (bit_and a b) i ≡ 1
bit_at-and a b i one two = rw (bit_at_and a b i, one, two) refl

pub or_left : (word other row : ℕ) → has_row word row ≡ true → has_row (bit_or word other) row ≡ true
or_left word other row has =
    row_of (bit_or word other) row (bit_at-or_left word other (row % 64) (bit_at-row word row has))

pub or_right : (word other row : ℕ) → has_row other row ≡ true → has_row (bit_or word other) row ≡ true
or_right word other row has =
    row_of (bit_or word other) row (bit_at-or_right word other (row % 64) (bit_at-row other row has))

-- two words that have a row both share a bit
pub shared : (word other row : ℕ) → has_row word row ≡ true → has_row other row ≡ true
    → nat_eq (bit_and word other) 0 ≡ false
shared word other row has too =
    let both : bit_at (bit_and word other) (row % 64) ≡ 1 =
    bit_at-and word other (row % 64) (bit_at-row word row has) (bit_at-row other row too) in
    elim (cases_Bool (nat_eq (bit_and word other) 0)) [
      | inl none ↦
          let nothing : bit_and word other ≡ 0 = grind (arith, common_steps) in
          let no : bit_at (bit_and word other) (row % 64) ≡ 0 = rw nothing (bit_at-zero (row % 64)) in
          absurd (omega (arith, both, no))
      | inr some ↦ some
    ]

pub row_added : (word row : ℕ) → has_row (bit_or word (1 * 2 ^ (row % 64) % 18446744073709551616)) row ≡ true
row_added word row =
    let within : row % 64 < 64 = omega arith in
    row_of _ row (bit_at_set_same w64 word (row % 64) within)

pub all_rows : (row : ℕ) → has_row 18446744073709551615 row ≡ true
all_rows row =
    let within : row % 64 < 64 = omega arith in
    row_of 18446744073709551615 row (bit_at_ones 64 (row % 64) within)

bit_at-to_last : (last i : ℕ) → last < 64 → i ≤ last → bit_at (18446744073709551615 / 2 ^ (63 - last)) i ≡ 1
bit_at-to_last last i below most =
    let within : 63 - last ≤ 64 = omega arith in
    let lower : i < 64 - (63 - last) = omega arith in
    rw (ones_shr 64 (63 - last) within) (bit_at_ones (64 - (63 - last)) i lower)

bit_at-low : (n i : ℕ) → i < 64 → bit_at (n % 18446744073709551616) i ≡ bit_at n i
bit_at-low n i within =
    let whole : n / 18446744073709551616 * 18446744073709551616 + n % 18446744073709551616 ≡ n = omega arith in
    sym (bit_at_cat_low (n / 18446744073709551616) 64 (n % 18446744073709551616) i within) ∙ ap (λ x. bit_at x i) whole

bit_at-shl : (n by i d : ℕ) → i < 64 → by + d ≡ i → bit_at (n * 2 ^ by % 18446744073709551616) i ≡ bit_at n d
bit_at-shl n by i d within is =
    let none : n * 2 ^ by ≡ n * 2 ^ by + 0 = omega arith in
    let behind : i - by ≡ d = omega arith in
    bit_at-low (n * 2 ^ by) i within ∙ ap (λ x. bit_at x i) none
    ∙ bit_at_cat_high n by 0 i (pow_pos by) (omega arith) ∙ ap (bit_at n) behind

bit_at-shr : (n by i d : ℕ) → by + i ≡ d → bit_at (n / 2 ^ by) i ≡ bit_at n d
bit_at-shr n by i d is = ap (λ x. x % 2) (shr-shr n by i) ∙ ap (bit_at n) is

-- the rows from one on, counted round
pub has_row-rotated : (first more row : ℕ) → more < 64 → first ≤ row → row ≤ first + more
    → has_row (rotate_left w64 (18446744073709551615 / 2 ^ (63 - more)) first) row ≡ true
has_row-rotated first more row few least most =
    let within : row % 64 < 64 = omega arith in
    let there : bit_at (18446744073709551615 / 2 ^ (63 - more)) (row - first) ≡ 1 =
    bit_at-to_last more (row - first) few (omega arith) in
    elim (cases_lt (first % 64 + (row - first)) 64) [
      | inl low ↦
          let up : first % 64 + (row - first) ≡ row % 64 = omega (arith, low) in
          row_of _ row (bit_at-or_left _ _ (row % 64) (bit_at-shl _ (first % 64) (row % 64) (row - first) within up ∙ there))
      | inr round ↦
          let down : (64 - first % 64) % 64 + row % 64 ≡ row - first = omega (arith, round) in
          row_of _ row
          (bit_at-or_right _ _ (row % 64) (bit_at-shr _ ((64 - first % 64) % 64) (row % 64) (row - first) down ∙ there))
    ]

-- the row that is found is one of so many, and passes the test
pub record IsFound (test : ℕ → Bool) (n i : ℕ) : Type 0 where
  pub within : i < n
  pub passes : test i ≡ true

found_here : (test : ℕ → Bool) (n i : ℕ) → (if test n then Some n else None) ≡ Some i → IsFound test (suc n) i
found_here test n i found =
    elim (cases_Bool (test n)) [
      | inl passes ↦
          let same : Some n ≡ Some i = rw passes at found in
          let here : n ≡ i = grind (arith, common_steps) in
          record { within = omega arith; passes = subst (λ k. test k ≡ true) here passes }
      | inr fails ↦
          let none = rw fails at found in
          absurd (grind (arith, common_steps))
    ]

found_step : (test : ℕ → Bool) (n i : ℕ) (before : Option ℕ)
    → ((j : ℕ) → before ≡ Some j → IsFound test n j)
    → option_or before (if test n then Some n else None) ≡ Some i → IsFound test (suc n) i
found_step test n i None earlier found = found_here test n i found
found_step test n i (Some j) earlier found =
    let same : j ≡ i = grind (arith, common_steps) in
    let it = earlier j refl in
    record { within = let less : j < n = it.within in omega arith; passes = subst (λ k. test k ≡ true) same it.passes }

pub found_below : (test : ℕ → Bool) (n i : ℕ) → first_below test n ≡ Some i → IsFound test n i
found_below test zero i found = absurd (grind (arith, common_steps))
found_below test (suc n) i found = found_step test n i (first_below test n) (λ j is. found_below test n j is) found

-- a glyph of a list stands in one of its rows
pub list_row : (table : List ℕ) (glyph row : ℕ) (listed : Option ℕ) (set : ℕ → Type 0)
    → ((g : ℕ) → listed ≡ Some g → set g)
    → is_at_most glyph listed ≡ true → is_within listed glyph ≡ true → set glyph
list_row table glyph row None set here least most = absurd (grind (arith, common_steps))
list_row table glyph row (Some g) set here least most =
    let same : g ≡ glyph = grind (arith, common_steps) in
    subst set same (here g refl)

list_found : (table : List ℕ) (glyph : ℕ) (found : Option ℕ) (set : ℕ → Type 0)
    → ((row : ℕ) → row < listed_count table → (g : ℕ) → listed_glyph table row ≡ Some g → set g)
    → first_row (listed_glyph table) glyph (listed_count table) ≡ found
    → is_some (option_and_then (λ row. if is_within (listed_glyph table row) glyph then Some row else None) found) ≡ true
    → set glyph
list_found table glyph None set all is some = absurd (grind (arith, common_steps))
list_found table glyph (Some row) set all is some =
    let it = found_below (reaches (listed_glyph table) glyph) (listed_count table) row is in
    elim (cases_Bool (is_within (listed_glyph table row) glyph)) [
      | inl within ↦ list_row table glyph row (listed_glyph table row) set (all row it.within) it.passes within
      | inr above ↦ absurd (let none = rw above at some in grind (arith, common_steps))
    ]

pub list_has : (table : List ℕ) (glyph : ℕ) (set : ℕ → Type 0)
    → ((row : ℕ) → row < listed_count table → (g : ℕ) → listed_glyph table row ≡ Some g → set g)
    → is_some (listed_index table glyph) ≡ true → set glyph
list_has table glyph set all some =
    list_found table glyph (first_row (listed_glyph table) glyph (listed_count table)) set all refl some

-- a glyph of ranges lies in one of them
range_row : (glyph : ℕ) (first last : Option ℕ) (set : ℕ → Type 0)
    → ((a b : ℕ) → first ≡ Some a → last ≡ Some b → (g : ℕ) → a ≤ g → g ≤ b → set g)
    → is_at_most glyph last ≡ true → is_within first glyph ≡ true → set glyph
range_row glyph None last set here least most = absurd (grind (arith, common_steps))
range_row glyph (Some a) None set here least most = absurd (grind (arith, common_steps))
range_row glyph (Some a) (Some b) set here least most =
    let lower : a ≤ glyph = grind (arith, common_steps) in
    let upper : glyph ≤ b = grind (arith, common_steps) in
    here a b refl refl glyph lower upper

range_found : (table : List ℕ) (glyph : ℕ) (found : Option ℕ) (set : ℕ → Type 0)
    → ((row : ℕ) → row < range_count table → (first last : ℕ) → range_first table row ≡ Some first
    → range_last table row ≡ Some last → (g : ℕ) → first ≤ g → g ≤ last → set g)
    → first_row (range_last table) glyph (range_count table) ≡ found
    → is_some (option_and_then (λ row. if is_within (range_first table row) glyph then Some row else None) found) ≡ true
    → set glyph
range_found table glyph None set all is some = absurd (grind (arith, common_steps))
range_found table glyph (Some row) set all is some =
    let it = found_below (reaches (range_last table) glyph) (range_count table) row is in
    elim (cases_Bool (is_within (range_first table row) glyph)) [
      | inl within ↦ range_row glyph (range_first table row) (range_last table row) set (all row it.within) it.passes within
      | inr above ↦ absurd (let none = rw above at some in grind (arith, common_steps))
    ]

range_is : (table : List ℕ) (glyph : ℕ) (range : Option ℕ)
    → is_some (option_and_then (λ row. option_and_then (λ first. option_map (λ index. index + (glyph - first)) (range_value table row))
    (range_first table row)) range) ≡ true → is_some range ≡ true
range_is table glyph None some = some
range_is table glyph (Some row) some = refl

pub range_has : (table : List ℕ) (glyph : ℕ) (set : ℕ → Type 0)
    → ((row : ℕ) → row < range_count table → (first last : ℕ) → range_first table row ≡ Some first
    → range_last table row ≡ Some last → (g : ℕ) → first ≤ g → g ≤ last → set g)
    → is_some (ranged_index table glyph) ≡ true → set glyph
range_has table glyph set all some =
    range_found table glyph (first_row (range_last table) glyph (range_count table)) set all refl
    (range_is table glyph (range_of table glyph) some)

-- a number of a row that is read
pub number_16-read : (chunks : List (List ℕ)) (row at place n : ℕ) (d : List ℕ) → row ≡ at → at < length chunks
    → option_and_then (λ chunk. number_16 chunk place) (slice_get chunks row) ≡ Some n
    → number_16 (get_or chunks at d) place ≡ Some n
number_16-read chunks row at place n d here inside is = rw (here, slice_get-get_or chunks at d inside) at is

-- what covers a glyph in each of the formats
pub covered_list : (table : List ℕ) (glyph : ℕ) → unwrap_or (number_16 table 0) 0 ≡ 1
    → is_some (covered_index table glyph) ≡ true → is_some (listed_index table glyph) ≡ true
unfolding coverage_index
covered_list table glyph format some =
    elim (cases_Bool (nat_lt 65535 glyph)) [
      | inl past ↦ absurd (let none = rw past at some in grind (arith, common_steps))
      | inr low ↦ rw (low, format) at some
    ]

pub covered_ranges : (table : List ℕ) (glyph : ℕ) → unwrap_or (number_16 table 0) 0 ≡ 2
    → is_some (covered_index table glyph) ≡ true → is_some (ranged_index table glyph) ≡ true
unfolding coverage_index
covered_ranges table glyph format some =
    elim (cases_Bool (nat_lt 65535 glyph)) [
      | inl past ↦ absurd (let none = rw past at some in grind (arith, common_steps))
      | inr low ↦ rw (low, format) at some
    ]

-- a glyph of a buffer that is covered is one of a font
pub covered_glyph : (table : List ℕ) (glyph : ℕ) → is_some (covered_index table glyph) ≡ true
    → is_some (coverage_index table glyph) ≡ true
covered_glyph table glyph some =
    elim (cases_Bool (nat_lt 65535 glyph)) [
      | inl past ↦ absurd (let none = rw past at some in grind (arith, common_steps))
      | inr low ↦ rw low at some
    ]

pub covered_nowhere : (table : List ℕ) (glyph : ℕ) → (unwrap_or (number_16 table 0) 0 ≡ 1 → ⊥)
    → (unwrap_or (number_16 table 0) 0 ≡ 2 → ⊥) → is_some (covered_index table glyph) ≡ true → ⊥
unfolding coverage_index
covered_nowhere table glyph no_list no_ranges some =
    let other : nat_eq (unwrap_or (number_16 table 0) 0) 1 ≡ false = grind (arith, common_steps) in
    let another : nat_eq (unwrap_or (number_16 table 0) 0) 2 ≡ false = grind (arith, common_steps) in
    elim (cases_Bool (nat_lt 65535 glyph)) [
      | inl past ↦ let none = rw past at some in grind (arith, common_steps)
      | inr low ↦ let none = rw (low, other, another) at some in grind (arith, common_steps)
    ]
