-- Pairs of which the first glyph has another advance, and nothing else is changed.
use Rattle.std.proofs.Common.{◌≡◌, ◌≤◌, ℕ, ◌+◌, ◌*◌, List, length, refl, arith, ap, Some, None}
use Rattle.std.specs.Prelude.{Option, option_map, option_and_then, unwrap_or, nat_lt, ◌&&◌, if◌then◌else◌}
use Rattle.std.specs.Int.{w16, cast_signed}
use Rattle.std.specs.Int.Count.{ones}
use Rattle.std.proofs.lemmas.Bool.Decides.{nat_tests}
use Rattle.font_tables.specs.Bytes.{number_16, signed_16}
use Rattle.ot_gpos_tables.specs.Values.{across, fields, no_values, record_size, value_record}
use Rattle.ot_gpos_tables.specs.Pairs.{classed_pair, kerned, listed_pair, number, pair_at, row_size, second_row}
use Rattle.ot_gpos_tables.specs.declared.pairs.PairValues.{PairValues}

record_size-across : record_size 4 ≡ 2
unfolding ones
record_size-across = refl

record_size-none : record_size 0 ≡ 0
unfolding ones
record_size-none = refl

add-no_ones : (at : ℕ) → at + 2 * ones 0 ≡ at
unfolding ones
add-no_ones at = omega arith

fields_across : (table : List ℕ) (at : ℕ) → fields table 4 at ≡ across (cast_signed w16 (unwrap_or (number_16 table at) 0))
unfolding fields
fields_across table at = ap (λ place. across (cast_signed w16 (unwrap_or (number_16 table place) 0))) (add-no_ones at)

fields_none : (table : List ℕ) (at : ℕ) → fields table 0 at ≡ no_values
unfolding fields
fields_none table at = refl

value_record-across : (table : List ℕ) (at : ℕ) → value_record table 4 at ≡ option_map across (signed_16 table at)
unfolding value_record number_16
value_record-across table at = rw (record_size-across, fields_across table at) (grind (arith, nat_tests))

value_record-none : (table : List ℕ) (at : ℕ) → at ≤ length table → value_record table 0 at ≡ Some no_values
unfolding value_record
value_record-none table at within = rw (record_size-none, fields_none table at) (grind (arith, nat_tests))

behind : (table : List ℕ) (at n : ℕ) → number_16 table at ≡ Some n → at + 2 ≤ length table
unfolding number_16
behind table at n there = grind (arith, nat_tests)

-- behind the first record stands one that names nothing
option_and_then-both : (table : List ℕ) (at : ℕ) (found : Option ℕ) → number_16 table at ≡ found
    → option_and_then (λ first. option_map {U = PairValues} (λ second. record { first = first; second = second })
    (value_record table 0 (at + 2))) (option_map across (option_map (λ n. cast_signed w16 n) found))
    ≡ option_map kerned (option_map (λ n. cast_signed w16 n) found)
option_and_then-both table at None there = refl
option_and_then-both table at (Some n) there = rw (value_record-none table (at + 2) (behind table at n there)) refl

pub pair_at-kerned : (table : List ℕ) (at : ℕ) → pair_at table 4 0 at ≡ option_map kerned (signed_16 table at)
unfolding pair_at
pair_at-kerned table at =
    rw (record_size-across, value_record-across table at) (option_and_then-both table at (number_16 table at) refl)

row_size-kerned : row_size 4 0 ≡ 4
row_size-kerned = rw (record_size-across, record_size-none) refl

option_and_then-kerned : (set : List ℕ) (found : Option ℕ)
    → option_and_then (λ row. pair_at set 4 0 (4 + 4 * row)) found
    ≡ option_and_then (λ row. option_map kerned (signed_16 set (4 + 4 * row))) found
option_and_then-kerned set None = refl
option_and_then-kerned set (Some row) = pair_at-kerned set (4 + 4 * row)

-- rows of two bytes behind the second glyph
pub listed_pair_kerned : (set : List ℕ) (second : ℕ)
    → listed_pair set 4 0 second
    ≡ option_and_then (λ row. option_map kerned (signed_16 set (4 + 4 * row))) (second_row set 4 second)
unfolding listed_pair
listed_pair_kerned set second = rw row_size-kerned (option_and_then-kerned set (second_row set 4 second))

add-place : (place : ℕ) → 16 + place * (2 + 0) ≡ 16 + 2 * place
add-place place = omega arith

-- rows of two bytes for each pair of classes
pub classed_pair_kerned : (table : List ℕ) (first second : ℕ) → number table 4 ≡ 4 → number table 6 ≡ 0
    → classed_pair table first second
    ≡ (if nat_lt first (number table 12) && nat_lt second (number table 14)
    then option_map kerned (signed_16 table (16 + 2 * (first * number table 14 + second))) else None)
unfolding classed_pair
classed_pair_kerned table first second four none =
    rw (
      four,
      none,
      record_size-across,
      record_size-none,
      add-place (first * number table 14 + second),
      pair_at-kerned table (16 + 2 * (first * number table 14 + second)),
    ) refl
