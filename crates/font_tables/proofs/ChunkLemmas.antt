-- Rows that lie behind each other in a table, as chunks of equal length.
use Rattle.std.proofs.Common.{◌≡◌, ℕ, zero, suc, ◌+◌, ◌*◌, ◌/◌, ◌-◌, ◌<◌, ◌≤◌, List, Option, refl, sym, ◌∙◌, arith, take, drop, length, ap, mul-suc, get_or}
use Rattle.std.proofs.lemmas.List.{get_or-take, get_or-drop, length-drop, length-take-le}
use Rattle.std.proofs.lemmas.Option.{slice_get-get_or}
use Rattle.std.proofs.Math.Nat.{div-mul-le_self}
use Rattle.std.specs.Prelude.{slice_get, option_and_then, option_map}
use Rattle.std.specs.Simd.{first_chunks}
use Rattle.font_tables.specs.Bytes.{number_16, number_32}
use Rattle.font_tables.specs.Rows.{first_row, Rises}
use Rattle.std.proofs.lemmas.Grind.{common_steps}

-- a number behind the first bytes of a table
pub number_16-drop : (first at : ℕ) (bytes : List ℕ) → number_16 (drop first bytes) at ≡ number_16 bytes (first + at)
unfolding number_16
number_16-drop first at bytes =
    let long = length-drop first bytes in
    let high = get_or-drop first bytes at 0 in
    let low = get_or-drop first bytes (at + 1) 0 in
    grind (arith, long, high, low)

pub number_16-take : (size at : ℕ) (bytes : List ℕ) → at + 2 ≤ size → size ≤ length bytes
    → number_16 (take size bytes) at ≡ number_16 bytes at
unfolding number_16
number_16-take size at bytes fits inside =
    let long : length (take size bytes) ≡ size = length-take-le size bytes (omega arith) in
    let high = get_or-take size bytes at 0 (omega arith) in
    let low = get_or-take size bytes (at + 1) 0 (omega arith) in
    grind (arith, long, high, low)

-- the number of 16 bits in a chunk is that of the table
pub option_and_then-chunk_16 : (size count row place : ℕ) (bytes : List ℕ) → row < count → count * size ≤ length bytes
    → place + 2 ≤ size
    → option_and_then (λ chunk. number_16 chunk place) (slice_get (first_chunks size count bytes) row)
    ≡ number_16 bytes (place + size * row)
option_and_then-chunk_16 size zero row place bytes less inside fits = absurd (omega arith)
option_and_then-chunk_16 size (suc count) zero place bytes less inside fits =
    number_16-take size place bytes fits (omega arith) ∙ ap (number_16 bytes) (omega arith)
option_and_then-chunk_16 size (suc count) (suc row) place bytes less inside fits =
    let shorter : count * size ≤ length (drop size bytes) = simp length-drop (omega arith) in
    let rest = option_and_then-chunk_16 size count row place (drop size bytes) (omega arith) shorter fits in
    rest ∙ number_16-drop size (place + size * row) bytes ∙ ap (number_16 bytes) (simp mul-suc (omega arith))

-- rows with the same last keys
pub record SameRows (last other : ℕ → Option ℕ) (count : ℕ) : Type 0 where
  pub same : (row : ℕ) → row < count → last row ≡ other row

pub first_row-same : (last other : ℕ → Option ℕ) (key count : ℕ) → SameRows last other count
    → first_row last key count ≡ first_row other key count
first_row-same last other key zero rows = refl
first_row-same last other key (suc count) rows =
    let before = first_row-same last other key count (record { same = λ row less. rows.same row (omega arith) }) in
    rw (before, rows.same count (omega arith)) refl

pub rises-same : (last other : ℕ → Option ℕ) (count : ℕ) → SameRows last other count → Rises other count → Rises last count
rises-same last other count rows rise = λ i j key order less reached.
    let here = rise i j key order less (rw (rows.same i (omega arith)) at reached) in
    rw (rows.same j less) here

pub rises-back : (last other : ℕ → Option ℕ) (count : ℕ) → SameRows last other count → Rises last count → Rises other count
rises-back last other count rows rise =
    rises-same other last count (record { same = λ row less. sym (rows.same row less) }) rise

-- rows that begin at a byte of a table
pub rows_from_16 : (start size count place at : ℕ) (bytes rest : List ℕ) (chunks : List (List ℕ)) → rest ≡ drop start bytes
    → chunks ≡ first_chunks size (length rest / size) rest → count ≤ (length bytes - start) / size → place + 2 ≤ size
    → start + place ≡ at
    → SameRows (λ row. option_and_then (λ chunk. number_16 chunk place) (slice_get chunks row))
    (λ row. number_16 bytes (at + size * row)) count
rows_from_16 start size count place at bytes rest chunks behind are inside fits begins = record {
  same = λ row less.
      let long : length rest ≡ length bytes - start = rw behind (length-drop start bytes) in
      let less_than : row < length rest / size = rw long (omega arith) in
      let in_rest =
      option_and_then-chunk_16 size (length rest / size) row place rest less_than (div-mul-le_self _ _) fits in
      let whole : number_16 rest (place + size * row) ≡ number_16 bytes (start + (place + size * row)) =
      rw behind (number_16-drop start (place + size * row) bytes) in
      let there : start + (place + size * row) ≡ at + size * row = omega arith in
      rw are (in_rest ∙ whole ∙ ap (number_16 bytes) there);
}

-- how many rows lie in a table whole
pub chunk_count : (start size count : ℕ) (bytes rest : List ℕ) → rest ≡ drop start bytes → count ≡ length rest / size
    → count ≡ (length bytes - start) / size
chunk_count start size count bytes rest behind is =
    let long : length rest ≡ length bytes - start = rw behind (length-drop start bytes) in
    rw long at is

-- the number of 16 bits in a row that is read
pub number_16-row : (start size row place at : ℕ) (bytes rest chunk : List ℕ) (chunks : List (List ℕ))
    → rest ≡ drop start bytes
    → chunks ≡ first_chunks size (length rest / size) rest → row < length chunks → row < (length bytes - start) / size
    → place + 2 ≤ size → start + place ≡ at → number_16 (get_or chunks row chunk) place ≡ number_16 bytes (at + size * row)
number_16-row start size row place at bytes rest chunk chunks behind are read inside fits begins =
    let rows = rows_from_16 start size (suc row) place at bytes rest chunks behind are (omega arith) fits begins in
    let there = slice_get-get_or chunks row chunk read in
    rw there at (rows.same row (omega arith))

pub length-cut : (start whole : ℕ) (bytes rest : List ℕ) → rest ≡ take whole (drop start bytes)
    → whole ≤ length bytes - start → length rest ≡ whole
length-cut start whole bytes rest behind within =
    let long : length (drop start bytes) ≡ length bytes - start = length-drop start bytes in
    rw behind (length-take-le whole (drop start bytes) (rw long within))

-- rows that were cut out of a table
pub rows_cut_16 : (start size count whole place at : ℕ) (bytes rest : List ℕ) (chunks : List (List ℕ))
    → rest ≡ take whole (drop start bytes) → chunks ≡ first_chunks size (length rest / size) rest
    → length rest / size ≡ count → whole ≤ length bytes - start
    → ((row : ℕ) → row < count → place + size * row + 2 ≤ whole) → place + 2 ≤ size → start + place ≡ at
    → SameRows (λ row. option_and_then (λ chunk. number_16 chunk place) (slice_get chunks row))
    (λ row. number_16 bytes (at + size * row)) count
rows_cut_16 start size count whole place at bytes rest chunks behind are many within all fits begins = record {
  same = λ row less.
      let less_than : row < length rest / size = rw many less in
      let in_rest =
      option_and_then-chunk_16 size (length rest / size) row place rest less_than (div-mul-le_self _ _) fits in
      let long : length (drop start bytes) ≡ length bytes - start = length-drop start bytes in
      let inside : whole ≤ length (drop start bytes) = rw long within in
      let cut : number_16 rest (place + size * row) ≡ number_16 (drop start bytes) (place + size * row) =
      rw behind (number_16-take whole (place + size * row) (drop start bytes) (all row less) inside) in
      let there : start + (place + size * row) ≡ at + size * row = omega arith in
      rw are (in_rest ∙ cut ∙ number_16-drop start (place + size * row) bytes ∙ ap (number_16 bytes) there);
}

-- a number of 32 bits is two of 16 bits
number_32-halves : (bytes : List ℕ) (at : ℕ)
    → number_32 bytes at
    ≡ option_and_then (λ high. option_map (λ low. high * 65536 + low) (number_16 bytes (at + 2))) (number_16 bytes at)
unfolding number_16 number_32
number_32-halves bytes at = grind (arith, common_steps)

-- the number of 32 bits in a row that is read
pub number_32-row : (start size row place at : ℕ) (bytes rest chunk : List ℕ) (chunks : List (List ℕ))
    → rest ≡ drop start bytes
    → chunks ≡ first_chunks size (length rest / size) rest → row < length chunks → row < (length bytes - start) / size
    → place + 4 ≤ size → start + place ≡ at → number_32 (get_or chunks row chunk) place ≡ number_32 bytes (at + size * row)
number_32-row start size row place at bytes rest chunk chunks behind are read inside fits begins =
    let high = number_16-row start size row place at bytes rest chunk chunks behind are read inside (omega arith) begins in
    let low =
    number_16-row start size row (place + 2) (at + 2) bytes rest chunk chunks behind are read inside (omega arith) (omega arith) in
    let there : at + 2 + size * row ≡ at + size * row + 2 = omega arith in
    rw (number_32-halves (get_or chunks row chunk) place, number_32-halves bytes (at + size * row), high, low, there) refl
