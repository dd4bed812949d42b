-- Which rows of a list of glyphs are looked through for the first 256 glyphs.
use Rattle.std.proofs.Common.{◌≡◌, ℕ, ◌<◌, ◌≤◌, true, false, Option, Some, None, List, get_or, length, refl, arith, inl, inr}
use Rattle.std.proofs.lemmas.Bool.{cases_lt, cases_Bool}
use Rattle.std.proofs.lemmas.Grind.{common_steps}
use Rattle.std.proofs.lemmas.Option.{slice_get-get_or}
use Rattle.std.specs.Prelude.{is_some, nat_le, if◌then◌else◌, option_and_then, slice_get}
use Rattle.font_tables.specs.Bytes.{number_16}
use Rattle.font_tables.proofs.RowLemmas.{is_first}
use Rattle.font_tables.specs.Rows.{first_row, is_within, reaches}
use Rattle.font_tables.specs.Coverage.{listed_glyph, listed_count, listed_index}
use Rattle.glyph_digests.proofs.DigestLemmas.{list_row}

-- the number of a row that is read
pub option_and_then-read : (chunks : List (List ℕ)) (at : ℕ) (d : List ℕ) → at < length chunks
    → option_and_then (λ chunk. number_16 chunk 0) (slice_get chunks at) ≡ number_16 (get_or chunks at d) 0
option_and_then-read chunks at d inside = rw (slice_get-get_or chunks at d inside) refl

early_found : (table : List ℕ) (glyph index value : ℕ) (found : Option ℕ) (set : ℕ → Type 0)
    → listed_glyph table index ≡ Some value → 256 ≤ value → glyph < 256
    → ((row : ℕ) → row < index → row < listed_count table → (g : ℕ) → listed_glyph table row ≡ Some g → set g)
    → first_row (listed_glyph table) glyph (listed_count table) ≡ found
    → is_some (option_and_then (λ row. if is_within (listed_glyph table row) glyph then Some row else None) found) ≡ true
    → set glyph
early_found table glyph index value None set there past low all is some = absurd (grind (arith, common_steps))
early_found table glyph index value (Some row) set there past low all is some =
    let it = is_first (reaches (listed_glyph table) glyph) (listed_count table) row is in
    elim (cases_Bool (is_within (listed_glyph table row) glyph)) [
      | inl within ↦ elim (cases_lt row index) [
        | inl below ↦ list_row table glyph row (listed_glyph table row) set (all row below it.within) it.passes within
        | inr beyond ↦ elim (cases_lt index row) [
          | inl earlier ↦
              let no : nat_le glyph value ≡ false = rw there at (it.before.fails index earlier) in
              absurd (grind (arith, common_steps))
          | inr same ↦
              let here : row ≡ index = omega (arith, beyond, same) in
              let up : nat_le value glyph ≡ true = rw (here, there) at within in
              absurd (grind (arith, common_steps))
        ]
      ]
      | inr above ↦ absurd (let none = rw above at some in grind (arith, common_steps))
    ]

-- one of the first 256 glyphs stands before the first of the others
pub early : (table : List ℕ) (glyph index value : ℕ) (set : ℕ → Type 0)
    → listed_glyph table index ≡ Some value → 256 ≤ value → glyph < 256
    → ((row : ℕ) → row < index → row < listed_count table → (g : ℕ) → listed_glyph table row ≡ Some g → set g)
    → is_some (listed_index table glyph) ≡ true → set glyph
early table glyph index value set there past low all some =
    early_found table glyph index value (first_row (listed_glyph table) glyph (listed_count table)) set there past low all refl some
