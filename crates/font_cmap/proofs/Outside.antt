-- Rows that lie outside of a table have no numbers.
use Rattle.std.proofs.Common.{◌≡◌, ℕ, ◌+◌, ◌*◌, ◌/◌, ◌≤◌, List, length, None, refl, arith}
use Rattle.std.proofs.lemmas.Bool.Decides.{nat_tests}
use Rattle.font_tables.specs.Bytes.{number_16, number_24}
use Rattle.font_cmap.specs.Variations.{range_start, beside_characters}

pub number_16-outside : (bs : List ℕ) (i : ℕ) → length bs ≤ i + 1 → number_16 bs i ≡ None
unfolding number_16
number_16-outside bs i past = grind (arith, nat_tests)

pub number_24_outside : (bs : List ℕ) (i : ℕ) → length bs ≤ i + 2 → number_24 bs i ≡ None
unfolding number_24
number_24_outside bs i past = grind (arith, nat_tests)

pub range_starts_outside : (bs : List ℕ) (row : ℕ) → length bs / 4 ≤ row → range_start bs row ≡ None
range_starts_outside bs row past = number_24_outside bs (4 + 4 * row) (omega arith)

pub beside_characters_outside : (bs : List ℕ) (character row : ℕ) → length bs / 4 ≤ row
    → beside_characters bs character row ≡ None
beside_characters_outside bs character row past = rw (range_starts_outside bs row past) refl

pub number_16_outside_row : (bs : List ℕ) (row : ℕ) → length bs / 5 ≤ row → number_16 bs (7 + 5 * row) ≡ None
number_16_outside_row bs row past = number_16-outside bs (7 + 5 * row) (omega arith)
