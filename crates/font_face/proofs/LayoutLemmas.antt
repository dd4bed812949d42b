-- Why a table of lookups that is read has bytes, and one that is not read has none.
use Rattle.std.proofs.Common.{ℕ, List, [], ◌∷◌, ◌≡◌, ◌∙◌, false, length, arith, refl, sym, ap}
use Rattle.std.specs.Prelude.{nat_eq, not}
use Rattle.std.proofs.lemmas.Bool.{cond_both}
use Rattle.std.proofs.lemmas.Bool.Decides.{nat_tests}
use Rattle.font_tables.specs.Bytes.{number_16, number_32}
use Rattle.font_face.specs.Face.{is_read, read_table}

not_empty-read_table : (table : List ℕ) → not (nat_eq (length (read_table table)) 0) ≡ is_read table
unfolding number_16 number_32
not_empty-read_table [] = refl
not_empty-read_table (x ∷ xs) =
    let some : nat_eq (length (x ∷ xs)) 0 ≡ false = grind (arith, nat_tests) in
    cond_both (is_read (x ∷ xs)) (x ∷ xs) [] (λ read. not (nat_eq (length read) 0) ≡ is_read (x ∷ xs))
    (λ e. ap not some ∙ sym e) (λ e. sym e)

-- a table that is kept as it is read is read if it has bytes
pub not_empty_is_read : (own table : List ℕ) → own ≡ read_table table → not (nat_eq (length own) 0) ≡ is_read table
not_empty_is_read own table kept =
    ap (λ (bytes : List ℕ). not (nat_eq (length bytes) 0)) kept ∙ not_empty-read_table table
