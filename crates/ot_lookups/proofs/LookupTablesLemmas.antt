-- The heads of lookups that were read are those of their list.
use Rattle.std.proofs.Common.{◌≡◌, ◌∙◌, ◌+◌, ◌*◌, ◌<◌, ◌≤◌, ◌++◌, ◌∷◌, [], ℕ, suc, Bool, true, false, List, arith, map, refl, subst, sym, unwrap_or, if◌then◌else◌}
use Rattle.std.proofs.lemmas.Grind.{common_steps}
use Rattle.std.proofs.lemmas.List.{map-append}
use Rattle.font_tables.specs.Bytes.{table_at_16}
use Rattle.font_tables.specs.Rows.{rows_within}
use Rattle.ot_lookups.specs.LookupTables.{Head, head_in, head_of, heads_in, heads_of_first}
use Rattle.ot_lookups.specs.SubtableLimit.{has_too_many, lookup_count, subtables_of_first}
use Rattle.ot_lookups.specs.declared.lookup_list.Lookup.{Lookup}

-- one more lookup
pub map-head_more : (gdef list table : List ℕ) (ls more : List Lookup) (l : Lookup) (n : ℕ) → more ≡ ls ++ (l ∷ [])
    → head_of l ≡ head_in gdef table → table ≡ unwrap_or (table_at_16 list (2 + 2 * n)) []
    → map head_of ls ≡ heads_of_first gdef list n → map head_of more ≡ heads_of_first gdef list (n + 1)
map-head_more gdef list table ls more l n is head that before =
    let next : n + 1 ≡ suc n = omega arith in
    rw (is, next) (map-append head_of ls (l ∷ []) ∙ rw (before, head, that) refl)

if-true : (b : Bool) (xs ys : List Head) → b ≡ true → (if b then xs else ys) ≡ xs
if-true b xs ys is = rw is refl

if-false : (b : Bool) (xs ys : List Head) → b ≡ false → (if b then xs else ys) ≡ ys
if-false b xs ys is = rw is refl

-- too many subtables
pub heads_of_many : (gdef list : List ℕ) (n declared : ℕ) → n ≡ subtables_of_first list declared → declared ≡ lookup_count list → 16384 ≤ n
    → [] ≡ heads_in gdef list
heads_of_many gdef list n declared is count many =
    let most : 16384 ≤ subtables_of_first list (lookup_count list) =
    subst (λ k. 16384 ≤ subtables_of_first list k) count (subst (λ m. 16384 ≤ m) is many) in
    let too_many : has_too_many list ≡ true = grind (arith, common_steps) in
    sym (if-true (has_too_many list) [] _ too_many)

-- all lookups of the list
pub heads_of_all : (gdef list : List ℕ) (heads : List Head) (n declared index m : ℕ) → n ≡ subtables_of_first list declared
    → declared ≡ lookup_count list → n < 16384 → m ≡ rows_within list 2 2 declared → index ≡ m → heads ≡ heads_of_first gdef list index
    → heads ≡ heads_in gdef list
heads_of_all gdef list heads n declared index m is count few rows end all =
    let fewer : subtables_of_first list (lookup_count list) < 16384 =
    subst (λ k. subtables_of_first list k < 16384) count (subst (λ m. m < 16384) is few) in
    let not_many : has_too_many list ≡ false = grind (arith, common_steps) in
    rw (all, end, rows, count) (sym (if-false (has_too_many list) [] _ not_many))

pub ruleset heads = (heads_of_many, heads_of_all)
