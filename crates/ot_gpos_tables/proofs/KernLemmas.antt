-- The subtables of `kern`, one after the other.
use Rattle.std.proofs.Common.{◌≡◌, ℕ, suc, ◌+◌, ◌-◌, ◌&&◌, ◌||◌, Bool, true, false, List, Option, Some, None, drop, nat_eq, nat_le, sym, ap, ◌∙◌, arith, if◌then◌else◌}
use Rattle.std.specs.Prelude.{unwrap_or}
use Rattle.std.specs.Option.{option_map_or}
use Rattle.std.proofs.lemmas.Bool.Decides.{nat_tests}
use Rattle.ot_gpos_tables.specs.KernTable.{IsHeader, are_whole, behind_subtable, format_in, has_property, holds_pairs, is_such, some_subtable, subtable_bytes, subtable_length}
use Rattle.ot_gpos_tables.specs.declared.kern_table.KernCoverage.{KernCoverage}
use Rattle.ot_gpos_tables.specs.declared.kern_table.KernSubtable.{KernSubtable}
use Rattle.ot_gpos_tables.specs.declared.kern_table.Property.{Property}
use Rattle.ot_gpos_tables.specs.declared.kern_table.Property.TheVariants.{CrossStream, Machine}

-- the last subtable has none behind it
pub nat_eq-last : (count number : ℕ) → nat_eq (count - (number + 1)) 0 ≡ nat_le count (number + 1)
nat_eq-last count number = grind (arith, nat_tests)

-- what a subtable says at its head
pub is_such-read : (p : Property) (apple : Bool) (rest : List ℕ) (s : KernSubtable) → IsHeader apple rest s
    → is_such p apple rest ≡ has_property p s
is_such-read Machine apple rest s header = ap (λ (f : Option ℕ). nat_eq (unwrap_or f 0) 1) header.format
is_such-read CrossStream apple rest s header = ap (λ (c : KernCoverage). c.is_cross_stream) (sym header.coverage)

pub holds_pairs-read : (apple last : Bool) (rest : List ℕ) (s : KernSubtable) → IsHeader apple rest s
    → s.table.now ≡ subtable_bytes last s.length rest
    → holds_pairs (format_in apple rest) (if apple then 8 else 6) (subtable_bytes last s.length rest)
    ≡ holds_pairs s.format s.header s.table.now
holds_pairs-read apple last rest s header bytes =
    ap (λ (f : Option ℕ). holds_pairs (unwrap_or f 0) (if apple then 8 else 6) (subtable_bytes last s.length rest)) header.format
    ∙ ap (λ (h : ℕ). holds_pairs s.format h (subtable_bytes last s.length rest)) (sym header.size)
    ∙ ap (holds_pairs s.format s.header) (sym bytes)

module _ (left : ℕ) (apple : Bool) (table : List ℕ) (at : ℕ) where
  -- where a subtable does not lie in the table, none follows
  pub some_subtable-end : (test : Bool → List ℕ → Bool) → subtable_length apple (drop at table) ≡ None
      → some_subtable test (suc left) apple table at ≡ false
  some_subtable-end test none =
      ap (λ (o : Option ℕ). option_map_or (λ (size : ℕ). test apple (drop at table)
      || some_subtable test left apple table (behind_subtable at size)) o false) none

  pub some_subtable-here : (test : Bool → List ℕ → Bool) (size : ℕ) → subtable_length apple (drop at table) ≡ Some size
      → test apple (drop at table) ≡ true → some_subtable test (suc left) apple table at ≡ true
  some_subtable-here test size here is =
      ap (λ (o : Option ℕ). option_map_or (λ (size : ℕ). test apple (drop at table)
      || some_subtable test left apple table (behind_subtable at size)) o false) here
      ∙ ap (λ (b : Bool). b || some_subtable test left apple table (behind_subtable at size)) is

  pub some_subtable-next : (test : Bool → List ℕ → Bool) (size to : ℕ) → subtable_length apple (drop at table) ≡ Some size
      → test apple (drop at table) ≡ false → to ≡ behind_subtable at size
      → some_subtable test (suc left) apple table at ≡ some_subtable test left apple table to
  some_subtable-next test size to here other next =
      ap (λ (o : Option ℕ). option_map_or (λ (size : ℕ). test apple (drop at table)
      || some_subtable test left apple table (behind_subtable at size)) o false) here
      ∙ ap (λ (b : Bool). b || some_subtable test left apple table (behind_subtable at size)) other
      ∙ ap (some_subtable test left apple table) (sym next)

  -- whether the one at the place holds its pairs, if it has a size
  abbrev holds : ℕ → Bool
  holds size =
      holds_pairs (format_in apple (drop at table)) (if apple then 8 else 6) (subtable_bytes (nat_eq left 0) size (drop at table))

  pub are_whole-end : subtable_length apple (drop at table) ≡ None → are_whole (suc left) apple table at ≡ false
  are_whole-end none =
      ap (λ (o : Option ℕ). option_map_or (λ (size : ℕ). holds size && are_whole left apple table (behind_subtable at size)) o false) none

  pub are_whole-cut : (size : ℕ) → subtable_length apple (drop at table) ≡ Some size
      → holds_pairs (format_in apple (drop at table)) (if apple then 8 else 6) (subtable_bytes (nat_eq left 0) size (drop at table))
      ≡ false
      → are_whole (suc left) apple table at ≡ false
  are_whole-cut size here cut =
      ap (λ (o : Option ℕ). option_map_or (λ (size : ℕ). holds size && are_whole left apple table (behind_subtable at size)) o false) here
      ∙ ap (λ (b : Bool). b && are_whole left apple table (behind_subtable at size)) cut

  pub are_whole-next : (size to : ℕ) → subtable_length apple (drop at table) ≡ Some size
      → holds_pairs (format_in apple (drop at table)) (if apple then 8 else 6) (subtable_bytes (nat_eq left 0) size (drop at table))
      ≡ true
      → to ≡ behind_subtable at size → are_whole (suc left) apple table at ≡ are_whole left apple table to
  are_whole-next size to here whole next =
      ap (λ (o : Option ℕ). option_map_or (λ (size : ℕ). holds size && are_whole left apple table (behind_subtable at size)) o false) here
      ∙ ap (λ (b : Bool). b && are_whole left apple table (behind_subtable at size)) whole
      ∙ ap (are_whole left apple table) (sym next)
