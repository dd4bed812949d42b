-- The row that each character has in a table.
use Rattle.std.specs.Prelude.{ℕ, ◌==◌, Option, Some, None, IsSome, option_map, nat_eq, if◌then◌else◌}
use Rattle.std.specs.Char.{IsScalar}
use Rattle.ucd_normal.specs.CanonicalCombiningClass.{canonical_combining_class}
use Rattle.std.specs.Option.{option_eq}
use Rattle.ucd_normal.specs.Composition.{composite}
use Rattle.ucd_normal.specs.Decomposition.{canonical_mapping}
use Rattle.unicode_tables.specs.Mapping.{parts_of}

-- a character and its canonical combining class, unless that is 0
abbrev pub class_row : ℕ → Option (ℕ × ℕ)
class_row c = if canonical_combining_class c == 0 then None else Some (c, canonical_combining_class c)

-- a character and the parts of its canonical decomposition, if it has one
abbrev pub decomposition_row : ℕ → Option (ℕ × ℕ × Option ℕ)
decomposition_row c = option_map (λ parts. (c, parts.0, parts.1)) (parts_of (canonical_mapping c))

-- the two parts, if they compose to c
abbrev pub composed_parts : ℕ → Option (ℕ × Option ℕ) → Option (ℕ × ℕ)
composed_parts c (Some (a, Some b)) = if option_eq nat_eq (composite a b) (Some c) then Some (a, b) else None
composed_parts c (Some (a, None)) = None
composed_parts c None = None

-- the pair that composes to c
abbrev pub pair_of : ℕ → Option (ℕ × ℕ)
pair_of c = composed_parts c (parts_of (canonical_mapping c))

-- ---- a table that has a row

-- some character has a class other than 0
abbrev pub HasClasses : Type 0
HasClasses = (c : ℕ) × (IsScalar c × IsSome (class_row c))

-- some character has a decomposition
abbrev pub HasDecompositions : Type 0
HasDecompositions = (c : ℕ) × (IsScalar c × IsSome (decomposition_row c))

-- some pair composes
abbrev pub HasCompositions : Type 0
HasCompositions = (a : ℕ) × ((b : ℕ) × IsSome (composite a b))
