-- What is found from the full decomposition is the mapping of the database, as a computation over its rows shows.
use Rattle.std.proofs.Common.{◌≡◌, ℕ, Bool, true, false, ◌&&◌, List, [], ◌∷◌, Option, Some, None}
use Rattle.std.proofs.Common.{refl, sym, ap, ◌∙◌, inl, inr}
use lib.Utf8.{scalar}
use Rattle.std.proofs.lemmas.Bool.{cases_Bool, and_parts}
use Rattle.ucd_table.proofs.Facts.{tree_value, tree_of, tree_value-tree_of}
use Rattle.ucd_table.proofs.GroupsCheck.{same_string, same_string-true}
use Rattle.ucd_table.proofs.RangedFacts.{points_ok, Stepped-at_points}
use Rattle.ucd_table.proofs.Computing.{tables}
use Rattle.ucd_normal.specs.Composition.{composite, paired_with}
use Rattle.ucd_normal.specs.Compositions.{compositions}
use Rattle.ucd_normal.specs.Decomposition.{decomposition, if_canonical, expand}
use Rattle.ucd_normal.specs.Decomposition.{canonical_mapping, canonical_decomposition}
use Rattle.ucd_normal.specs.DecompositionRows.{Tag}
use Rattle.ucd_normal.proofs.CompositionLemmas.{is_empty, composite-paired_with}
use Rattle.ucd_normal.proofs.CompositionsLemmas.{compositions_stepped}
use Rattle.ucd_normal.proofs.DecompositionLemmas.{decomposition_stepped}
use Rattle.unicode_tables.specs.Mapping.{parts_of, whole_from, head_of, step_of}

-- the rows of decompositions and of pairs, as functions
abbrev Tables : Type 0
Tables = (ℕ → Tag × List ℕ) × (ℕ → List ℕ)

abbrev by_rows : Tables
by_rows = (decomposition, compositions)

-- the same, read by trees
by_trees : Tables
unfolding tables points_ok paired_with expand whole_from head_of step_of decomposition_stepped compositions_stepped
by_trees = (
  tree_value decomposition_stepped.default (tree_of decomposition decomposition_stepped),
  tree_value compositions_stepped.default (tree_of compositions compositions_stepped),
)

by_rows-by_trees : by_rows ≡ by_trees
unfolding by_trees
by_rows-by_trees =
    λ i. (
      tree_value-tree_of decomposition decomposition_stepped i,
      tree_value-tree_of compositions compositions_stepped i,
    )

abbrev joins : Tables → ℕ → ℕ → Option ℕ
joins t a b = paired_with b (t.1 a)

abbrev full : Tables → ℕ → List ℕ
full t = expand (λ c. if_canonical (t.0 c)) 3

abbrev found : Tables → ℕ → Option (ℕ × Option ℕ)
found t c = step_of (joins t) (full t) c (full t c)

-- the parts as a list
abbrev listed : Option (ℕ × Option ℕ) → List ℕ
listed None = []
listed (Some (a, None)) = a ∷ []
listed (Some (a, Some b)) = a ∷ b ∷ []

abbrev is_found : Tables → ℕ → Tag × List ℕ → Bool
is_found t c entry = scalar c && same_string (listed (found t c)) (if_canonical entry)

each_is_found : (c : ℕ) → is_empty (canonical_mapping c) ≡ false → is_found by_rows c (decomposition c) ≡ true
unfolding by_trees
each_is_found c some =
    ap (λ t. is_found t c (decomposition c)) by_rows-by_trees
    ∙ Stepped-at_points decomposition decomposition_stepped (λ e. is_empty (if_canonical e)) (is_found by_trees) refl
    c some

parts_of-listed : (o : Option (ℕ × Option ℕ)) → parts_of (listed o) ≡ o
parts_of-listed None = refl
parts_of-listed (Some (a, None)) = refl
parts_of-listed (Some (a, Some b)) = refl

-- no mapping, and no full decomposition
full_empty : (c : ℕ) → canonical_mapping c ≡ [] → full by_rows c ≡ []
unfolding expand
full_empty c none = rw none refl

is_empty-true : (s : List ℕ) → is_empty s ≡ true → s ≡ []
is_empty-true [] h = refl
is_empty-true (x ∷ xs) h = cc

step_of-empty : (c : ℕ) (all : List ℕ) → all ≡ [] → step_of (joins by_rows) (full by_rows) c all ≡ None
unfolding step_of
step_of-empty c all none = rw none refl

-- a character with a mapping is a scalar value
pub scalar_if_mapped : (c : ℕ) → is_empty (canonical_mapping c) ≡ false → scalar c ≡ true
scalar_if_mapped c some = (and_parts (scalar c) _ (each_is_found c some)).0

found_by_rows : (c : ℕ) → found by_rows c ≡ parts_of (canonical_mapping c)
found_by_rows c =
    elim (cases_Bool (is_empty (canonical_mapping c))) [
      | inl none ↦
          let empty = is_empty-true (canonical_mapping c) none in
          step_of-empty c (full by_rows c) (full_empty c empty) ∙ ap parts_of (sym empty)
      | inr some ↦
          sym (parts_of-listed (found by_rows c))
          ∙ ap parts_of (same_string-true _ _ (and_parts (scalar c) _ (each_is_found c some)).1)
    ]

same_joins : joins by_rows ≡ composite
same_joins = λ i a b. sym (composite-paired_with a b) i

-- what is found from the full decomposition is the mapping
pub step_of-mapping : (c : ℕ)
    → step_of composite canonical_decomposition c (canonical_decomposition c) ≡ parts_of (canonical_mapping c)
unfolding canonical_decomposition
step_of-mapping c = ap (λ join. step_of join (full by_rows) c (full by_rows c)) (sym same_joins) ∙ found_by_rows c
