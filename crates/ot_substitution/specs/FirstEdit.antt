-- What a lookup of `GSUB` does at the cursor: the edit of the first of its subtables that has one.
use Rattle.std.specs.Prelude.{◌≡◌, ◌⊎◌, ◌<◌, ◌≤◌, ◌+◌, ◌/◌, ℕ, Bool, true, false, not, List, [], ◌∷◌, drop, Option, None, Some, IsTrue, is_some, option_and_then}
use Rattle.font_tables.specs.declared.coverage.Coverage.{Coverage}
use Rattle.ot_contexts.specs.Context.{context_rule}
use Rattle.ot_contexts.specs.Match.{first_ligature}
use Rattle.ot_contexts.specs.Pattern.{IsFitBy, Pattern}
use Rattle.ot_substitution.specs.Reverse.{reverse}
use Rattle.ot_lookups.specs.Sets.{set_at}
use Rattle.ot_lookups.specs.SubtableKinds.{as_context, is_single}
use Rattle.ot_lookups.specs.declared.subtable_kind.SubtableKind.{SubtableKind}
use Rattle.ot_lookups.specs.declared.subtable_kind.SubtableKind.TheVariants.{AlternateSubstitution, ChainedContext, Context, LigatureSubstitution, MultipleSubstitution, ReverseSubstitution, SingleSubstitution}
use Rattle.ot_substitution.specs.Substitution.{IsMultiple, alternate_of, cursor_glyph, feature_value, replaced_by, single}
use Rattle.glyph_digests.specs.Covered.{covered_index}
use Rattle.ot_layout.specs.declared.budget.Budget.{Budget}
use Rattle.ot_layout.specs.declared.search.ApplyContext.{ApplyContext}
use Rattle.ot_substitution.specs.declared.substitution.Edit.{Edit}
use Rattle.ot_substitution.specs.declared.substitution.Edit.TheVariants.{Replace, Choose, Multiply, Ligate, Apply, ReplaceInPlace}
use Rattle.ot_lookups.specs.declared.subtable.Subtable.{Subtable}
use Rattle.ot_layout.specs.declared.skipping_iterator.LookupOptions.{LookupOptions}

-- the coverage index of the glyph at the cursor
abbrev pub cursor_index : Subtable → ApplyContext → Option ℕ
cursor_index subtable ctx = covered_index subtable.coverage.table.now (cursor_glyph ctx).glyph_id

-- a single substitution of the glyph at the cursor
abbrev pub single_edit : Subtable → ApplyContext → Option Edit
single_edit subtable ctx =
    replaced_by (single subtable.kind subtable.table.now (cursor_glyph ctx).glyph_id) (cursor_index subtable ctx)

-- the alternate of the glyph at the cursor that the value of the feature chooses
abbrev pub alternate_edit : LookupOptions → Subtable → ApplyContext → Option Edit
alternate_edit options subtable ctx =
    replaced_by
    (λ index. alternate_of (set_at subtable.table.now index) (feature_value options.mask (cursor_glyph ctx).mask))
    (cursor_index subtable ctx)

-- the first ligature of the set of the glyph at the cursor whose components stand there: its glyph, where they end, and their places
abbrev pub ligature_edit : Subtable → ApplyContext → Option (ℕ × (ℕ × List ℕ))
ligature_edit subtable ctx =
    option_and_then (λ index. first_ligature ctx (set_at subtable.table.now index)) (cursor_index subtable ctx)

-- the glyph that an edit puts in the place of others, where they end, and their places, if these are those of its match
abbrev pub ligated : List ℕ → Option Edit → Option (ℕ × (ℕ × List ℕ))
ligated places None = None
ligated places (Some (Replace glyph)) = Some (glyph, (1, 0 ∷ []))
ligated places (Some (Ligate ligation)) = Some (ligation.ligature, (ligation.end, places))
ligated places (Some (Choose glyphs)) = None
ligated places (Some (Multiply glyphs)) = None
ligated places (Some (Apply fit)) = None
ligated places (Some (ReplaceInPlace change)) = None

-- whether a subtable of this kind can do anything: those of `GSUB` can, but a reverse substitution only where no other lookup applies it
abbrev pub is_of_use : SubtableKind → Bool → Bool
is_of_use (SingleSubstitution format) is_nested = true
is_of_use MultipleSubstitution is_nested = true
is_of_use AlternateSubstitution is_nested = true
is_of_use LigatureSubstitution is_nested = true
is_of_use (Context format) is_nested = true
is_of_use (ChainedContext format) is_nested = true
is_of_use ReverseSubstitution is_nested = not is_nested
is_of_use _ is_nested = false

-- the rule of a context that is taken at the cursor
abbrev pub context_edit : List Coverage → Subtable → ApplyContext → Option Pattern
context_edit coverages subtable ctx =
    option_and_then (λ index. context_rule coverages subtable index ctx) (cursor_index subtable ctx)

-- the reverse chaining substitution of the glyph at the cursor: its coverages stand one after the other in a list, from a place on
abbrev pub reverse_edit : List Coverage → Subtable → ApplyContext → Option Edit
reverse_edit coverages subtable ctx =
    option_and_then (λ index. reverse (drop subtable.first_coverage coverages) subtable.table.now index ctx) (cursor_index subtable ctx)

-- the lookups of a rule, if there is one, are applied where it fits, at these places
abbrev pub IsRuleEdit : ApplyContext → Option Pattern → List ℕ → Option Edit → Type 0
IsRuleEdit ctx rule places None = rule ≡ None
IsRuleEdit ctx rule places (Some (Apply fit)) = IsFitBy ctx rule places fit
IsRuleEdit ctx rule places (Some (Replace glyph)) = IsTrue false
IsRuleEdit ctx rule places (Some (Choose glyphs)) = IsTrue false
IsRuleEdit ctx rule places (Some (Multiply glyphs)) = IsTrue false
IsRuleEdit ctx rule places (Some (Ligate ligation)) = IsTrue false
IsRuleEdit ctx rule places (Some (ReplaceInPlace change)) = IsTrue false

-- what a subtable does at the cursor, by its kind: a single, multiple, alternate or ligature substitution, the lookups of the rule of
-- a context, or a reverse chaining substitution where no other lookup applies it; the glyphs of the match of a ligature or a rule stand
-- at these places
pub record IsEditOf (coverages : List Coverage) (options : LookupOptions) (ctx : ApplyContext) (is_nested : Bool) (subtable : Subtable) (places : List ℕ) (edit : Option Edit) : Type 0 where
  pub singles : is_single subtable.kind ≡ true → edit ≡ single_edit subtable ctx
  pub multiples : subtable.kind ≡ MultipleSubstitution → IsMultiple subtable.table.now (cursor_index subtable ctx) edit
  pub alternates : subtable.kind ≡ AlternateSubstitution → options.random ≡ false → edit ≡ alternate_edit options subtable ctx
  pub ligatures : subtable.kind ≡ LigatureSubstitution → ligated places edit ≡ ligature_edit subtable ctx
  pub contexts : is_some (as_context subtable.kind) ≡ true → IsRuleEdit ctx (context_edit coverages subtable ctx) places edit
  pub reverse_chained : subtable.kind ≡ ReverseSubstitution → is_nested ≡ false → edit ≡ reverse_edit coverages subtable ctx
  pub others : is_of_use subtable.kind is_nested ≡ false → edit ≡ None

-- the edit of the first of these subtables that has one, or none
abbrev pub IsFirstEdit : List Coverage → LookupOptions → ApplyContext → Bool → List Subtable → List ℕ → Option Edit → Type 0
IsFirstEdit coverages options ctx is_nested [] places edit = edit ≡ None
IsFirstEdit coverages options ctx is_nested (subtable ∷ rest) places edit =
    ((is_some edit ≡ true) × IsEditOf coverages options ctx is_nested subtable places edit)
    ⊎ (IsEditOf coverages options ctx is_nested subtable [] None × IsFirstEdit coverages options ctx is_nested rest places edit)

-- going over so many subtables costs a step for every 16 of them, if not all are spent
abbrev pub HasPassed : ℕ → Budget → Budget → Type 0
HasPassed count old new = 0 < new.steps → new.steps + count / 16 ≤ old.steps
