-- The first subtable that has an edit.
use Rattle.std.proofs.Common.{◌≡◌, ℕ, ◌+◌, ◌<◌, Bool, true, false, List, ◌∷◌, drop, length, get_or, Option, Some, None, refl, subst, sym, ap, ◌∙◌, inl, inr, is_some}
use Rattle.std.proofs.lemmas.List.{drop_more}
use Rattle.std.specs.Prelude.{[]}
use Rattle.font_tables.specs.declared.coverage.Coverage.{Coverage}
use Rattle.ot_substitution.specs.FirstEdit.{IsEditOf, IsFirstEdit, cursor_index}
use Rattle.ot_substitution.specs.Substitution.{cursor_glyph}
use Rattle.glyph_digests.specs.Covered.{covered_index}
use Rattle.ot_layout.specs.declared.search.ApplyContext.{ApplyContext}
use Rattle.ot_substitution.specs.declared.substitution.Edit.{Edit}
use Rattle.ot_lookups.specs.declared.subtable.Subtable.{Subtable}
use Rattle.ot_layout.specs.declared.skipping_iterator.LookupOptions.{LookupOptions}

none_is : (o : Option ℕ) → (is_some o ≡ true → ⊥) → o ≡ None
none_is None none = refl
none_is (Some n) none = absurd (none refl)

-- a subtable that is not for the glyph does nothing
uncovered : (cs : List Coverage) (o : LookupOptions) (s : ApplyContext) (n : Bool) (t : Subtable) → cursor_index t s ≡ None → IsEditOf cs o s n t [] None
uncovered cs o s n t none = record {
  singles = λ is. rw none refl;
  multiples = λ is. rw none refl;
  alternates = λ is chosen. rw none refl;
  ligatures = λ is. rw none refl;
  contexts = λ is. rw none refl;
  reverse_chained = λ is outermost. rw none refl;
  others = λ is. refl;
}

-- nor does one that cannot be for it
pub uncovered_by : (cs : List Coverage) (o : LookupOptions) (s : ApplyContext) (n : Bool) (t : Subtable)
    → (is_some (covered_index t.coverage.table.now (cursor_glyph s).glyph_id) ≡ true → ⊥) → IsEditOf cs o s n t [] None
uncovered_by cs o s n t none = uncovered cs o s n t (none_is _ none)

drop-more : (ts : List Subtable) (i : ℕ) (t : Subtable) → i < length ts → t ≡ get_or ts i t → drop i ts ≡ t ∷ drop (i + 1) ts
drop-more ts i t within is = drop_more ts i t within ∙ ap (λ x. x ∷ drop (i + 1) ts) (sym is)

-- the edit of a subtable that has one
pub first_here : (cs : List Coverage) (o : LookupOptions) (s : ApplyContext) (n : Bool) (ts : List Subtable) (i : ℕ) (t : Subtable) (places : List ℕ) (edit : Option Edit)
    → i < length ts → t ≡ get_or ts i t → is_some edit ≡ true → IsEditOf cs o s n t places edit
    → IsFirstEdit cs o s n (drop i ts) places edit
first_here cs o s n ts i t places edit within is some has =
    subst (λ l. IsFirstEdit cs o s n l places edit) (sym (drop-more ts i t within is)) (inl (some, has))

-- that of the subtables after one that has none
pub first_later : (cs : List Coverage) (o : LookupOptions) (s : ApplyContext) (n : Bool) (ts : List Subtable) (i : ℕ) (t : Subtable) (places : List ℕ) (edit : Option Edit)
    → i < length ts → t ≡ get_or ts i t → IsEditOf cs o s n t [] None
    → IsFirstEdit cs o s n (drop (i + 1) ts) places edit → IsFirstEdit cs o s n (drop i ts) places edit
first_later cs o s n ts i t places edit within is none rest =
    subst (λ l. IsFirstEdit cs o s n l places edit) (sym (drop-more ts i t within is)) (inr (none, rest))

-- no edit
pub no_edit : (cs : List Coverage) (o : LookupOptions) (s : ApplyContext) (n : Bool) (t : Subtable) (places : List ℕ) (edit : Option Edit)
    → IsEditOf cs o s n t places edit → is_some edit ≡ false → IsEditOf cs o s n t [] None
no_edit cs o s n t places None has none = record {
  singles = has.singles;
  multiples = has.multiples;
  alternates = has.alternates;
  ligatures = has.ligatures;
  contexts = has.contexts;
  reverse_chained = has.reverse_chained;
  others = has.others;
}
no_edit cs o s n t places (Some e) has none = cc
