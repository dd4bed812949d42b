-- The subtables of a lookup at a glyph, and a lookup that another one applies.
use Rattle.std.proofs.Common.{◌≡◌, ℕ, zero, suc, ◌+◌, ◌-◌, ◌<◌, ◌≤◌, Bool, true, false, List, [], ◌∷◌, length, drop, get_or, Option, Some, None, is_some}
use Rattle.std.proofs.Common.{refl, sym, ap, subst, ◌∙◌, arith}
use Rattle.std.proofs.lemmas.Bool.{false≢true}
use Rattle.std.proofs.lemmas.List.{drop_all, drop_more}
use Rattle.rb_glyph.specs.declared.info.hb_glyph_info_t.{hb_glyph_info_t}
use Rattle.glyph_digests.specs.Covered.{covered_index}
use Rattle.ot_layout.specs.SkippingIterator.{over_input}
use Rattle.ot_layout.specs.declared.skipping_iterator.SkippingIterator.{SkippingIterator}
use Rattle.ot_lookups.specs.LookupProps.{glyph_at}
use Rattle.ot_lookups.specs.Subtables.{subtables_of}
use Rattle.ot_lookups.specs.declared.lookup_list.Lookup.{Lookup}
use Rattle.ot_lookups.specs.declared.subtable.Subtable.{Subtable}
use Rattle.ot_gpos.specs.Contexts.{Applies, AreDone, named, record_done, target}
use Rattle.ot_gpos.specs.Lookups.{Applied, Outcome, Text, outcome, visit_by}
use Rattle.ot_gpos.specs.Nested.{AreTried, IsIndexTried, IsOneTried, IsTried, IsTriedAt, IsVisited, given_up, nested}
use Rattle.ot_gpos.specs.Visit.{Visit}
use Rattle.ot_gpos.proofs.ContextLemmas.{done_idle, done_next, record_idle, record_some}

-- ---- one subtable

abbrev pub visit_with : Applied → ℕ → Subtable → ℕ → SkippingIterator → Visit
visit_with a place t index walk = record (visit_by a place t index) { iterator = walk }

-- what is handed to it, with the walk that was made
pub visit_with-is : (a : Applied) (place : ℕ) (t : Subtable) (index : ℕ) (walk : SkippingIterator)
    → walk ≡ over_input a.lookup.lookup_props a.options true → visit_with a place t index walk ≡ visit_by a place t index
visit_with-is a place t index walk is = ap (visit_with a place t index) is

module _ (applies : Applies) (a : Applied) (place glyph : ℕ) (t : Subtable) where
  -- it does not cover the glyph
  pub one_uncovered : (old : Text) (o : Outcome) → covered_index t.coverage.table.now glyph ≡ None → o ≡ outcome old None
      → IsOneTried applies a place glyph t old o
  one_uncovered old o none is =
      subst (λ (i : Option ℕ). IsIndexTried applies a place t i old o) (sym none) is

  -- it does
  pub one_covered : (index : ℕ) (visit : Visit) (old : Text) (o : Outcome) → covered_index t.coverage.table.now glyph ≡ Some index
      → visit ≡ visit_by a place t index → IsVisited applies a visit old o → IsOneTried applies a place glyph t old o
  one_covered index visit old o some is visited =
      subst (λ (i : Option ℕ). IsIndexTried applies a place t i old o) (sym some)
      (subst (λ (v : Visit). IsVisited applies a v old o) is visited)

-- ---- the subtables of a lookup

pub drop_one : (ts : List Subtable) (i : ℕ) (t : Subtable) → i < length ts → t ≡ get_or ts i t → drop i ts ≡ t ∷ drop (i + 1) ts
drop_one ts i t within is = drop_more ts i t within ∙ ap (λ (x : Subtable). x ∷ drop (i + 1) ts) (sym is)

module _ (applies : Applies) (a : Applied) (place glyph : ℕ) where
  pub tried_none : (old : Text) → AreTried applies a place glyph [] old (outcome old None)
  unfolding AreTried
  tried_none old = refl

  pub tried_first : (t : Subtable) (rest : List Subtable) (old : Text) (o : Outcome) → IsOneTried applies a place glyph t old o
      → is_some o.next ≡ true → AreTried applies a place glyph (t ∷ rest) old o
  unfolding AreTried
  tried_first t rest old o one some = record {
    first = o;
    tried = one;
    ends = λ _. refl;
    goes_on = λ none. absurd (false≢true (sym none ∙ some));
  }

  pub tried_others : (t : Subtable) (rest : List Subtable) (old : Text) (first o : Outcome)
      → IsOneTried applies a place glyph t old first → is_some first.next ≡ false
      → AreTried applies a place glyph rest first.text o → AreTried applies a place glyph (t ∷ rest) old o
  unfolding AreTried
  tried_others t rest old first o one none others = record {
    first = first;
    tried = one;
    ends = λ some. absurd (false≢true (sym none ∙ some));
    goes_on = λ _. others;
  }

  module _ (ts : List Subtable) (i : ℕ) where
    -- the first of those that are left does something
    pub left_first : (t : Subtable) (old : Text) (o : Outcome) → i < length ts → t ≡ get_or ts i t
        → IsOneTried applies a place glyph t old o → is_some o.next ≡ true → AreTried applies a place glyph (drop i ts) old o
    left_first t old o within is one some =
        subst (λ (l : List Subtable). AreTried applies a place glyph l old o) (sym (drop_one ts i t within is))
        (tried_first t (drop (i + 1) ts) old o one some)

    -- or one after it
    pub left_others : (t : Subtable) (old : Text) (first o : Outcome) → i < length ts → t ≡ get_or ts i t
        → IsOneTried applies a place glyph t old first → is_some first.next ≡ false
        → AreTried applies a place glyph (drop (i + 1) ts) first.text o → AreTried applies a place glyph (drop i ts) old o
    left_others t old first o within is one none others =
        subst (λ (l : List Subtable). AreTried applies a place glyph l old o) (sym (drop_one ts i t within is))
        (tried_others t (drop (i + 1) ts) old first o one none others)

    -- or none is left
    pub left_none : (old : Text) → length ts ≤ i → AreTried applies a place glyph (drop i ts) old (outcome old None)
    left_none old end =
        subst (λ (l : List Subtable). AreTried applies a place glyph l old (outcome old None)) (sym (drop_all i ts end))
        (tried_none old)

-- the same glyph and subtables, as they were read
pub tried_at : (applies : Applies) (a : Applied) (place : ℕ) (gs : List hb_glyph_info_t) (ts : List Subtable) (old : Text) (o : Outcome)
    → gs ≡ old.buffer.input → ts ≡ subtables_of a.list.subtables.items a.lookup → place < length gs
    → AreTried applies a place (glyph_at gs place).glyph_id ts old o → IsTriedAt applies a place old o
tried_at applies a place gs ts old o read same within are = record {
  within = λ _. subst (λ (l : List Subtable). AreTried applies a place (glyph_at old.buffer.input place).glyph_id l old o) same
      (subst (λ (l : List hb_glyph_info_t). AreTried applies a place (glyph_at l place).glyph_id ts old o) read are);
  past = λ end. absurd (omega (arith, within, end, ap length read));
}

-- ---- a lookup that another one applies

-- none may be, where paying for one is refused
pub none_left : (n : ℕ) (b : Bool) → (0 < n → b ≡ true) → b ≡ false → n ≡ 0
none_left zero b more out = refl
none_left (suc n) b more out = absurd (false≢true (sym out ∙ more (omega arith)))

module _ (a : Applied) (lookup : Lookup) (place : ℕ) where
  -- shaping is given up
  pub nested_given_up : (depth : ℕ) (old new : Text) → new ≡ given_up old → (0 < depth → old.left ≡ 0)
      → nested depth a lookup place old new
  unfolding nested
  nested_given_up zero old new is spent = is
  nested_given_up (suc d) old new is spent =
      let none : old.left ≡ 0 = spent (omega arith) in
      record {
        spent = λ _. is;
        some = λ some. absurd (omega (arith, some, none));
      }

  tried_deeper : (depth : ℕ) (old : Text) (o : Outcome) → 0 < depth → 0 < old.left
      → IsTried (depth - 1) (record a { lookup = lookup }) place (record old { left = old.left - 1 }) o
      → nested depth a lookup place old o.text
  unfolding nested
  tried_deeper zero old o deep left tried = absurd (omega (arith, deep))
  tried_deeper (suc d) old o deep left tried =
      let e : suc d - 1 ≡ d = omega arith in
      record {
        spent = λ none. absurd (omega (arith, left, none));
        some = λ _. record {
          next = o.next;
          tried = subst (λ (k : ℕ). IsTried k (record a { lookup = lookup }) place (record old { left = old.left - 1 }) o) e tried;
        };
      }

  -- it is tried
  pub nested_tried : (depth d : ℕ) (b : Applied) (old mid : Text) (o : Outcome) → d ≡ depth - 1
      → b ≡ record a { lookup = lookup } → mid ≡ record old { left = old.left - 1 } → 0 < depth → 0 < old.left
      → IsTried d b place mid o → nested depth a lookup place old o.text
  nested_tried depth d b old mid o level same paid deep left tried =
      tried_deeper depth old o deep left
      (subst (λ (k : ℕ). IsTried k (record a { lookup = lookup }) place (record old { left = old.left - 1 }) o) level
      (subst (λ (x : Applied). IsTried d x place (record old { left = old.left - 1 }) o) same
      (subst (λ (t : Text). IsTried d b place t o) paid tried)))

-- ---- the records of a rule

module _ (a : Applied) (depth : ℕ) (lookups : List Lookup) (records : List ℕ) (place : ℕ) (places : List ℕ) where
  abbrev Does : ℕ → Text → Text → Type 0
  Does = record_done (nested depth a) lookups records place places

  -- the lookup of a record is tried
  pub record_tried : (k : ℕ) (lookup : Lookup) (at d : ℕ) (b : Applied) (old mid : Text) (o : Outcome)
      → named lookups records place places k ≡ Some (target lookup at) → d ≡ depth - 1 → b ≡ record a { lookup = lookup }
      → mid ≡ record old { left = old.left - 1 } → 0 < depth → 0 < old.left → IsTried d b at mid o → Does k old o.text
  record_tried k lookup at d b old mid o is level same paid deep left tried =
      record_some (nested depth a) (named lookups records place places k) lookup at old o.text is
      (nested_tried a lookup at depth d b old mid o level same paid deep left tried)

  -- shaping is given up at a record, and no other one does anything
  pub rest_given_up : (k n : ℕ) (lookup : Lookup) (at : ℕ) (old mid end : Text) → k < n → AreDone Does k old mid
      → named lookups records place places k ≡ Some (target lookup at) → end ≡ given_up mid → (0 < depth → mid.left ≡ 0)
      → AreDone Does n old end
  rest_given_up k n lookup at old mid end less are is gave spent =
      let here : Does k mid end =
      record_some (nested depth a) (named lookups records place places k) lookup at mid end is
      (nested_given_up a lookup at depth mid end gave spent) in
      let stays : end ≡ given_up end = gave ∙ ap given_up (sym gave) in
      let none_left : 0 < depth → end.left ≡ 0 = λ deep. ap (λ (t : Text). t.left) gave ∙ spent deep in
      done_idle Does (k + 1) n old end (omega (arith, less)) (done_next Does k old mid end are here)
      (λ i. record_idle (nested depth a) (named lookups records place places i) end
      (λ l p. nested_given_up a l p depth end end stays none_left))
