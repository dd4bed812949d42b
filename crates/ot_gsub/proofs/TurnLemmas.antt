-- What comes of an edit, and of a lookup at the cursor.
use Rattle.std.proofs.Common.{◌≡◌, ℕ, zero, suc, ◌-◌, ◌<◌, ◌≤◌, Bool, true, false, List, length, Option, Some, None, Result, Ok, Err, IfOk, refl, sym, ap, subst, ◌∙◌, arith}
use Rattle.std.proofs.lemmas.Bool.{false≢true}
use Rattle.std.specs.Prelude.{nat_lt, slice_get}
use Rattle.std.specs.Result.{IsErr}
use Rattle.std.specs.declared.alloc.AllocError.{AllocError}
use Rattle.ot_substitution.specs.FirstEdit.{IsFirstEdit}
use Rattle.ot_substitution.specs.declared.glyph_table.Glyphs.{Glyphs}
use Rattle.ot_lookups.specs.declared.lookup_list.Lookup.{Lookup}
use Rattle.ot_layout.specs.declared.search.ApplyContext.{ApplyContext}
use Rattle.ot_layout.specs.declared.search.Reach.{Reach}
use Rattle.ot_layout.specs.declared.search.Search.{Search}
use Rattle.ot_substitution.specs.declared.substitution.Edit.{Edit}
use Rattle.ot_substitution.specs.declared.substitution.Edit.TheVariants.{Choose}
use Rattle.shaping_buffer.specs.State.{State}
use Rattle.ot_gsub.specs.Edits.{Gives, GivesOrWants, choose, next_random}
use Rattle.ot_gsub.specs.Nested.{Applies, Now, now_of}
use Rattle.ot_gsub.specs.Turn.{Ends, IsApplyContext, IsDecided, IsMade, IsTurnAt, MayRunOut, mark_beyond, mark_reach, nested, rest_beyond, subtables}
use Rattle.ot_gsub.specs.declared.nested.Step.{Step}
use Rattle.ot_gsub.specs.declared.nested.Step.TheVariants.{Applied, Passed, Refused}
use Rattle.ot_gsub.specs.declared.substitution.Progress.{Progress}
use Rattle.ot_gsub.specs.declared.substitution.Substitutions.{Substitutions}

-- ---- an edit

module _ (applies : Applies) (gdef places : List ℕ) (s : State) (p q : Progress) (new : State) where
  abbrev EndsWith : Edit → Result Bool AllocError → Type 0
  EndsWith edit result = Ends applies gdef places edit (now_of s p) result (now_of new q)

  chosen : (set : Glyphs) (result : Result Bool AllocError) → q.random_state ≡ next_random p.random_state → q.search ≡ p.search
      → GivesOrWants (choose gdef set.table.now q.random_state s) result new → EndsWith (Choose set) result
  chosen set (Err e) next same gives = tt
  chosen set (Ok done) next same gives =
      let random = next_random p.random_state in
      let g = subst (λ k. Gives (choose gdef set.table.now k s) done new) next gives in (
        g.answer,
        ap (λ (t : State). now_of t q) g.state
            ∙ ap (λ k. record (now_of (choose gdef set.table.now random s).state q) { random = k }) next
            ∙ ap
            (λ (x : Search). record (now_of (choose gdef set.table.now random s).state q) { random = random; left = x.budget.nested })
            same,
      )

  pub ends_by_choose : (edit : Edit) (set : Glyphs) (result : Result Bool AllocError) → edit ≡ Choose set
      → q.random_state ≡ next_random p.random_state → q.search ≡ p.search
      → GivesOrWants (choose gdef set.table.now q.random_state s) result new → EndsWith edit result
  ends_by_choose edit set result is next same gives =
      subst (λ (e : Edit). EndsWith e result) (sym is) (chosen set result next same gives)

-- ---- a lookup at the cursor

module _ (depth : ℕ) (substitutions : Substitutions) (lookup : Lookup) (p q : Progress) (s : State) where
  abbrev gdef_of : List ℕ
  gdef_of = substitutions.gdef.now.table.now

  abbrev marked : Reach → Now
  marked reach = record (now_of s p) { buffer = mark_reach reach s; left = q.search.budget.nested }

  marked_is : (reach : Reach) (m : State) → m ≡ mark_reach reach s → q.random_state ≡ p.random_state → now_of m q ≡ marked reach
  marked_is reach m is same =
      ap (λ (t : State). now_of t q) is ∙ ap (λ k. record (now_of (mark_reach reach s) q) { random = k }) same

  turn_by : (edit : Option Edit) (reach : Reach) (m : State) (step : Result Step AllocError) (new : Now)
      → IsDecided substitutions lookup (nat_lt depth 64) s q.search.places.items edit
      → m ≡ mark_reach reach s → q.random_state ≡ p.random_state → q.search.budget.nested ≤ p.search.budget.nested
      → IsMade (nested depth substitutions) gdef_of q.search.places.items edit (now_of m q) step new
      → IsTurnAt depth substitutions lookup (now_of s p) step new
  turn_by edit reach m step new decided is same fewer made = record {
    edit = edit;
    reach = reach;
    places = q.search.places.items;
    left = q.search.budget.nested;
    decided = decided;
    fewer = fewer;
    made = subst
        (λ (o : Now). IsMade (nested depth substitutions) gdef_of q.search.places.items edit o step new)
        (marked_is reach m is same) made;
  }

  -- what is found by the glyphs around the cursor
  pub decided_by : (ctx : ApplyContext) (found edit : Option Edit) → IsApplyContext substitutions lookup s ctx
      → IsFirstEdit substitutions.list.now.coverages.items substitutions.options ctx (nat_lt depth 64) (subtables substitutions lookup)
      q.search.places.items found
      → found ≡ edit → IsDecided substitutions lookup (nat_lt depth 64) s q.search.places.items edit
  decided_by ctx found edit are first is = record {
    ctx = ctx;
    are = are;
    first = subst
        (λ (e : Option Edit). IsFirstEdit substitutions.list.now.coverages.items substitutions.options ctx (nat_lt depth 64)
        (subtables substitutions lookup) q.search.places.items e) is first;
  }

  -- no subtable has an edit
  pub turn_passed : (reach : Reach) (m : State) → IsDecided substitutions lookup (nat_lt depth 64) s q.search.places.items None
      → m ≡ mark_reach reach s → q.random_state ≡ p.random_state → q.search.budget.nested ≤ p.search.budget.nested
      → IsTurnAt depth substitutions lookup (now_of s p) (Ok Passed) (now_of m q)
  turn_passed reach m decided is same fewer =
      turn_by None reach m (Ok Passed) (now_of m q) decided is same fewer (refl, refl)

  module _ (edit : Edit) (reach : Reach) (m new1 : State) (r : Progress) (told : Result Bool AllocError)
      (decided : IsDecided substitutions lookup (nat_lt depth 64) s q.search.places.items (Some edit))
      (is : m ≡ mark_reach reach s) (same : q.random_state ≡ p.random_state)
      (fewer : q.search.budget.nested ≤ p.search.budget.nested)
      (ends : Ends (nested depth substitutions) gdef_of q.search.places.items edit (now_of m q) told (now_of new1 r)) where
    abbrev EndsSo : Result Bool AllocError → Type 0
    EndsSo result = Ends (nested depth substitutions) gdef_of q.search.places.items edit (now_of m q) result (now_of new1 r)

    erring : (step : Result Step AllocError) (new : Now) → IsErr step → MayRunOut edit m
        → IsMade (nested depth substitutions) gdef_of q.search.places.items (Some edit) (now_of m q) step new
    erring (Ok x) new failed may = absurd (false≢true failed)
    erring (Err x) new failed may = may

    pub turn_err : (e : AllocError) (step : Result Step AllocError) (new : Now) → told ≡ Err e → IsErr step
        → IsTurnAt depth substitutions lookup (now_of s p) step new
    turn_err e step new was failed =
        turn_by (Some edit) reach m step new decided is same fewer (erring step new failed (subst EndsSo was ends))

    pub turn_refused : told ≡ Ok false → IsTurnAt depth substitutions lookup (now_of s p) (Ok Refused) (now_of new1 r)
    turn_refused was =
        turn_by (Some edit) reach m (Ok Refused) (now_of new1 r) decided is same fewer
        (record { done = false; mid = now_of new1 r; edited = subst EndsSo was ends; answer = refl; state = refl })

    pub turn_applied : (rest : ℕ) (new : State) → told ≡ Ok true → rest ≡ rest_beyond edit m → new ≡ mark_beyond rest new1
        → IsTurnAt depth substitutions lookup (now_of s p) (Ok Applied) (now_of new r)
    turn_applied rest new was beyond at =
        turn_by (Some edit) reach m (Ok Applied) (now_of new r) decided is same fewer (record {
          done = true;
          mid = now_of new1 r;
          edited = subst EndsSo was ends;
          answer = refl;
          state = ap (λ (t : State). now_of t r) (at ∙ ap (λ k. mark_beyond k new1) beyond);
        })

-- ---- a lookup that another one applies

module _ (substitutions : Substitutions) (index : ℕ) where
  -- shaping is given up
  pub nested-given_up : (depth : ℕ) (old new : Now) → new ≡ record old { buffer = record old.buffer { shaping_failed = true } }
      → (0 < depth → old.left ≡ 0) → nested depth substitutions index old Passed new
  unfolding nested
  nested-given_up zero old new is spent = (refl, is)
  nested-given_up (suc d) old new is spent =
      let none : old.left ≡ 0 = spent (omega arith) in
      record {
        spent = λ e. (refl, is);
        none = λ some. absurd (omega (arith, some, none));
        some = λ some. absurd (omega (arith, some, none));
      }

  -- nothing is left
  pub nested-at_end : (depth : ℕ) (old new : Now) → 0 < depth → 0 < old.left → length old.buffer.input ≡ 0
      → new ≡ record old { left = old.left - 1 } → nested depth substitutions index old Passed new
  unfolding nested
  nested-at_end zero old new deep some end is = absurd (omega (arith, deep))
  nested-at_end (suc d) old new deep some end is = record {
    spent = λ e. absurd (omega (arith, some, e));
    none = λ left none. (refl, is);
    some = λ left more. absurd (omega (arith, more, end));
  }

  -- the lookup is not there
  pub nested-not_there : (depth : ℕ) (old new : Now) → 0 < depth → 0 < old.left → 0 < length old.buffer.input
      → slice_get substitutions.list.now.lookups.items index ≡ None
      → new ≡ record old { left = old.left - 1 } → nested depth substitutions index old Passed new
  unfolding nested
  nested-not_there zero old new deep some glyph none is = absurd (omega (arith, deep))
  nested-not_there (suc d) old new deep some glyph none is = record {
    spent = λ e. absurd (omega (arith, some, e));
    none = λ left end. absurd (omega (arith, glyph, end));
    some = λ left more. rw none (refl, is);
  }

  -- it is applied
  pub nested-there : (depth : ℕ) (lookup : Lookup) (old : Now) (step : Step) (new : Now) → 0 < depth → 0 < old.left
      → 0 < length old.buffer.input → slice_get substitutions.list.now.lookups.items index ≡ Some lookup
      → IsTurnAt (depth - 1) substitutions lookup (record old { left = old.left - 1 }) (Ok step) new
      → nested depth substitutions index old step new
  unfolding nested
  nested-there zero lookup old step new deep some glyph is turn = absurd (omega (arith, deep))
  nested-there (suc d) lookup old step new deep some glyph is turn =
      let e : suc d - 1 ≡ d = omega arith in
      record {
        spent = λ none. absurd (omega (arith, some, none));
        none = λ left end. absurd (omega (arith, glyph, end));
        some = λ left more. rw is
            (subst (λ k. IsTurnAt k substitutions lookup (record old { left = old.left - 1 }) (Ok step) new) e turn);
      }

  pub nested_by_turn : (depth : ℕ) (lookup : Lookup) (old mid : Now) (result : Result Step AllocError) (new : Now) → 0 < depth
      → 0 < old.left → 0 < length old.buffer.input → slice_get substitutions.list.now.lookups.items index ≡ Some lookup
      → mid ≡ record old { left = old.left - 1 } → IsTurnAt (depth - 1) substitutions lookup mid result new
      → IfOk result (λ step. nested depth substitutions index old step new)
  nested_by_turn depth lookup old mid (Ok step) new deep some glyph is paid turn =
      nested-there depth lookup old step new deep some glyph is
      (subst (λ (o : Now). IsTurnAt (depth - 1) substitutions lookup o (Ok step) new) paid turn)
  nested_by_turn depth lookup old mid (Err e) new deep some glyph is paid turn = tt
