use Rattle.std.proofs.Common.{◌≡◌, ℕ, ◌+◌, ◌-◌, ◌*◌, ◌<◌, true, None, Some, ap, length, refl, sym, subst, ◌∙◌, arith, rules}
use Rattle.shaping_buffer.specs.State.{State}
use Rattle.ot_layout.specs.declared.budget.Budget.{Budget}
use Rattle.ot_layout.specs.declared.search.Search.{Search}
use Rattle.ot_contexts.proofs.NextLemmas.{next_of_each}
use Rattle.ot_lookups.specs.LookupProps.{glyph_at}
use Rattle.ot_lookups.specs.declared.lookup_list.Lookup.{Lookup}
use Rattle.ot_gpos.specs.Contexts.{AreDone, ahead, looked_at, named, record_done, target}
use Rattle.ot_attachments.specs.Flags.{break_marked}
use Rattle.ot_attachments.proofs.KeptLemmas.{kept_none, kept_then}
use Rattle.ot_gpos.specs.Lookups.{Text, applied, outcome, text_of}
use Rattle.ot_gpos.specs.Nested.{AreTried, IsVisited, nested}
use Rattle.ot_gpos.specs.Visit.{visit_of}
use Rattle.ot_gpos.proofs.ContextLemmas.{break_to, concat_to, decided_read, done_next, done_none, fit_done, none_given, record_none, records_at, text_of-same}
use Rattle.ot_gpos.proofs.LookupLemmas.{uncovered}
use Rattle.ot_gpos.proofs.NestedLemmas.{left_first, left_none, left_others, none_left, one_covered, one_uncovered, record_tried, rest_given_up}
use Rattle.ot_gpos.proofs.NestedLemmas.{tried_at, visit_with-is, visit_with}
use Rattle.ot_gpos.proofs.RunsLemmas.{len_closed, same_length}
use Rattle.ot_gpos.proofs.lookups.+nested.Goals as goal
use Rattle.ot_gpos.proofs.lookups.+nested.Goals.{apply_records-in-Some+else-task-eq0+else-not-nest, apply_records-in_default}
use Rattle.ot_gpos.proofs.lookups.+nested.Goals.{apply_records-then-task-eq0-via-then-task-eq0}
use Rattle.ot_gpos.proofs.lookups.+nested.Goals.{apply_records-then-task-eq0-via-else-task-eq0+then-not-nest}

-- ---- the subtables of a lookup

pub place_by_lookup-loop-subtable-init : goal.place_by_lookup-loop-subtable-init
place_by_lookup-loop-subtable-init g t c =
    let task = c.args.task.now in
    let setting = task.setting.now in
    let a = applied setting.list.now task.applied.now.lookup.now task.options.now setting.instance in
    record {
      kept = kept_none _ c.requires.placed;
      spent = (omega (arith, c.pay_for.ensures.spent.0), omega (arith, c.pay_for.ensures.spent.1));
      exact = λ plain steps o tried.
          subst
          (λ (x : Text). AreTried (nested task.depth a) a task.place (glyph_at c.info.result.now task.place).glyph_id
          c.subtables_of-subtables.result.now x o)
          (text_of-same c.args.buffer.now c.args.buffer.now c.args.last.now c.args.search.now.budget.nested
          c.pay_for.new.self.nested refl (ap (λ (b : Budget). b.nested) c.pay_for.ensures.left)) tried;
    }

pub place_by_lookup-loop-subtable-preserved : goal.place_by_lookup-loop-subtable-preserved
place_by_lookup-loop-subtable-preserved g t c =
    let task = c.args.task.now in
    let setting = task.setting.now in
    let a = applied setting.list.now task.applied.now.lookup.now task.options.now setting.instance in
    let ts = c.subtables_of-subtables.result.now in
    let i = c.loop-subtable.subtable-index in
    let one = c.subtable-item.result in
    record {
      kept = kept_then _ _ _ c.loop-subtable.invariant.kept c.try_subtable-next.ensures.kept;
      spent = (
        omega (arith, c.loop-subtable.invariant.spent.0, c.try_subtable-next.ensures.spent.0),
        omega (arith, c.loop-subtable.invariant.spent.1, c.try_subtable-next.ensures.spent.1),
      );
      exact = λ plain steps o rest.
          let before : 0 < c.loop-subtable.search.budget.steps = omega (arith, steps, c.try_subtable-next.ensures.spent.1) in
          let old = text_of c.loop-subtable.buffer c.loop-subtable.last c.loop-subtable.search.budget.nested in
          let first = outcome
          (text_of c.try_subtable-next.new.buffer c.try_subtable-next.new.last c.try_subtable-next.new.search.budget.nested)
          c.try_subtable-next.result in
          c.loop-subtable.invariant.exact plain before o
          (left_others (nested task.depth a) a task.place (glyph_at c.info.result.now task.place).glyph_id ts i one old first o
          c.loop-subtable-test.true c.subtable-item.is (c.try_subtable-next.ensures.exact plain steps)
          (sym c.is_some.ensures ∙ c.if-is_some.false) rest);
    }

pub place_by_lookup-try_subtable-next-requires : goal.place_by_lookup-try_subtable-next-requires
place_by_lookup-try_subtable-next-requires g t c =
    let task = c.args.task.now in
    let list = task.setting.now.list.now in
    let less : 5 * task.depth + 3 < t = omega (arith, c.decreases) in
    let within : task.place < length c.loop-subtable.buffer.input =
    omega (
      arith,
      c.len.ensures.len,
      len_closed c.args.buffer.now c.requires.placed.closed,
      same_length c.args.buffer.now c.loop-subtable.buffer c.loop-subtable.invariant.kept.rest,
    ) in
    let next = next_of_each list.coverages.items list.subtables.items c.subtables_of-subtables.result.now task.applied.now.lookup.now
    c.loop-subtable.subtable-index c.subtable-item.result c.subtables_of-subtables.ensures list.nexts c.loop-subtable-test.true
    c.subtable-item.is in
    first_of (search (rules, less, within, next), assumption (less, within, next), grind (arith, less, within, next))

pub place_by_lookup-returns-then-is_some-clause-exact : goal.place_by_lookup-returns-then-is_some-clause-exact
place_by_lookup-returns-then-is_some-clause-exact g t c = λ plain steps.
    let task = c.args.task.now in
    let setting = task.setting.now in
    let a = applied setting.list.now task.applied.now.lookup.now task.options.now setting.instance in
    let ts = c.subtables_of-subtables.result.now in
    let before : 0 < c.loop-subtable.search.budget.steps = omega (arith, steps, c.try_subtable-next.ensures.spent.1) in
    let old = text_of c.args.buffer.now c.args.last.now c.args.search.now.budget.nested in
    let mid = text_of c.loop-subtable.buffer c.loop-subtable.last c.loop-subtable.search.budget.nested in
    let o = outcome
    (text_of c.try_subtable-next.new.buffer c.try_subtable-next.new.last c.try_subtable-next.new.search.budget.nested)
    c.try_subtable-next.result in
    let within : task.place < length c.info.result.now =
    omega (arith, ap length c.info.ensures, c.len.ensures.len, len_closed c.args.buffer.now c.requires.placed.closed) in
    tried_at (nested task.depth a) a task.place c.info.result.now ts old o c.info.ensures c.subtables_of-subtables.ensures within
    (c.loop-subtable.invariant.exact plain before o
    (left_first (nested task.depth a) a task.place (glyph_at c.info.result.now task.place).glyph_id ts
    c.loop-subtable.subtable-index c.subtable-item.result mid o
    c.loop-subtable-test.true c.subtable-item.is (c.try_subtable-next.ensures.exact plain steps)
    (sym c.is_some.ensures ∙ c.if-is_some.true)))

pub place_by_lookup-returns-clause-exact : goal.place_by_lookup-returns-clause-exact
place_by_lookup-returns-clause-exact g t c = λ plain steps.
    let task = c.args.task.now in
    let setting = task.setting.now in
    let a = applied setting.list.now task.applied.now.lookup.now task.options.now setting.instance in
    let ts = c.subtables_of-subtables.result.now in
    let old = text_of c.args.buffer.now c.args.last.now c.args.search.now.budget.nested in
    let mid = text_of c.loop-subtable.buffer c.loop-subtable.last c.loop-subtable.search.budget.nested in
    let within : task.place < length c.info.result.now =
    omega (arith, ap length c.info.ensures, c.len.ensures.len, len_closed c.args.buffer.now c.requires.placed.closed) in
    tried_at (nested task.depth a) a task.place c.info.result.now ts old (outcome mid None) c.info.ensures
    c.subtables_of-subtables.ensures within
    (c.loop-subtable.invariant.exact plain steps (outcome mid None)
    (left_none (nested task.depth a) a task.place (glyph_at c.info.result.now task.place).glyph_id ts
    c.loop-subtable.subtable-index mid c.loop-subtable-test.false))

-- ---- one subtable

pub try_subtable-returns-then-not-may_be_for-clause-exact : goal.try_subtable-returns-then-not-may_be_for-clause-exact
try_subtable-returns-then-not-may_be_for-clause-exact g t c = λ plain steps.
    let task = c.args.task.now in
    let setting = task.setting.now in
    let a = applied setting.list.now task.applied.now.lookup.now task.options.now setting.instance in
    let old = text_of c.args.buffer.now c.args.last.now c.args.search.now.budget.nested in
    one_uncovered (nested task.depth a) a task.place c.args.glyph c.args.subtable.now old (outcome old None)
    (uncovered _ _ c.may_be_for.ensures c.if-not-may_be_for.true) refl

pub try_subtable-returns-then-not-pay-clause-exact : goal.try_subtable-returns-then-not-pay-clause-exact
try_subtable-returns-then-not-pay-clause-exact g t c = λ plain steps.
    absurd (omega (arith, steps, c.pay.ensures.empty c.if-not-pay.true))

pub try_subtable-returns-in_err-index-clause-exact : goal.try_subtable-returns-in_err-index-clause-exact
try_subtable-returns-in_err-index-clause-exact g t c = λ plain steps.
    let task = c.args.task.now in
    let setting = task.setting.now in
    let a = applied setting.list.now task.applied.now.lookup.now task.options.now setting.instance in
    let old = text_of c.args.buffer.now c.args.last.now c.args.search.now.budget.nested in
    let paid = text_of c.args.buffer.now c.args.last.now c.pay.new.self.nested in
    one_uncovered (nested task.depth a) a task.place c.args.glyph c.args.subtable.now old (outcome paid c.from_residual.result)
    (sym c.index_in.ensures ∙ c.in_err-index.was)
    (ap (outcome paid) c.from_residual.ensures
    ∙ ap (λ (x : Text). outcome x None)
    (text_of-same c.args.buffer.now c.args.buffer.now c.args.last.now c.args.search.now.budget.nested c.pay.new.self.nested refl
    (ap (λ (b : Budget). b.nested) c.pay.ensures.left)))

pub try_subtable-returns-clause-exact : goal.try_subtable-returns-clause-exact
try_subtable-returns-clause-exact g t c = λ plain steps.
    let task = c.args.task.now in
    let setting = task.setting.now in
    let a = applied setting.list.now task.applied.now.lookup.now task.options.now setting.instance in
    let old = text_of c.args.buffer.now c.args.last.now c.args.search.now.budget.nested in
    let o = outcome
    (text_of c.place_by_subtable.new.buffer c.place_by_subtable.new.last c.place_by_subtable.new.search.budget.nested)
    c.place_by_subtable.result in
    let iterator = task.applied.now.iterator in
    let visit = visit_with a task.place c.args.subtable.now c.in_ok-index.index iterator in
    one_covered (nested task.depth a) a task.place c.args.glyph c.args.subtable.now c.in_ok-index.index visit old o
    (sym c.index_in.ensures ∙ c.in_ok-index.was)
    (visit_with-is a task.place c.args.subtable.now c.in_ok-index.index iterator task.made.iterator)
    (subst (λ (x : Text). IsVisited (nested task.depth a) a visit x o)
    (text_of-same c.args.buffer.now c.args.buffer.now c.args.last.now c.args.search.now.budget.nested c.pay.new.self.nested refl
    (ap (λ (b : Budget). b.nested) c.pay.ensures.left)) (c.place_by_subtable.ensures.exact plain plain steps))

-- ---- a context

pub place_by_context-returns-in_err-fit-clause-exact : goal.place_by_context-returns-in_err-fit-clause-exact
place_by_context-returns-in_err-fit-clause-exact g t c = λ plain steps.
    let list = c.args.task.now.setting.now.list.now in
    let turn = c.args.context.now in
    let s = c.args.buffer.now in
    let left = c.args.search.now.budget.nested in
    let q = c.fit_at-fit.new.search in
    let b = c.mark_concat.new.buffer in
    record {
      found = None;
      places = q.places.items;
      reach = q.reach;
      decided = decided_read list (visit_of turn) c.args.task.now.applied.now.context _ c.info.result.now s.input q.places.items None
          c.fit_at-fit.result c.args.task.now.made.context c.info.ensures c.in_err-fit.was (c.fit_at-fit.ensures.decided steps);
      made = ap (outcome (text_of b c.args.last.now q.budget.nested)) c.from_residual.ensures
          ∙ ap (λ (x : Text). outcome x None)
          (text_of-same (looked_at turn.place q.reach s) b c.args.last.now left q.budget.nested
          (concat_to q.reach.from c.saturating_add-reached.result (ahead turn.place q.reach.to) s b c.mark_concat.ensures.is
          c.saturating_add-reached.ensures) c.fit_at-fit.ensures.same_left);
    }

pub place_by_context-returns-clause-exact : goal.place_by_context-returns-clause-exact
place_by_context-returns-clause-exact g t c = λ plain steps.
    let task = c.args.task.now in
    let setting = task.setting.now in
    let list = setting.list.now in
    let a = applied list task.applied.now.lookup.now task.options.now setting.instance in
    let turn = c.args.context.now in
    let s = c.args.buffer.now in
    let last = c.args.last.now in
    let left = c.args.search.now.budget.nested in
    let q = c.fit_at-fit.new.search in
    let fit = c.in_ok-fit.fit in
    let places = q.places.items in
    let looked = looked_at turn.place q.reach s in
    let applies = nested task.depth a in
    let b = c.mark_concat.new.buffer in
    let d = c.mark_break.new.buffer in
    let old = text_of looked last left in
    let mid = text_of c.apply_records.new.buffer c.apply_records.new.last c.apply_records.new.search.budget.nested in
    let before : 0 < q.budget.steps = omega (arith, steps, c.apply_records.ensures.spent.1) in
    let moved : c.replace-places.result.items ≡ places = rw c.replace-places.ensures.value refl in
    let is_looked = concat_to q.reach.from c.saturating_add-reached.result (ahead turn.place q.reach.to) s b
    c.mark_concat.ensures.is c.saturating_add-reached.ensures in
    let is_marked = break_to fit.from c.saturating_add.result (ahead turn.place fit.to) b d c.mark_break.ensures.is
    c.saturating_add.ensures ∙ ap (break_marked fit.from (ahead turn.place fit.to)) is_looked in
    record {
      found = Some fit;
      places = places;
      reach = q.reach;
      decided = decided_read list (visit_of turn) c.args.task.now.applied.now.context _ c.info.result.now s.input places (Some fit)
          c.fit_at-fit.result c.args.task.now.made.context c.info.ensures c.in_ok-fit.was (c.fit_at-fit.ensures.decided before);
      made = fit_done applies list.lookups.items turn.place places fit old mid c.mark_concat-2.new.buffer c.saturating_add-end.result
          c.saturating_add-2.result
          (records_at applies list.lookups.items turn.place places fit task.place c.replace-places.result.items
          (record old { buffer = break_marked fit.from (ahead turn.place fit.to) looked })
          (text_of d last q.budget.nested) mid (sym c.requires.place) moved
          (text_of-same (break_marked fit.from (ahead turn.place fit.to) looked) d last left q.budget.nested is_marked
          c.fit_at-fit.ensures.same_left) (c.apply_records.ensures.exact plain steps))
          c.mark_concat-2.ensures.is c.saturating_add-end.ensures c.saturating_add-2.ensures;
    }

-- ---- the records of a rule

pub apply_records-loop-index-init : goal.apply_records-loop-index-init
apply_records-loop-index-init g t c =
    let task = c.args.task.now in
    let setting = task.setting.now in
    let a = applied setting.list.now task.applied.now.lookup.now task.options.now setting.instance in
    record {
      kept = kept_none _ c.requires.placed;
      spent = (omega arith, omega arith);
      exact = λ plain steps.
          done_none
          (record_done (nested task.depth a) setting.list.now.lookups.items c.args.fit.now.records.now task.place
          c.args.places.now.items) (text_of c.args.buffer.now c.args.last.now c.args.search.now.budget.nested);
    }

pub apply_records-returns-clause-exact : goal.apply_records-returns-clause-exact
apply_records-returns-clause-exact g t c = λ plain steps.
    let task = c.args.task.now in
    let setting = task.setting.now in
    let a = applied setting.list.now task.applied.now.lookup.now task.options.now setting.instance in
    let fit = c.args.fit.now in
    let e : c.loop-index.index ≡ fit.record_count = omega arith in
    subst
    (λ (k : ℕ). AreDone
    (record_done (nested task.depth a) setting.list.now.lookups.items fit.records.now task.place c.args.places.now.items) k
    (text_of c.args.buffer.now c.args.last.now c.args.search.now.budget.nested)
    (text_of c.loop-index.buffer c.loop-index.last c.loop-index.search.budget.nested)) e (c.loop-index.invariant.exact plain steps)

pub apply_records-loop-index-preserved : goal.apply_records-loop-index-preserved
apply_records-loop-index-preserved g t c =
    let task = c.args.task.now in
    let setting = task.setting.now in
    let a = applied setting.list.now task.applied.now.lookup.now task.options.now setting.instance in
    let lookups = setting.list.now.lookups.items in
    let records = c.args.fit.now.records.now in
    let places = c.args.places.now.items in
    let k = c.loop-index.index in
    let p = c.loop-index.search in
    let does = record_done (nested task.depth a) lookups records task.place places in
    let old = text_of c.args.buffer.now c.args.last.now c.args.search.now.budget.nested in
    let mid = text_of c.loop-index.buffer c.loop-index.last p.budget.nested in
    elim c.match-nested_lookup.branch [
      | apply_records-in-Some+else-task-eq0+else-not-nest w ↦
          let lookup = w.new-applied.result.lookup.now in
          let place = w.in-Some.place in
          let b = applied setting.list.now lookup task.options.now setting.instance in
          let is : named lookups records task.place places k ≡ Some (target lookup place) =
          w.in-Some.ensures.some ∙ ap (λ (l : Lookup). Some (target l place)) (sym w.new-applied.ensures.lookup) in
          let call = w.place_by_lookup-next in
          let end = text_of call.new.buffer call.new.last call.new.search.budget.nested in
          rw (w.buffer-is, w.last-is, w.search-is)
          (record {
            kept = kept_then _ _ _ c.loop-index.invariant.kept call.ensures.kept;
            spent = (
              omega (arith, c.loop-index.invariant.spent.0, w.nest.ensures.spent.0, call.ensures.spent.0),
              omega (arith, c.loop-index.invariant.spent.1, w.nest.ensures.spent.1, call.ensures.spent.1),
            );
            exact = λ plain steps.
                let before : 0 < p.budget.steps = omega (arith, steps, w.nest.ensures.spent.1, call.ensures.spent.1) in
                done_next does k old mid end (c.loop-index.invariant.exact plain before)
                (record_tried a task.depth lookups records task.place places k lookup place (task.depth - 1) b mid
                (text_of c.loop-index.buffer c.loop-index.last w.nest.new.self.nested) (outcome end call.result) is refl refl
                (ap (λ (x : Budget). text_of c.loop-index.buffer c.loop-index.last x.nested) w.nest.ensures.left)
                (omega (arith, w.if-task-eq0.false)) (w.nest.ensures.paid.0 w.if-not-nest.false) (call.ensures.exact plain steps));
          })
      | apply_records-in_default w ↦
          rw (w.buffer-is, w.last-is, w.search-is)
          (record {
            kept = c.loop-index.invariant.kept;
            spent = c.loop-index.invariant.spent;
            exact = λ plain steps.
                done_next does k old mid mid (c.loop-index.invariant.exact plain steps)
                (record_none (nested task.depth a) (named lookups records task.place places k) mid
                (none_given c.nested_lookup.result (named lookups records task.place places k ≡ None) w.in_default.is
                c.nested_lookup.ensures.none));
          })
    ]

pub apply_records-returns-then-task-eq0-clause-exact : goal.apply_records-returns-then-task-eq0-clause-exact
apply_records-returns-then-task-eq0-clause-exact g t c = λ plain steps.
    let task = c.args.task.now in
    let setting = task.setting.now in
    let a = applied setting.list.now task.applied.now.lookup.now task.options.now setting.instance in
    let lookups = setting.list.now.lookups.items in
    let fit = c.args.fit.now in
    let places = c.args.places.now.items in
    let n = c.in-Some in
    let p = c.loop-index.search in
    let q = c.then-task-eq0.search in
    let s = c.loop-index.buffer in
    let last = c.loop-index.last in
    let failed : State = record s { shaping_failed = true } in
    let old = text_of c.args.buffer.now c.args.last.now c.args.search.now.budget.nested in
    let mid = text_of s last p.budget.nested in
    let end = text_of c.fail.new.buffer last q.budget.nested in
    let less : c.loop-index.index < fit.record_count = omega (arith, c.loop-index-test.true, c.from-index-end.ensures) in
    elim c.then-task-eq0.branch [
      | apply_records-then-task-eq0-via-then-task-eq0 w ↦
          let before : 0 < p.budget.steps = omega (arith, steps, ap (λ (x : Search). x.budget.steps) w.search-is) in
          rest_given_up a task.depth lookups fit.records.now task.place places c.loop-index.index fit.record_count n.lookup.now
          n.place old mid end less (c.loop-index.invariant.exact plain before) c.in-Some.ensures.some
          (text_of-same failed c.fail.new.buffer last p.budget.nested q.budget.nested c.fail.ensures.is
          (ap (λ (x : Search). x.budget.nested) w.search-is))
          (λ deep. absurd (omega (arith, deep, w.if-task-eq0.true)))
      | apply_records-then-task-eq0-via-else-task-eq0+then-not-nest w ↦
          let before : 0 < p.budget.steps =
          omega (arith, steps, w.nest.ensures.spent.1, ap (λ (x : Search). x.budget.steps) w.search-is) in
          let none : p.budget.nested ≡ 0 =
          none_left p.budget.nested w.nest.result w.nest.ensures.paid.1 w.if-not-nest.true in
          let left : w.nest.new.self.nested ≡ p.budget.nested - 1 = ap (λ (x : Budget). x.nested) w.nest.ensures.left in
          let same : w.nest.new.self.nested ≡ p.budget.nested = omega (arith, none, left) in
          rest_given_up a task.depth lookups fit.records.now task.place places c.loop-index.index fit.record_count n.lookup.now
          n.place old mid end less (c.loop-index.invariant.exact plain before) c.in-Some.ensures.some
          (text_of-same failed c.fail.new.buffer last p.budget.nested q.budget.nested c.fail.ensures.is
          (ap (λ (x : Search). x.budget.nested) w.search-is ∙ same)) (λ deep. none)
    ]
