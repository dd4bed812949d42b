use Rattle.std.proofs.Common.{◌≡◌, ℕ, ◌+◌, ◌<◌, ◌≤◌, List, Option, length, max, refl, sym, ap, subst, ◌∙◌, arith}
use Rattle.std.specs.Option.{option_copied}
use Rattle.rb_glyph.specs.declared.info.hb_glyph_info_t.{hb_glyph_info_t}
use Rattle.ot_layout.specs.declared.budget.Budget.{Budget}
use Rattle.ot_lookups.specs.Lookup.{is_for}
use Rattle.ot_lookups.specs.LookupProps.{glyph_at}
use Rattle.ot_lookups.specs.declared.lookup_list.Lookup.{Lookup}
use Rattle.ot_attachments.proofs.KeptLemmas.{kept_none, kept_then}
use Rattle.ot_gpos.specs.Attachments.{nothing_sought}
use Rattle.ot_gpos.specs.Lookups.{applied, outcome, text_of}
use Rattle.ot_gpos.specs.Nested.{IsTried}
use Rattle.ot_gpos.specs.Runs.{IsPositioned, IsPositionedBy}
use Rattle.ot_gpos.specs.declared.marks.LastBase.{LastBase}
use Rattle.ot_gpos.proofs.RunsLemmas.{IsUnderWay, len_closed, same_length, under_way-end, under_way-first, under_way-next}
use Rattle.ot_gpos.proofs.lookups.place_all.Goals as goal
use Rattle.ot_gpos.proofs.lookups.place_all.Goals.{then-place-len-via-then-place-len}
use Rattle.ot_gpos.proofs.lookups.place_all.Goals.{then-place-len-via-else-place-len+then-is_spent}

pub returns-in_default-clause-exact : goal.returns-in_default-clause-exact
returns-in_default-clause-exact g c = λ plain steps.
    let setting = c.args.setting.now in
    let left = c.args.search.now.budget.nested in
    subst
    (λ (o : Option Lookup). IsPositioned setting.list.now o c.args.options.now setting.instance left c.args.buffer.now left
    c.args.buffer.now) (sym (ap option_copied c.in_default.is) ∙ c.lookup.ensures) (refl, refl)

pub loop-turn-init : goal.loop-turn-init
loop-turn-init g c = record {
  kept = kept_none _ c.requires.placed;
  spent = (omega (arith, c.pay_for.ensures.spent.0), omega (arith, c.pay_for.ensures.spent.1));
  far = omega arith;
  exact = λ plain steps.
      let a = applied c.args.setting.now.list.now c.in-Some.lookup.now c.args.options.now c.args.setting.now.instance in
      let s = c.args.buffer.now in
      let left = c.args.search.now.budget.nested in
      let old = text_of s nothing_sought left in
      subst (λ (n : ℕ). IsUnderWay a old 0 (text_of s c.none-last.result n)) (sym (ap (λ (b : Budget). b.nested) c.pay_for.ensures.left))
      (subst (λ (l : LastBase). IsUnderWay a old 0 (text_of s l left)) (sym c.none-last.ensures) (under_way-first a old));
}

pub loop-turn-preserved : goal.loop-turn-preserved
loop-turn-preserved g c =
    let a = applied c.args.setting.now.list.now c.in-Some.lookup.now c.args.options.now c.args.setting.now.instance in
    let s = c.args.buffer.now in
    let b = c.loop-turn.buffer in
    let gs = c.info.result.now in
    let place = c.next_place-place.result in
    let same : length b.input ≡ length s.input = same_length s b c.loop-turn.invariant.kept.rest in
    let read : length gs ≡ length b.input = ap length c.info.ensures in
    let within : place < length gs =
    omega (arith, read, c.next_place-place.ensures.within, c.if-place-len.false, c.len-in-loop-turn.ensures.len, len_closed b c.loop-turn.invariant.kept.placed.closed) in
    record {
      kept = kept_then _ _ _ c.loop-turn.invariant.kept c.place_by_lookup.ensures.kept;
      spent = (
        omega (arith, c.loop-turn.invariant.spent.0, c.place_by_lookup.ensures.spent.0),
        omega (arith, c.loop-turn.invariant.spent.1, c.place_by_lookup.ensures.spent.1),
      );
      far = omega (
        arith,
        same,
        read,
        within,
        c.loop-turn.invariant.far,
        c.next_place-place.ensures.from,
        c.loop-turn-test.true,
        c.len-turn-end.ensures.len,
        len_closed s c.requires.placed.closed,
        c.max-next.ensures,
      );
      exact = λ plain steps.
          let before : 0 < c.loop-turn.search.budget.steps = omega (arith, steps, c.place_by_lookup.ensures.spent.1) in
          let old = text_of s nothing_sought c.args.search.now.budget.nested in
          let mid = text_of b c.loop-turn.last c.loop-turn.search.budget.nested in
          let o = outcome
          (text_of c.place_by_lookup.new.buffer c.place_by_lookup.new.last c.place_by_lookup.new.search.budget.nested)
          c.place_by_lookup.result in
          under_way-next a old c.loop-turn.next place c.max-next.result mid gs o
          (c.loop-turn.invariant.exact plain before) same c.info.ensures c.next_place-place.ensures.from within
          c.next_place-place.ensures.passed (c.next_place-place.ensures.at within)
          (subst
          (λ (l : Lookup). IsTried 64 (applied c.args.setting.now.list.now l c.args.options.now c.args.setting.now.instance) place mid o)
          c.new-applied.ensures.lookup (c.place_by_lookup.ensures.exact plain steps))
          (c.max-next.ensures ∙ ap (λ (n : ℕ). max n (place + 1)) c.unwrap_or.ensures);
    }

pub returns-then-place-len-clause-exact : goal.returns-then-place-len-clause-exact
returns-then-place-len-clause-exact g c = λ plain steps.
    let a = applied c.args.setting.now.list.now c.in-Some.lookup.now c.args.options.now c.args.setting.now.instance in
    let s = c.args.buffer.now in
    let b = c.loop-turn.buffer in
    let old = text_of s nothing_sought c.args.search.now.budget.nested in
    let mid = text_of b c.loop-turn.last c.loop-turn.search.budget.nested in
    let same : length b.input ≡ length s.input = same_length s b c.loop-turn.invariant.kept.rest in
    let left = c.args.search.now.budget.nested in
    let rest = c.loop-turn.search.budget.nested in
    let done : IsPositionedBy a left s rest b =
    elim c.then-place-len.branch [
      | then-place-len-via-then-place-len w ↦ record {
        last = c.loop-turn.last;
        next = c.loop-turn.next;
        done = under_way-end a old c.loop-turn.next mid (c.loop-turn.invariant.exact plain steps) same
            (λ k up less.
            let before : k < c.next_place-place.result =
            omega (arith, less, w.if-place-len.true, c.len-in-loop-turn.ensures.len, len_closed b c.loop-turn.invariant.kept.placed.closed) in
            ap (λ (l : List hb_glyph_info_t). is_for c.in-Some.lookup.now c.args.options.now.mask (glyph_at l k))
            (sym c.info.ensures)
            ∙ c.next_place-place.ensures.passed k up before);
      }
      | then-place-len-via-else-place-len+then-is_spent w ↦ absurd (omega (arith, steps, w.is_spent.ensures.spent w.if-is_spent.true))
    ] in
    subst (λ (o : Option Lookup). IsPositioned c.args.setting.now.list.now o c.args.options.now c.args.setting.now.instance left s rest b)
    c.in-Some.ensures done

pub returns-clause-exact : goal.returns-clause-exact
returns-clause-exact g c = λ plain steps.
    let a = applied c.args.setting.now.list.now c.in-Some.lookup.now c.args.options.now c.args.setting.now.instance in
    let s = c.args.buffer.now in
    let b = c.loop-turn.buffer in
    let old = text_of s nothing_sought c.args.search.now.budget.nested in
    let same : length b.input ≡ length s.input = same_length s b c.loop-turn.invariant.kept.rest in
    let all : length s.input ≤ c.loop-turn.next =
    omega (arith, c.loop-turn.invariant.far, c.loop-turn-test.false, c.len-turn-end.ensures.len, len_closed s c.requires.placed.closed) in
    let left = c.args.search.now.budget.nested in
    let rest = c.loop-turn.search.budget.nested in
    let done : IsPositionedBy a left s rest b =
    record {
      last = c.loop-turn.last;
      next = c.loop-turn.next;
      done = under_way-end a old c.loop-turn.next (text_of b c.loop-turn.last rest) (c.loop-turn.invariant.exact plain steps) same
          (λ k up less. absurd (omega (arith, all, up, less, same)));
    } in
    subst (λ (o : Option Lookup). IsPositioned c.args.setting.now.list.now o c.args.options.now c.args.setting.now.instance left s rest b)
    c.in-Some.ensures done
