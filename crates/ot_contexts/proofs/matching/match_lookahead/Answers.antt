use Rattle.std.proofs.Common.{◌∙◌, ◌==◌, ◌-◌, ℕ, Option, arith, rules, sym}
use Rattle.ot_contexts.specs.Match.{next_place}
use Rattle.ot_contexts.specs.Rule.{sequence_matcher}
use Rattle.ot_layout.specs.declared.matcher.Matcher.{Matcher}
use Rattle.ot_contexts.specs.Reach.{next_end}
use Rattle.ot_contexts.proofs.AroundLemmas.{option_map-none, steps_from-none, steps_from-more, steps_from-missing}
use Rattle.ot_contexts.proofs.ReachLemmas.{looked_from-missing}
use Rattle.ot_contexts.proofs.matching.match_lookahead.Goals as goal
use Rattle.ot_layout.specs.ApplyContext.{context_iterator}

pub returns-in-Err-clause-misses : goal.returns-in-Err-clause-misses
returns-in-Err-clause-misses c some =
    let step = λ (matcher : Option Matcher) (place : ℕ). next_place (context_iterator c.args.ctx.now (c.args.end == 1)) matcher c.args.ctx.now.input.now place in
    let missing = rw c.context_iterator-iterator.ensures at (c.in-Err.ensures.missed some) in
    option_map-none _ (steps_from-missing step (sequence_matcher c.args.part.now) (c.args.end - 1) c.args.part.now.count c.loop-index.index
    c.loop-index.place c.loop-index.invariant.steps c.loop-index-test.true missing)

pub returns-in-Err-clause-looked : goal.returns-in-Err-clause-looked
returns-in-Err-clause-looked c some =
    let ctx = c.args.ctx.now in
    let step = λ (matcher : Option Matcher) (place : ℕ). next_place (context_iterator ctx (c.args.end == 1)) matcher ctx.input.now place in
    let looks = λ (matcher : Option Matcher) (place : ℕ). next_end (context_iterator ctx (c.args.end == 1)) matcher ctx.input.now place in
    let missing = rw c.context_iterator-iterator.ensures at (c.in-Err.ensures.missed some) in
    let looked = rw c.context_iterator-iterator.ensures at (c.in-Err.ensures.looked some) in
    looked ∙ sym (looked_from-missing step looks (sequence_matcher c.args.part.now) (c.args.end - 1) c.args.part.now.count
    c.loop-index.index c.loop-index.place c.loop-index.invariant.steps c.loop-index-test.true missing)

pub loop-index-preserved : goal.loop-index-preserved
loop-index-preserved c =
    let step = λ (matcher : Option Matcher) (place : ℕ). next_place (context_iterator c.args.ctx.now (c.args.end == 1)) matcher c.args.ctx.now.input.now place in
    let found = rw c.context_iterator-iterator.ensures at c.in-Ok.ensures.found in
    record {
      within = search rules;
      backtrack = omega (arith, c.in-Ok.ensures.next);
      spent = search rules;
      reach = search rules;
      places = search rules;
      steps = steps_from-more step (sequence_matcher c.args.part.now) (c.args.end - 1) c.loop-index.index c.loop-index.place c.in-Ok.next
          c.loop-index.invariant.steps found;
    }

pub loop-index-init : goal.loop-index-init
loop-index-init c =
    let step = λ (matcher : Option Matcher) (place : ℕ). next_place (context_iterator c.args.ctx.now (c.args.end == 1)) matcher c.args.ctx.now.input.now place in
    record {
      within = omega arith;
      backtrack = omega arith;
      spent = search rules;
      reach = search rules;
      places = search rules;
      steps = steps_from-none step (sequence_matcher c.args.part.now) (c.args.end - 1);
    }
