use Rattle.std.proofs.Common.{◌≡◌, ◌∙◌, true, false, arith, rules, sym}
use Rattle.std.proofs.lemmas.Grind.{common_steps}
use Rattle.ot_contexts.specs.Match.{joins}
use Rattle.ot_contexts.proofs.MatchLemmas.{match_end-never, last_place-missing, last_place-apart, last_place-more, match_places-more}
use Rattle.ot_contexts.proofs.ReachLemmas.{end_position-within, joined_end-apart, joined_end-missing}
use Rattle.ot_contexts.proofs.matching.match_input.Goals as goal

pub returns-in-Err-clause-misses : goal.returns-in-Err-clause-misses
returns-in-Err-clause-misses c some =
    let missing = rw c.input_iterator-iterator.ensures at (c.in-Err.ensures.missed some) in
    match_end-never _ _ _ (last_place-missing _ _ _ _ _ c.loop-index.invariant.last (omega arith) missing)

pub returns-then-not-may_stand-clause-misses : goal.returns-then-not-may_stand-clause-misses
returns-then-not-may_stand-clause-misses c some =
    let found = rw c.input_iterator-iterator.ensures at c.in-Ok.ensures.found in
    let apart : joins c.args.ctx.now c.in-Ok.next ≡ false = c.may_stand.ensures.apart some c.if-not-may_stand.true in
    match_end-never _ _ _ (last_place-apart _ _ _ _ _ _ c.loop-index.invariant.last (omega arith) found apart)

pub returns-in-Err-clause-looked : goal.returns-in-Err-clause-looked
returns-in-Err-clause-looked c some =
    let missing = rw c.input_iterator-iterator.ensures at (c.in-Err.ensures.missed some) in
    let looked = rw c.input_iterator-iterator.ensures at (c.in-Err.ensures.looked some) in
    looked ∙ sym (end_position-within _ _ _ _ (omega arith)
    (joined_end-missing _ _ _ _ _ c.loop-index.invariant.last (omega arith) missing))

pub returns-then-not-may_stand-clause-looked : goal.returns-then-not-may_stand-clause-looked
returns-then-not-may_stand-clause-looked c some =
    let found = rw c.input_iterator-iterator.ensures at c.in-Ok.ensures.found in
    let apart : joins c.args.ctx.now c.in-Ok.next ≡ false = c.may_stand.ensures.apart some c.if-not-may_stand.true in
    sym (end_position-within _ _ _ _ (omega arith)
    (joined_end-apart _ _ _ _ _ _ c.loop-index.invariant.last (omega arith) found apart))

pub loop-index-preserved : goal.loop-index-preserved
loop-index-preserved c =
    let found = rw c.input_iterator-iterator.ensures at c.in-Ok.ensures.found in
    let joining : joins c.args.ctx.now c.in-Ok.next ≡ true = c.may_stand.ensures.joins c.if-not-may_stand.false in
    let last = last_place-more _ _ _ _ _ c.loop-index.invariant.last found joining in
    record {
      within = search rules;
      spent = search rules;
      reach = search rules;
      inside = grind (arith, common_steps);
      count = search rules;
      places = grind (arith, common_steps);
      last = last;
      all = c.push-in-loop-index.ensures.items ∙ match_places-more _ _ _ _ _ last c.loop-index.invariant.all;
      leaves = search rules;
      first = grind (arith, common_steps);
      place = grind (arith, common_steps);
    }
