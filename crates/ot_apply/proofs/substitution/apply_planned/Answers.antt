use Rattle.std.proofs.Common.{◌≡◌, ◌<◌, Bool, true, Option, Result, Ok, ap, subst, sym, ◌∙◌}
use Rattle.std.specs.Prelude.{slice_get}
use Rattle.std.specs.declared.alloc.AllocError.{AllocError}
use Rattle.ot_lookups.specs.declared.lookup_list.Lookup.{Lookup}
use Rattle.ot_layout.specs.Budget.{IsNotMore}
use Rattle.ot_layout.specs.declared.search.Search.{Search}
use Rattle.ot_gsub.specs.Nested.{Now, now_of}
use Rattle.ot_gsub.specs.Runs.{IsRun}
use Rattle.ot_apply.proofs.RunLemmas.{met_after, now_of-same, passed_by}
use Rattle.ot_apply.proofs.substitution.apply_planned.Goals as goal

pub returns-then-not-may_apply-clause-run : goal.returns-then-not-may_apply-clause-run
returns-then-not-may_apply-clause-run c = λ is steps.
    let subs = c.substitutions_of-substitutions.result in
    record {
      substitutions = subs;
      list = c.substitutions_of-substitutions.ensures.list;
      gdef = c.substitutions_of-substitutions.ensures.gdef;
      options = c.substitutions_of-substitutions.ensures.options;
      run = passed_by subs (slice_get subs.list.now.lookups.items c.args.planned.now.index) c.args.glyphs.now
          (now_of c.args.buffer.now c.args.progress.now)
          (λ lookup there. c.may_apply.ensures lookup there c.if-not-may_apply.true) c.requires.seen.met;
    }

pub returns-clause-run : goal.returns-clause-run
returns-clause-run c = λ is steps.
    let subs = c.substitutions_of-substitutions.result in
    let old = now_of c.args.buffer.now c.args.progress.now in
    let new = c.substitute.new.buffer in
    let q = c.substitute.new.progress in
    let lookup : Option Lookup = slice_get subs.list.now.lookups.items c.args.planned.now.index in
    let was : c.substitute.result ≡ Ok true = c.in_ok-substitute.was ∙ ap (λ (d : Bool). Ok d) c.if-not-branch.false in
    let left : 0 < q.search.budget.steps = subst (λ (x : Search). 0 < x.budget.steps) c.see_changes.ensures.same_search steps in
    let same = now_of-same new q c.see_changes.new.progress c.see_changes.ensures.same_search c.see_changes.ensures.same_random in
    record {
      substitutions = subs;
      list = c.substitutions_of-substitutions.ensures.list;
      gdef = c.substitutions_of-substitutions.ensures.gdef;
      options = c.substitutions_of-substitutions.ensures.options;
      run = subst (λ (n : Now). IsRun subs lookup old (Ok true) n) (sym same)
          (subst (λ (r : Result Bool AllocError). IsRun subs lookup old r (now_of new q)) was (c.substitute.ensures.run left));
    }

-- where no change is told the glyphs have the same numbers as before
pub returns-clause-seen : goal.returns-clause-seen
returns-clause-seen c = λ is.
    let was : c.substitute.result ≡ Ok true = c.in_ok-substitute.was ∙ ap (λ (d : Bool). Ok d) c.if-not-branch.false in
    record {
      met = c.see_changes.ensures.met
          (λ none. met_after c.args.glyphs.now c.args.buffer.now c.substitute.new.buffer (c.out_len.ensures.closed c.requires.closed)
          ((c.substitute.ensures.tells was).same none) c.requires.seen.met);
      unchanged = c.see_changes.ensures.unchanged;
    }

pub returns-clause-spent : goal.returns-clause-spent
returns-clause-spent c =
    subst (λ (x : Search). IsNotMore c.args.progress.now.search.budget x.budget) (sym c.see_changes.ensures.same_search)
    c.substitute.ensures.spent
