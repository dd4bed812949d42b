use Rattle.std.proofs.Common.{◌∙◌, ap, length, refl, sym}
use Rattle.ot_contexts.specs.Pattern.{pattern_of}
use Rattle.ot_contexts.specs.Reach.{extended}
use Rattle.ot_contexts.proofs.PatternLemmas.{pattern_fits-lookahead, pattern_fits-here}
use Rattle.ot_contexts.proofs.ReachLemmas.{extended_by, missed_range-backtrack, missed_range-input, missed_range-lookahead, missed_range-none}
use Rattle.ot_contexts.proofs.rule_set.fit.Goals as goal

pub returns-in-Err-match_lookahead-clause-exact : goal.returns-in-Err-match_lookahead-clause-exact
returns-in-Err-match_lookahead-clause-exact c some =
    sym (pattern_fits-lookahead c.args.ctx.now (pattern_of c.args.rule.now) c.in-Ok.end c.in-Ok.ensures.fits
    (c.in-Err-match_lookahead.ensures.misses some))

pub returns-in-Ok-match_backtrack-clause-exact : goal.returns-in-Ok-match_backtrack-clause-exact
returns-in-Ok-match_backtrack-clause-exact c some =
    sym (pattern_fits-here c.args.ctx.now (pattern_of c.args.rule.now) c.in-Ok.end c.in-Ok-match_lookahead.to
    c.in-Ok-match_backtrack.from c.in-Ok.ensures.fits c.in-Ok-match_lookahead.ensures.fits c.in-Ok-match_backtrack.ensures.fits)

pub returns-in-Err-clause-looked : goal.returns-in-Err-clause-looked
returns-in-Err-clause-looked c some =
    let ctx = c.args.ctx.now in
    extended_by _ c.match_input.new.search.reach c.args.search.now.reach _ (length ctx.out.now) c.in-Err.to (length ctx.out.now) _
    c.extend.ensures c.match_input.ensures.same_reach refl (c.in-Err.ensures.looked some)
    (missed_range-input ctx (pattern_of c.args.rule.now) (c.in-Err.ensures.misses some))

pub returns-in-Err-match_lookahead-clause-looked : goal.returns-in-Err-match_lookahead-clause-looked
returns-in-Err-match_lookahead-clause-looked c some =
    let ctx = c.args.ctx.now in
    extended_by _ c.match_lookahead.new.search.reach c.args.search.now.reach _ (length ctx.out.now) c.in-Err-match_lookahead.to
    (length ctx.out.now) _ c.extend-in-Err-match_lookahead.ensures
    (c.match_lookahead.ensures.same_reach ∙ c.match_input.ensures.same_reach) refl (c.in-Err-match_lookahead.ensures.looked some)
    (missed_range-lookahead ctx (pattern_of c.args.rule.now) c.in-Ok.end c.in-Ok.ensures.fits
    (c.in-Err-match_lookahead.ensures.misses some))

pub returns-in-Err-match_backtrack-clause-looked : goal.returns-in-Err-match_backtrack-clause-looked
returns-in-Err-match_backtrack-clause-looked c some =
    extended_by _ c.match_backtrack.new.search.reach c.args.search.now.reach _ c.in-Err-match_backtrack.from
    c.in-Ok-match_lookahead.to _ c.in-Ok-match_lookahead.to c.extend-in-Err-match_backtrack.ensures
    (c.match_backtrack.ensures.same_reach ∙ c.match_lookahead.ensures.same_reach ∙ c.match_input.ensures.same_reach)
    (c.in-Err-match_backtrack.ensures.looked some) refl
    (missed_range-backtrack c.args.ctx.now (pattern_of c.args.rule.now) c.in-Ok.end c.in-Ok-match_lookahead.to c.in-Ok.ensures.fits
    c.in-Ok-match_lookahead.ensures.fits (c.in-Err-match_backtrack.ensures.misses some))

pub returns-in-Ok-match_backtrack-clause-looked : goal.returns-in-Ok-match_backtrack-clause-looked
returns-in-Ok-match_backtrack-clause-looked c some =
    c.match_backtrack.ensures.same_reach ∙ c.match_lookahead.ensures.same_reach ∙ c.match_input.ensures.same_reach
    ∙ ap (extended c.args.search.now.reach)
    (sym (missed_range-none c.args.ctx.now (pattern_of c.args.rule.now) c.in-Ok.end c.in-Ok-match_lookahead.to
    c.in-Ok-match_backtrack.from c.in-Ok.ensures.fits c.in-Ok-match_lookahead.ensures.fits c.in-Ok-match_backtrack.ensures.fits))
