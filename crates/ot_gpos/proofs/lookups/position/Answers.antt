use Rattle.std.proofs.Common.{sym, subst, ◌∙◌}
use Rattle.std.specs.Prelude.{slice_get}
use Rattle.shaping_buffer.specs.State.{State}
use Rattle.ot_gpos.specs.Runs.{IsPositioned}
use Rattle.ot_attachments.proofs.FlagLemmas.{keeps_untouched}
use Rattle.ot_gpos.proofs.lookups.position.Goals as goal

pub returns-clause-keeps : goal.returns-clause-keeps
returns-clause-keeps g c =
    keeps_untouched c.args.buffer.now c.fail_if_spent.new.buffer (c.fail_if_spent.ensures.kept.rest ∙ c.place_all.ensures.kept.rest)

pub returns-clause-exact : goal.returns-clause-exact
returns-clause-exact g c = λ plain steps.
    let setting = c.args.setting.now in
    let list = setting.list.now in
    subst
    (λ (b : State). IsPositioned list (slice_get list.lookups.items c.args.lookup) c.args.options.now setting.instance
    c.args.search.now.budget.nested c.args.buffer.now c.place_all.new.search.budget.nested b)
    (sym (c.fail_if_spent.ensures.same steps)) (c.place_all.ensures.exact plain steps)
