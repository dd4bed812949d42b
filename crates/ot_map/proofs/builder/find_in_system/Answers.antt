use Rattle.std.proofs.Common.{map, sym, subst, ap, ◌∙◌}
use Rattle.ot_map.specs.FeaturesFound.{noted_at}
use Rattle.ot_map.specs.Requests.{AreInOrder}
use Rattle.ot_map.proofs.FoundLemmas.{noted-begin, noted-order, noted-step}
use Rattle.ot_map.proofs.builder.find_in_system.Goals as goal

pub loop-place-init : goal.loop-place-init
loop-place-init c = λ ordered. noted-begin c.args.table.now c.args.is_gsub c.args.requests.now

pub loop-place-preserved : goal.loop-place-preserved
loop-place-preserved c = λ ordered.
    let before = c.loop-place.invariant ordered in
    let still = subst AreInOrder (sym before) (noted-order c.args.table.now c.args.is_gsub c.loop-place.place c.args.requests.now ordered) in
    c.note.ensures still ∙ ap (map (noted_at c.args.table.now c.args.is_gsub c.loop-place.place)) before
    ∙ noted-step c.args.table.now c.args.is_gsub c.loop-place.place c.args.requests.now
