use Rattle.std.proofs.Common.{refl}
use Rattle.ot_map.specs.Requests.{requested}
use Rattle.ot_map.proofs.OrderLemmas.{set-asked, asked_new}
use Rattle.ot_map.proofs.builder.PlanBuilder.add_feature.Goals as goal

pub returns-in-Ok-clause-asked : goal.returns-in-Ok-clause-asked
unfolding requested
returns-in-Ok-clause-asked c = λ some ordered.
    let place = rw c.as_slice.ensures.value at c.in-Ok.ensures.found in
    let same = rw c.len.ensures at c.new-request.ensures in
    set-asked _ _ _ _ _ _ c.args.tag.0 ordered place c.index_mut-before.ensures.value c.merge.ensures same refl

pub returns-in_ok-insert-in-Err-clause-asked : goal.returns-in_ok-insert-in-Err-clause-asked
unfolding requested
returns-in_ok-insert-in-Err-clause-asked c = λ some ordered.
    let gap = rw c.as_slice.ensures.value at c.in-Err.ensures.gap in
    let same = rw c.len.ensures at c.new-request.ensures in
    asked_new _ _ _ _ _ c.args.tag.0 (gap ordered) c.in_ok-insert-in-Err.ensures.items same refl
