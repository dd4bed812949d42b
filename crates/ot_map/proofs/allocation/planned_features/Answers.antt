use Rattle.ot_map.proofs.AllocationLemmas.{IsAllocated-push, append-planned_none, append-planned_some}
use Rattle.ot_map.proofs.allocation.planned_features.Goals as goal
use Rattle.ot_map.proofs.allocation.planned_features.Goals.{in-Some+in_ok-push-in-Some, in-None}

pub loop-request-preserved : goal.loop-request-preserved
loop-request-preserved c =
    elim c.match-planned.branch [
      | in-Some+in_ok-push-in-Some w ↦
          rw (w.features-is, w.next-is)
          (record {
            allocated = IsAllocated-push _ _ _ _ _ c.loop-request.invariant.allocated w.in-Some.ensures.stands
                w.next_behind-next.ensures.behind w.in_ok-push-in-Some.ensures.items;
            rest = append-planned_some _ _ _ _ _ c.loop-request.request-index _ c.args.requests.now _ w.in-Some.ensures.is
                c.loop-request.invariant.rest w.next_behind-next.ensures.is w.in_ok-push-in-Some.ensures.items c.loop-request-test.true;
          })
      | in-None w ↦
          rw (w.features-is, w.next-is)
          (record {
            allocated = c.loop-request.invariant.allocated;
            rest = append-planned_none _ _ c.loop-request.request-index _ c.args.requests.now _ w.in-None.ensures.is
                c.loop-request.invariant.rest c.loop-request-test.true;
          })
    ]
