use Rattle.std.proofs.Common.{◌≡◌, ◌≤◌}
use Rattle.script_items.specs.Ties.{TieAt, Says, last_of}
use Rattle.script_items.proofs.ties.last_of.Given as goal

-- none was found from here on
abbrev pub invariant-loop-end : goal.invariant-loop-end
invariant-loop-end g l = record {
  within : l.end ≤ l.count;
  is : (tie : TieAt) → Says (goal.F-post g l.tie_at) tie
      → last_of tie l.wanted l.start l.end ≡ last_of tie l.wanted l.start l.count;
}

abbrev pub decreases-loop-end : goal.decreases-loop-end
decreases-loop-end g l = l.end
