use Rattle.std.proofs.Common.{◌≡◌, ◌≤◌}
use Rattle.ot_apply.specs.Masks.{digits_start}
use Rattle.ot_apply.proofs.masks.digits_before.Given as goal

-- digits stand from here up to the place
abbrev pub invariant-loop-start : goal.invariant-loop-start
invariant-loop-start l = record {
  within : l.start ≤ l.place;
  is : digits_start l.infos l.start ≡ digits_start l.infos l.place;
}

abbrev pub decreases-loop-start : goal.decreases-loop-start
decreases-loop-start l = l.start
