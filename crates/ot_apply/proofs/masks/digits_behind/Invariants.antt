use Rattle.std.proofs.Common.{◌≡◌, ◌≤◌, ◌-◌, length}
use Rattle.ot_apply.specs.Masks.{digits_end}
use Rattle.ot_apply.proofs.masks.digits_behind.Given as goal

-- digits stand from the place up to here
abbrev pub invariant-loop-end : goal.invariant-loop-end
invariant-loop-end l = record {
  from : l.place ≤ l.end;
  within : l.end ≤ length l.infos;
  is : digits_end l.infos l.end ≡ digits_end l.infos l.place;
}

abbrev pub decreases-loop-end : goal.decreases-loop-end
decreases-loop-end l = length l.initial.infos - l.end
