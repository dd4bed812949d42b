use Rattle.std.proofs.Common.{◌≡◌, ◌≤◌, ◌-◌}
use Rattle.script_joining.specs.ArabicMarks.{is_below, passing_end}
use Rattle.script_joining.proofs.arabic.marks.modifiers_start.Given as goal

-- marks that come before stand up to here
abbrev pub invariant-loop-place : goal.invariant-loop-place
invariant-loop-place l = record {
  from : l.start ≤ l.place;
  within : l.place ≤ l.end;
  is : passing_end (is_below l.class) l.infos l.place l.end ≡ passing_end (is_below l.class) l.infos l.start l.end;
}

abbrev pub decreases-loop-place : goal.decreases-loop-place
decreases-loop-place l = l.end - l.place
