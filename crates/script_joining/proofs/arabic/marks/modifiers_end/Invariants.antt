use Rattle.std.proofs.Common.{◌≡◌, ◌≤◌, ◌-◌}
use Rattle.script_joining.specs.ArabicMarks.{is_modifier_of, passing_end}
use Rattle.script_joining.proofs.arabic.marks.modifiers_end.Given as goal

-- modifiers stand up to here
abbrev pub invariant-loop-place : goal.invariant-loop-place
invariant-loop-place l = record {
  from : l.start ≤ l.place;
  within : l.place ≤ l.end;
  is : passing_end (is_modifier_of l.class) l.infos l.place l.end ≡ passing_end (is_modifier_of l.class) l.infos l.start l.end;
}

abbrev pub decreases-loop-place : goal.decreases-loop-place
decreases-loop-place l = l.end - l.place
