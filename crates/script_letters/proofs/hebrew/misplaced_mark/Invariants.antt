use Rattle.std.proofs.Common.{◌+◌}
use Rattle.script_letters.specs.Hebrew.{NoneMisplaced}
use Rattle.script_letters.proofs.hebrew.misplaced_mark.Given as goal

-- no mark before the place does
abbrev pub invariant-loop-place : goal.invariant-loop-place
invariant-loop-place l = NoneMisplaced l.infos (l.start + 2) l.place
