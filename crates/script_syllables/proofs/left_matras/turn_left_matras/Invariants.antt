use Rattle.std.specs.List.Sorted.{IsPermutation}
use Rattle.script_syllables.proofs.left_matras.turn_left_matras.Given as goal

abbrev pub invariant-loop-place : goal.invariant-loop-place
invariant-loop-place g l = IsPermutation l.fn.items l.items
