use Rattle.std.proofs.Common.{◌≡◌, take}
use Rattle.script_joining.specs.ArabicMarks.{width_of}
use Rattle.script_joining.proofs.arabic.measure.width_of.Given as goal

abbrev pub invariant-loop-position : goal.invariant-loop-position
invariant-loop-position l = l.width ≡ width_of (take l.position-index l.positions)
