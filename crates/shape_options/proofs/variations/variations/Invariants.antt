use Rattle.std.proofs.Common.{All}
use Rattle.shape_options.specs.Variations.{HasTag}
use Rattle.shape_options.proofs.variations.variations.Given as goal

abbrev pub invariant-loop-part : goal.invariant-loop-part
invariant-loop-part l = All HasTag l.variations.items
