use Rattle.std.proofs.Common.{length}
use Rattle.shape_lines.proofs.text.lossy_text.Given as goal

abbrev pub decreases-loop-rest : goal.decreases-loop-rest
decreases-loop-rest l = length l.rest
