use Rattle.shaping_runs.proofs.SeparateSteps.{turn_told}
use Rattle.shaping_runs.proofs.laws.separate_output_follows_its_rule.Goals as goal

pub returns : goal.returns
returns c = λ call s near opened. turn_told s near opened call
