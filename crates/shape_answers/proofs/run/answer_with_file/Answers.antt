use Rattle.std.proofs.Common.{arith}
use Rattle.std.proofs.lemmas.Grind.{common_steps}
use Rattle.shape_answers.proofs.RunLemmas.{of_all}
use Rattle.shape_answers.proofs.run.answer_with_file.Goals as goal

pub returns-in-Some : goal.returns-in-Some
returns-in-Some g c = of_all c.answer_options.result (grind (arith, common_steps))
