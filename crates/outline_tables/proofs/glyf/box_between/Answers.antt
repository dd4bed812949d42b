use Rattle.std.proofs.Common.{arith}
use Rattle.std.proofs.lemmas.Int.{to_z-of_z}
use Rattle.std.proofs.lemmas.Grind.{common_steps}
use Rattle.outline_tables.proofs.glyf.box_between.Goals as goal

pub returns : goal.returns
returns c = grind (arith, to_z-of_z, common_steps)
