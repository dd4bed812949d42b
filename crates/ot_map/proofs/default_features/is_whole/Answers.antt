use Rattle.std.proofs.Common.{arith}
use Rattle.std.proofs.lemmas.Bool.Decides.{nat_tests}
use Rattle.ot_map.proofs.default_features.is_whole.Goals as goal

pub returns : goal.returns
returns c = grind (arith, nat_tests, c.is_global.ensures)
