use Rattle.std.proofs.Common.{arith}
use Rattle.ot_gpos.proofs.lookups.next_place.Goals as goal

pub returns-clause-passed : goal.returns-clause-passed
returns-clause-passed c = λ place low less. c.first_place.ensures.passed place (omega (arith, low, c.min.ensures)) less
