use Rattle.std.proofs.Common.{Some, None, refl}
use Rattle.ot_apply.proofs.masks.set_value.Goals as goal

pub returns-in-Some-clause-set : goal.returns-in-Some-clause-set
returns-in-Some-clause-set c = (Some c.in-Some.planned.now, (c.in-Some.ensures, c.set_bits.ensures.is))

pub returns-in-None-clause-set : goal.returns-in-None-clause-set
returns-in-None-clause-set c = (None, (c.in-None.ensures, refl))
