-- Signed numbers that went through their bits.
use Rattle.std.proofs.lemmas.Int.{to_z-of_z}
use Rattle.std.proofs.lemmas.Grind.{common_steps}

pub ruleset signed = (to_z-of_z, common_steps)
