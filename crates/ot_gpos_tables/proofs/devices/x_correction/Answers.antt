use Rattle.std.proofs.Common.{◌≡◌, ◌∙◌, to_z, of_z, w32, arith}
use Rattle.std.proofs.lemmas.Grind.{common_steps}
use Rattle.std.proofs.lemmas.Int.{to_z-of_z}
use Rattle.ot_gpos_tables.specs.Corrections.{x_correction}
use Rattle.ot_gpos_tables.proofs.CorrectionLemmas.{x_correction-unvaried}
use Rattle.ot_gpos_tables.proofs.devices.x_correction.Goals as goal

pub returns-in-Some-clause-unvaried : goal.returns-in-Some-clause-unvaried
unfolding x_correction
returns-in-Some-clause-unvaried c =
    let is : to_z w32 (of_z w32 c.x_delta.result) ≡ x_correction c.args.table.now c.args.offset c.args.instance.now = grind (arith, to_z-of_z, common_steps) in
    λ none. is ∙ x_correction-unvaried c.args.table.now c.args.offset c.args.instance.now none
