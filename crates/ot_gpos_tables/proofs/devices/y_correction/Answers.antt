use Rattle.std.proofs.Common.{◌≡◌, ◌∙◌, to_z, of_z, w32, arith}
use Rattle.std.proofs.lemmas.Grind.{common_steps}
use Rattle.std.proofs.lemmas.Int.{to_z-of_z}
use Rattle.ot_gpos_tables.specs.Corrections.{y_correction}
use Rattle.ot_gpos_tables.proofs.CorrectionLemmas.{y_correction-unvaried}
use Rattle.ot_gpos_tables.proofs.devices.y_correction.Goals as goal

pub returns-in-Some-clause-unvaried : goal.returns-in-Some-clause-unvaried
unfolding y_correction
returns-in-Some-clause-unvaried c =
    let is : to_z w32 (of_z w32 c.y_delta.result) ≡ y_correction c.args.table.now c.args.offset c.args.instance.now = grind (arith, to_z-of_z, common_steps) in
    λ none. is ∙ y_correction-unvaried c.args.table.now c.args.offset c.args.instance.now none
