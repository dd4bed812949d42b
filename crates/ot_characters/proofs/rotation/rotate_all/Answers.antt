use Rattle.std.proofs.Common.{ap, ◌∙◌, map}
use Rattle.ot_characters.specs.Rotation.{raised}
use Rattle.ot_characters.proofs.RotationLemmas.{raised-turned}
use Rattle.ot_characters.proofs.rotation.rotate_all.Goals as goal

pub returns : goal.returns
returns g c =
    let has = g.F.FontFunctions.has c.args.font.now in
    c.raise_all.ensures ∙ ap (map (raised has c.args.plan.now c.args.direction)) c.turn_all.ensures
    ∙ raised-turned has c.args.plan.now c.args.direction c.args.infos.now
