use Rattle.std.proofs.Common.{sym, ◌∙◌}
use Rattle.ot_characters.proofs.RotationLemmas.{mirrored-there, mirrored-none}
use Rattle.ot_characters.proofs.rotation.mirror.Goals as goal

pub returns-in-Some : goal.returns-in-Some
returns-in-Some g c =
    sym (mirrored-there (g.F.FontFunctions.has c.args.font.now) c.args.mirrors.now c.args.rtlm c.args.info.now
    c.mirror_image.result c.in-Some.image c.mirror_image.ensures c.in-Some.ensures)

pub returns-in-None : goal.returns-in-None
returns-in-None g c =
    c.add_features.ensures
    ∙ sym (mirrored-none (g.F.FontFunctions.has c.args.font.now) c.args.mirrors.now c.args.rtlm c.args.info.now
    c.mirror_image.result c.mirror_image.ensures c.in-None.ensures)
