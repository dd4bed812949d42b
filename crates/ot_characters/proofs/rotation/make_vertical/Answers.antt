use Rattle.std.proofs.Common.{sym}
use Rattle.ot_characters.proofs.RotationLemmas.{upright-there, upright-none}
use Rattle.ot_characters.proofs.rotation.make_vertical.Goals as goal

pub returns-in-Some : goal.returns-in-Some
returns-in-Some g c =
    sym (upright-there (g.F.FontFunctions.has c.args.font.now) c.args.info.now c.vertical_form.result c.in-Some.form
    c.vertical_form.ensures c.in-Some.ensures)

pub returns-in-None : goal.returns-in-None
returns-in-None g c =
    sym (upright-none (g.F.FontFunctions.has c.args.font.now) c.args.info.now c.vertical_form.result
    c.vertical_form.ensures c.in-None.ensures)
