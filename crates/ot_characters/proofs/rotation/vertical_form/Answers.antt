use Rattle.std.proofs.Common.{sym, ◌∙◌}
use Rattle.ot_characters.proofs.RotationLemmas.{vertical_form-there, vertical_form-none}
use Rattle.ot_characters.proofs.rotation.vertical_form.Goals as goal

pub returns-in-Some : goal.returns-in-Some
returns-in-Some c =
    c.vertical.ensures
    ∙ sym (vertical_form-there c.args.info.now c.in-Some.character c.in-Some.ensures.value.0 c.in-Some.ensures.value.1)

pub returns-in-None : goal.returns-in-None
returns-in-None c = sym (vertical_form-none c.args.info.now c.in-None.ensures.value)
