use Rattle.std.proofs.Common.{sym, ◌∙◌}
use Rattle.ot_characters.proofs.RotationLemmas.{mirror_image-there, mirror_image-none}
use Rattle.ot_characters.proofs.rotation.mirror_image.Goals as goal

pub returns-in-Some : goal.returns-in-Some
returns-in-Some c =
    c.mirrored.ensures
    ∙ sym (mirror_image-there c.args.mirrors.now c.args.info.now c.in-Some.character
    (sym c.may_be_mirrored.ensures ∙ c.if-not-may_be_mirrored.false) c.in-Some.ensures.value.0 c.in-Some.ensures.value.1)

pub returns-in-None : goal.returns-in-None
returns-in-None c = sym (mirror_image-none c.args.mirrors.now c.args.info.now c.in-None.ensures.value)
