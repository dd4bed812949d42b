use Rattle.std.proofs.Common.{◌≡◌, Some, None, sym, ap, ◌∙◌, arith}
use Rattle.std.proofs.lemmas.Grind.{common_steps}
use Rattle.ot_characters.specs.NativeDirection.{script_direction}
use Rattle.ot_characters.proofs.native_direction.script_direction.Goals as goal

pub returns-in-Some : goal.returns-in-Some
unfolding script_direction
returns-in-Some c =
    let is : c.args.buffer.now.script ≡ Some c.in-Some.script = grind (arith, common_steps) in
    c.from_script.ensures ∙ sym (ap script_direction is)

pub returns-in-None : goal.returns-in-None
unfolding script_direction
returns-in-None c =
    let is : c.args.buffer.now.script ≡ None = grind (arith, common_steps) in
    sym (ap script_direction is)
