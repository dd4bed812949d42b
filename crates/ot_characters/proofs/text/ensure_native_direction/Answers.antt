use Rattle.std.proofs.Common.{◌≡◌, sym, ap, ◌∙◌, arith}
use Rattle.std.proofs.lemmas.Grind.{common_steps}
use Rattle.rb_common.specs.Direction.{reverse}
use Rattle.rb_common.specs.declared.direction.Direction.{Direction}
use Rattle.ot_characters.specs.NativeDirection.{turned_to}
use Rattle.ot_characters.proofs.TurnLemmas.{in_native_direction-turns}
use Rattle.ot_characters.proofs.text.ensure_native_direction.Goals as goal

pub returns-clause-is : goal.returns-clause-is
returns-clause-is c =
    let s = c.args.buffer.now in
    let way : c.buffer.inside.direction ≡ s.direction = grind (arith, common_steps) in
    c.reverse_graphemes.ensures.is
    ∙ ap (λ (d : Direction). turned_to d s) (c.reverse-direction.ensures ∙ ap reverse way)
    ∙ sym (in_native_direction-turns s (sym c.runs_against.ensures ∙ c.if-not-runs_against.false))
