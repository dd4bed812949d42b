use Rattle.std.proofs.Common.{Bool, not, sym, ap, ◌∙◌, arith}
use Rattle.std.proofs.lemmas.List.Sums.{prefix_len-drop_yes, prefix_len-drop_no, prefix_len-drop_all}
use Rattle.script_syllables.specs.Item.{is_passed_over}
use Rattle.script_syllables.proofs.grammar.passed_items.Goals as goal

pub loop-place-preserved : goal.loop-place-preserved
loop-place-preserved c =
    omega (
      arith,
      c.loop-place.invariant,
      prefix_len-drop_yes (λ g. not (not (is_passed_over g))) c.args.infos.now c.loop-place.place _ (omega arith)
          (ap (λ (b : Bool). not (not b)) (sym c.is_passed_over.ensures ∙ c.if-not-is_passed_over.false)),
    )

pub returns-then-not-is_passed_over-clause-is : goal.returns-then-not-is_passed_over-clause-is
returns-then-not-is_passed_over-clause-is c =
    omega (
      arith,
      c.loop-place.invariant,
      prefix_len-drop_no (λ g. not (not (is_passed_over g))) c.args.infos.now c.loop-place.place _ (omega arith)
          (ap (λ (b : Bool). not (not b)) (sym c.is_passed_over.ensures ∙ c.if-not-is_passed_over.true)),
    )

pub returns-clause-is : goal.returns-clause-is
returns-clause-is c =
    omega (
      arith,
      c.loop-place.invariant,
      prefix_len-drop_all (λ g. not (not (is_passed_over g))) c.args.infos.now c.loop-place.place (omega arith),
    )
