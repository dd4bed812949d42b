use Rattle.std.proofs.Common.{ℕ, inl, inr, ap, ◌+◌, ◌∙◌, arith}
use Rattle.std.proofs.lemmas.List.{take_rest}
use Rattle.script_syllables.specs.Item.{passed_count}
use Rattle.script_syllables.proofs.ItemLemmas.{passed_count-drop_all}
use Rattle.script_syllables.proofs.grammar.Grammar.behind_passed.Goals as goal

pub returns-in-Some : goal.returns-in-Some
returns-in-Some c =
    ap (λ (n : ℕ). c.args.start + n)
    (c.passed_count.ensures.is
    ∙ ap (passed_count c.args.self.now.passes_over) (c.in-Some.ensures.lookup.0.2 ∙ take_rest c.args.infos.now c.args.start))

pub returns-in-None : goal.returns-in-None
returns-in-None c = elim c.in-None.ensures.lookup.0 [
  | inl behind ↦
      omega (arith, passed_count-drop_all c.args.self.now.passes_over c.args.infos.now c.args.start (omega (arith, behind)))
  | inr beyond ↦ absurd (omega (arith, beyond))
]
