use Rattle.std.proofs.Common.{ℕ, not, inl, inr, ap, ◌+◌, ◌∙◌, arith}
use Rattle.std.proofs.lemmas.List.{take_rest}
use Rattle.std.proofs.lemmas.List.Sums.{prefix_len-drop_all}
use Rattle.std.specs.List.{position_or_len}
use Rattle.script_syllables.specs.Item.{is_joiner}
use Rattle.script_syllables.proofs.item.behind_joiners.Goals as goal

pub returns-in-Some : goal.returns-in-Some
returns-in-Some c =
    ap (λ (n : ℕ). c.args.start + n)
    (c.joiners.ensures.is
    ∙ ap (position_or_len (λ g. not (is_joiner g)))
    (c.in-Some.ensures.lookup.0.2 ∙ take_rest c.args.infos.now c.args.start))

pub returns-in-None : goal.returns-in-None
returns-in-None c = elim c.in-None.ensures.lookup.0 [
  | inl behind ↦
      omega (arith, prefix_len-drop_all (λ g. not (not (is_joiner g))) c.args.infos.now c.args.start (omega (arith, behind)))
  | inr beyond ↦ absurd (omega (arith, beyond))
]
