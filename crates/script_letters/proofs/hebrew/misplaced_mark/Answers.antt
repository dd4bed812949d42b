use Rattle.std.proofs.Common.{◌≡◌, sym, ap, ◌∙◌, inl, inr, arith}
use Rattle.std.proofs.lemmas.Bool.{cases_lt}
use Rattle.script_letters.specs.Hebrew.{is_misplaced_at}
use Rattle.script_letters.proofs.hebrew.misplaced_mark.Goals as goal

pub loop-place-preserved : goal.loop-place-preserved
loop-place-preserved c = λ k from to.
    elim (cases_lt k c.loop-place.place) [
      | inl before ↦ c.loop-place.invariant k from before
      | inr here ↦ let same : k ≡ c.loop-place.place = omega (arith, to, here) in
          ap (is_misplaced_at c.args.infos.now) same ∙ sym c.is_misplaced.ensures ∙ c.if-is_misplaced.false
    ]

pub returns-then-is_misplaced : goal.returns-then-is_misplaced
returns-then-is_misplaced c =
    (omega arith, omega arith, sym c.is_misplaced.ensures ∙ c.if-is_misplaced.true, c.loop-place.invariant)

pub returns : goal.returns
returns c = λ k from to. c.loop-place.invariant k from (omega arith)
