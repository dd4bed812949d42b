use Rattle.std.proofs.Common.{◌≡◌, inl, inr, Bool, true, false, ◌||◌, refl, sym, subst}
use Rattle.std.proofs.lemmas.Bool.{false≢true}
use Rattle.script_indic.specs.Composition.{is_yya}
use Rattle.script_syllables.specs.Composition.{is_mark}
use Rattle.script_shapers.specs.Shapers.{has_own_composite}
use Rattle.script_shapers.proofs.shaper.ScriptShaper.compose.Goals as goal

both_false : (p q : Bool) → (p || q) ≡ false → (p ≡ false) × (q ≡ false)
both_false false q e = (refl, e)
both_false true q e = absurd (false≢true (sym e))

pub returns-in-Indic-clause-hangul : goal.returns-in-Indic-clause-hangul
returns-in-Indic-clause-hangul c = λ own s made.
    let a = c.args.a in
    let b = c.args.b in
    let parts = both_false (is_yya a b) (is_mark a) (subst (λ x. has_own_composite x a b ≡ false) c.in-Indic.is own) in
    c.compose.ensures.hangul parts.0 parts.1 s made

pub returns-in-Khmer-clause-hangul : goal.returns-in-Khmer-clause-hangul
returns-in-Khmer-clause-hangul c = λ own s made.
    let a = c.args.a in
    let b = c.args.b in
    let mark : is_mark a ≡ false = elim c.in-Khmer.is [
      | inl khmer ↦ subst (λ x. has_own_composite x a b ≡ false) khmer own
      | inr others ↦ elim others [
        | inl universal ↦ subst (λ x. has_own_composite x a b ≡ false) universal own
        | inr joining ↦ subst (λ x. has_own_composite x a b ≡ false) joining own
      ]
    ] in
    c.compose-in-Khmer.ensures.hangul mark s made
