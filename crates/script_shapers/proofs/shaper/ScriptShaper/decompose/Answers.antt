use Rattle.std.proofs.Common.{◌≡◌, false, subst}
use Rattle.script_shapers.specs.Shapers.{has_own_parts}
use Rattle.script_shapers.proofs.shaper.ScriptShaper.decompose.Goals as goal

pub returns-in-Indic-clause-hangul : goal.returns-in-Indic-clause-hangul
returns-in-Indic-clause-hangul c = λ own.
    c.decompose.ensures.hangul (subst (λ x. has_own_parts x c.args.character ≡ false) c.in-Indic.is own)

pub returns-in-Khmer-clause-hangul : goal.returns-in-Khmer-clause-hangul
returns-in-Khmer-clause-hangul c = λ own.
    c.decompose-in-Khmer.ensures.hangul (subst (λ x. has_own_parts x c.args.character ≡ false) c.in-Khmer.is own)
