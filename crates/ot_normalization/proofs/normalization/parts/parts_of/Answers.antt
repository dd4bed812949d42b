use Rattle.std.proofs.Common.{sym, ap, ◌∙◌}
use Rattle.std.proofs.lemmas.Bool.{cond-true, cond-false}
use Rattle.shaping_passes.proofs.NormalizationPartsLemmas.{is_character-in, is_character-out}
use Rattle.ot_normalization.specs.FontRules.{parts_of_char}
use Rattle.ot_normalization.proofs.normalization.parts.parts_of.Goals as goal

pub returns-in-Some : goal.returns-in-Some
returns-in-Some c =
    c.parts_of_char.ensures ∙ ap (parts_of_char c.args.shaper) c.in-Some.ensures.value.1
    ∙ sym (cond-true _ _ _ (is_character-in c.args.character c.in-Some.ensures.cases))

pub returns-in-None : goal.returns-in-None
returns-in-None c = sym (cond-false _ _ _ (is_character-out c.args.character c.in-None.ensures.cases))
