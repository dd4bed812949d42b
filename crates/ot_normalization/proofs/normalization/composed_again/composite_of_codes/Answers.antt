use Rattle.std.proofs.Common.{ℕ, sym, ap, ◌∙◌}
use Rattle.std.proofs.lemmas.Bool.{cond-true, cond-false, and_from, and_left, and_right}
use Rattle.shaping_passes.proofs.NormalizationPartsLemmas.{is_character-in, is_character-out}
use Rattle.ot_normalization.specs.FontRules.{composite_of, if_there}
use Rattle.ot_normalization.proofs.normalization.composed_again.composite_of_codes.Goals as goal

pub returns-in-Some-from_u32 : goal.returns-in-Some-from_u32
returns-in-Some-from_u32 g c =
    let composing = c.args.composing.now in
    let has = g.F.FontFunctions.has composing.font.now in
    c.composite_of.ensures
    ∙ ap (λ (x : ℕ). if_there has (composite_of composing.shaper composing.has_gpos_mark x c.in-Some-from_u32.second))
    c.in-Some.ensures.value.1
    ∙ ap (λ (x : ℕ). if_there has (composite_of composing.shaper composing.has_gpos_mark c.args.a x))
    c.in-Some-from_u32.ensures.value.1
    ∙ sym (cond-true _ _ _ (and_from _ _ (is_character-in c.args.a c.in-Some.ensures.cases)
    (is_character-in c.args.b c.in-Some-from_u32.ensures.cases)))

pub returns-in-None-from_u32 : goal.returns-in-None-from_u32
returns-in-None-from_u32 g c =
    sym (cond-false _ _ _ (and_right _ _ (is_character-out c.args.b c.in-None-from_u32.ensures.cases)))

pub returns-in-None : goal.returns-in-None
returns-in-None g c =
    sym (cond-false _ _ _ (and_left _ _ (is_character-out c.args.a c.in-None.ensures.cases)))
