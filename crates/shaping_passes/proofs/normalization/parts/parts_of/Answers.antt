use Rattle.std.proofs.Common.{sym, ap, ◌∙◌}
use Rattle.std.specs.Option.{option_or}
use Rattle.rb_glyph.specs.Tables.{decomposition_of}
use Rattle.shaping_passes.specs.NormalizationParts.{hangul_parts}
use Rattle.shaping_passes.proofs.NormalizationPartsLemmas.{parts_of-in, parts_of-out}
use Rattle.shaping_passes.proofs.normalization.parts.parts_of.Goals as goal

pub returns-in-Some-parts_of_char : goal.returns-in-Some-parts_of_char
returns-in-Some-parts_of_char c =
    let rows = c.args.decompositions.now in
    c.in-Some-parts_of_char.ensures
    ∙ ap (λ n. option_or (hangul_parts n) (decomposition_of n rows)) c.in-Some.ensures.value.1
    ∙ sym (parts_of-in rows c.args.id c.in-Some.ensures.cases)

pub returns-in-None-parts_of_char : goal.returns-in-None-parts_of_char
returns-in-None-parts_of_char c =
    let rows = c.args.decompositions.now in
    c.in-None-parts_of_char.ensures
    ∙ ap (λ n. option_or (hangul_parts n) (decomposition_of n rows)) c.in-Some.ensures.value.1
    ∙ sym (parts_of-in rows c.args.id c.in-Some.ensures.cases)

pub returns-in-None : goal.returns-in-None
returns-in-None c = sym (parts_of-out c.args.decompositions.now c.args.id c.in-None.ensures.cases)
