use Rattle.std.proofs.Common.{sym, ap, ◌∙◌}
use Rattle.rb_glyph.specs.Characters.{modified_combining_class}
use Rattle.shaping_passes.proofs.NormalizationPartsLemmas.{class_of-in, class_of-out}
use Rattle.shaping_passes.proofs.normalization.parts.class_of.Goals as goal

pub returns-in-Some : goal.returns-in-Some
returns-in-Some c =
    c.modified_combining_class.ensures
    ∙ ap (λ n. modified_combining_class n c.args.classes.now) c.in-Some.ensures.value.1
    ∙ sym (class_of-in c.args.classes.now c.args.id c.in-Some.ensures.cases)

pub returns-in-None : goal.returns-in-None
returns-in-None c = sym (class_of-out c.args.classes.now c.args.id c.in-None.ensures.cases)
