use Rattle.std.proofs.Common.{◌∙◌}
use Rattle.script_syllables.proofs.ItemLemmas.{sameb-category}
use Rattle.script_syllables.proofs.category.Category.is.Goals as goal

pub returns : goal.returns
returns c = c.eq.ensures ∙ sameb-category c.args.self c.args.other
