use Rattle.std.proofs.Common.{◌∙◌}
use Rattle.script_syllables.proofs.ItemLemmas.{sameb-position}
use Rattle.script_syllables.proofs.category.position.Position.is.Goals as goal

pub returns : goal.returns
returns c = c.eq.ensures ∙ sameb-position c.args.self c.args.other
