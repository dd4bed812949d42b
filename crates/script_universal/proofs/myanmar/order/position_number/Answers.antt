use Rattle.std.proofs.Common.{ap, ◌∙◌}
use Rattle.script_syllables.proofs.ItemLemmas.{tag_of-position}
use Rattle.script_syllables.specs.Category.{number_of_position}
use Rattle.script_universal.proofs.myanmar.order.position_number.Goals as goal

pub returns : goal.returns
returns c = c.from.ensures ∙ tag_of-position c.position.result ∙ ap number_of_position c.position.ensures
