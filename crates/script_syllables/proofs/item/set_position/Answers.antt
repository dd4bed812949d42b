use Rattle.std.proofs.Common.{ap, ◌∙◌}
use Rattle.script_items.specs.Item.{with_shaper_byte}
use Rattle.script_syllables.proofs.ItemLemmas.{tag_of-position}
use Rattle.script_syllables.proofs.item.set_position.Goals as goal

pub returns-clause-is : goal.returns-clause-is
returns-clause-is c =
    ap (λ n. with_shaper_byte n c.args.info.now) (c.from.ensures ∙ tag_of-position c.args.position)
