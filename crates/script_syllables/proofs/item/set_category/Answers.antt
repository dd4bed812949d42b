use Rattle.std.proofs.Common.{ap, ◌∙◌}
use Rattle.script_syllables.specs.Item.{with_category_byte}
use Rattle.script_syllables.proofs.ItemLemmas.{tag_of-category}
use Rattle.script_syllables.proofs.item.set_category.Goals as goal

pub returns-clause-is : goal.returns-clause-is
returns-clause-is c =
    c.set_category_byte.ensures.is
    ∙ ap (λ n. with_category_byte n c.args.info.now) (tag_of-category c.args.category)
