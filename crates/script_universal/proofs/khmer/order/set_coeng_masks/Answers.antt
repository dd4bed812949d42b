use Rattle.std.proofs.Common.{ap, ◌∙◌}
use Rattle.script_universal.specs.Order.{glyphs}
use Rattle.script_universal.proofs.OrderLemmas.{glyphs-masked}
use Rattle.script_universal.proofs.khmer.order.set_coeng_masks.Goals as goal

pub returns-clause-glyphs : goal.returns-clause-glyphs
returns-clause-glyphs c =
    ap glyphs c.add_mask-2.ensures.is ∙ glyphs-masked _ _ _ _ ∙ ap glyphs c.add_mask.ensures.is ∙ glyphs-masked _ _ _ _
