use Rattle.std.proofs.Common.{take, ap, ◌∙◌}
use Rattle.script_universal.proofs.khmer.order.move_coeng_ro.Goals as goal

pub returns-clause-before : goal.returns-clause-before
returns-clause-before c =
    c.move_to_start.ensures.before ∙ ap (take c.args.range.now.start) c.mask_coeng_ro.ensures.glyphs
