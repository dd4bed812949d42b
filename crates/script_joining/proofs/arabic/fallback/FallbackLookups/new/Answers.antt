use Rattle.script_joining.proofs.arabic.fallback.FallbackLookups.new.Goals as goal

pub returns-clause-masks : goal.returns-clause-masks
returns-clause-masks g c =
    c.in_ok-add_two-2.ensures.masks
    (c.in_ok-add_two.ensures.masks (c.in_ok-add_three.ensures.masks c.loop-column.invariant.1))
