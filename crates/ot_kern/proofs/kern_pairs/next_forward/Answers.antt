use Rattle.std.proofs.Common.{sym, ap, ◌∙◌}
use Rattle.ot_kern.proofs.KerningLemmas.{place_of_next}
use Rattle.ot_kern.proofs.kern_pairs.next_forward.Goals as goal
use Rattle.ot_layout.specs.SkippingIterator.{place_of}

pub returns-in-At-clause-is : goal.returns-in-At-clause-is
returns-in-At-clause-is c =
    sym (ap place_of c.in-At.is) ∙ ap place_of c.next.ensures.is
    ∙ place_of_next c.args.machine.now c.args.glyphs.now c.args.left c.requires.passes

pub returns-in-Other-clause-is : goal.returns-in-Other-clause-is
returns-in-Other-clause-is c =
    sym (ap place_of c.in-Other.is) ∙ ap place_of c.next.ensures.is
    ∙ place_of_next c.args.machine.now c.args.glyphs.now c.args.left c.requires.passes

pub returns-in-End-clause-is : goal.returns-in-End-clause-is
returns-in-End-clause-is c =
    sym (ap place_of c.in-End.is) ∙ ap place_of c.next.ensures.is
    ∙ place_of_next c.args.machine.now c.args.glyphs.now c.args.left c.requires.passes
