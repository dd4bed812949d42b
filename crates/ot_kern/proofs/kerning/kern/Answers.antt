use Rattle.ot_attachments.proofs.FlagLemmas.{keeps_by}
use Rattle.ot_kern.proofs.kerning.kern.Goals as goal

pub returns-clause-keeps : goal.returns-clause-keeps
returns-clause-keeps c =
    keeps_by c.args.buffer.now c.kern_by_all.new.buffer (c.out_len.ensures.closed c.requires.placed.closed)
    (c.out_len-2.ensures.closed c.kern_by_all.ensures.kept.placed.closed) c.kern_by_all.ensures.kept.rest
