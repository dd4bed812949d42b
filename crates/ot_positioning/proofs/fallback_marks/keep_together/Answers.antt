use Rattle.ot_attachments.proofs.FlagLemmas.{keeps_by}
use Rattle.ot_positioning.proofs.fallback_marks.keep_together.Goals as goal

pub returns-clause-keeps : goal.returns-clause-keeps
returns-clause-keeps c =
    keeps_by c.args.buffer.now c.mark_break.new.buffer (c.out_len.ensures.closed c.requires.closed)
    (c.out_len-2.ensures.closed c.mark_break.ensures.closed) c.mark_break.ensures.rest
