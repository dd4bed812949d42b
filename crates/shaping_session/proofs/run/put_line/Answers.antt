use Rattle.shaping_session.proofs.TranscriptLemmas.{line_cut, line_left, line_feed_cut}
use Rattle.shaping_session.proofs.run.put_line.Goals as goal

pub returns-in_err-put-clause-err : goal.returns-in_err-put-clause-err
returns-in_err-put-clause-err g c =
    line_cut _ _ _ _ _ _ c.from_residual.result c.as_bytes.ensures.value c.from_residual.ensures.1
    c.in_err-put.ensures.err

pub returns-clause-ok : goal.returns-clause-ok
returns-clause-ok g c =
    line_left _ _ _ _ _ _ _ _ c.put-2.result c.as_bytes.ensures.value c.in_ok-put.ensures.ok c.put-2.ensures.ok

pub returns-clause-err : goal.returns-clause-err
returns-clause-err g c =
    line_feed_cut _ _ _ _ _ _ _ c.put-2.result c.as_bytes.ensures.value c.in_ok-put.ensures.ok c.put-2.ensures.err
