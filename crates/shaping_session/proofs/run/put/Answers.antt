use Rattle.shaping_session.proofs.TranscriptLemmas.{all_written, bytes_cut, handed_on}
use Rattle.shaping_session.proofs.run.put.Goals as goal

pub returns-in_err-write_held-clause-err : goal.returns-in_err-write_held-clause-err
returns-in_err-write_held-clause-err g c =
    handed_on _ _ _ c.args.bytes.now _ c.from_residual.result c.from_residual.ensures.1 c.in_err-write_held.ensures.err

pub returns-clause-ok : goal.returns-clause-ok
returns-clause-ok g c =
    all_written _ _ _ _ _ _ c.write_whole.result c.in_ok-write_held.ensures.ok c.in_ok-write_held.ensures.items
    c.write_whole.ensures.ok

pub returns-clause-err : goal.returns-clause-err
returns-clause-err g c =
    bytes_cut _ _ _ _ _ c.write_whole.result c.in_ok-write_held.ensures.ok c.write_whole.ensures.err
