use Rattle.shaping_session.proofs.TranscriptLemmas.{run_ends, run_answers}
use Rattle.shaping_session.proofs.run.run_on.Goals as goal

pub returns-clause-writes : goal.returns-clause-writes
returns-clause-writes g c =
    run_answers (g.R.Read.remaining c.args.reader.now) (g.R.Read.remaining c.read_all.new.reader)
    (g.W.Write.contents c.args.writer.now) (g.W.Write.contents c.finish.new.writer) c.in_ok-input.input.items
    c.as_slice.result.now c.finish.result c.as_slice.ensures.value c.in_ok-input.ensures.bytes
    c.in_ok-input.ensures.end (run_ends _ _ _ _ _ _ _ c.answer_lines-outcome.ensures c.finish.ensures)
