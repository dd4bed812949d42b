use Rattle.shaping_runs.proofs.HeadlineLemmas.{both-break_marks}
use Rattle.shaping_runs.proofs.headline.breaks_are_marks.Goals as goal

pub returns : goal.returns
returns c = both-break_marks
