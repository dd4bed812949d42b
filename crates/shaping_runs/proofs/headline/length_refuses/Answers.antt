use Rattle.shaping_runs.proofs.HeldLemmas.{refused_exactly, turn-refused_for_good}
use Rattle.shaping_runs.proofs.headline.length_refuses.Goals as goal

pub returns-clause-exactly : goal.returns-clause-exactly
returns-clause-exactly c = refused_exactly

pub returns-clause-for_good : goal.returns-clause-for_good
returns-clause-for_good c = turn-refused_for_good
