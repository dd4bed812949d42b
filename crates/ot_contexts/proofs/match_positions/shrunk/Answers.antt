use Rattle.std.proofs.Common.{rules}
use Rattle.ot_contexts.proofs.MatchPositionsLemmas.{all_by}
use Rattle.ot_contexts.proofs.match_positions.shrunk.Goals as goal

pub returns : goal.returns
returns c = all_by _ _ _ (search rules)
