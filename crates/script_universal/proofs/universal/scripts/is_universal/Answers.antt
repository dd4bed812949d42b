-- The tags in the table are those of the definition, by computation.
use Rattle.script_universal.proofs.universal.scripts.is_universal.Goals as goal

pub returns : goal.returns
returns c = c.is_one_of.ensures
