use Rattle.ot_gpos_tables.proofs.EffectLemmas.{no_effect}
use Rattle.ot_gpos_tables.proofs.values.records_without_effect_move_nothing.Goals as goal

pub returns : goal.returns
returns c = no_effect
