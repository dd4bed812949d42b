-- The pauses between the stages of features that each shaper asks for, in their order.
use Rattle.std.specs.Prelude.{List, []}
use Rattle.ot_map.specs.declared.plan.Pause.{Pause}
use Rattle.script_indic.specs.Stages.{indic_pauses}
use Rattle.script_universal.specs.Stages.{khmer_pauses, myanmar_pauses, universal_pauses}
use Rattle.script_shapers.specs.declared.shaper.ScriptShaper.{ScriptShaper}
use Rattle.script_shapers.specs.declared.shaper.ScriptShaper.TheVariants.{Indic, Khmer, Myanmar, Universal, UniversalJoining}

-- those of a shaper; of Arabic, whose stages depend on the font, nothing is said
abbrev pub pauses_of : ScriptShaper → List Pause
pauses_of Indic = indic_pauses
pauses_of Khmer = khmer_pauses
pauses_of Myanmar = myanmar_pauses
pauses_of Universal = universal_pauses
pauses_of UniversalJoining = universal_pauses
pauses_of _ = []
