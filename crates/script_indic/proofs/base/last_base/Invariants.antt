use Rattle.std.proofs.Common.{◌≡◌, ◌-◌, length}
use Rattle.script_indic.specs.Base.{last_base, searched}
use Rattle.script_indic.proofs.base.last_base.Given as goal

-- what is left to look at gives the base
abbrev pub invariant-loop-turn : goal.invariant-loop-turn
invariant-loop-turn l = searched l.syllable l.limit (length l.syllable - l.turn) l.walk ≡ last_base l.syllable l.limit
