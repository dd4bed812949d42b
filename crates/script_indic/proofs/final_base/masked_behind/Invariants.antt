use Rattle.std.proofs.Common.{◌≡◌, drop}
use Rattle.std.specs.List.{position_from}
use Rattle.script_indic.specs.FinalBase.{has_mask, masked_behind}
use Rattle.script_indic.proofs.final_base.masked_behind.Given as goal

-- what is left to look at gives the item
abbrev pub invariant-loop-at : goal.invariant-loop-at
invariant-loop-at l =
    position_from (has_mask l.mask) l.at (drop l.at l.syllable) ≡ masked_behind l.mask l.place l.syllable
