-- A text that is turned where it runs against its script.
use Rattle.std.specs.Prelude.{Bool, true, false}
use Rattle.shaping_buffer.specs.State.{State}
use Rattle.shaping_buffer.specs.KeepsClusters.{KeepsClusters, TurnsClusters}

-- the clusters are kept, or where this holds turned
abbrev pub KeepsOrTurns : Bool → State → State → Type 0
KeepsOrTurns false old new = KeepsClusters old new
KeepsOrTurns true old new = TurnsClusters old new
