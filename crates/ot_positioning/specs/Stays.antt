-- What always stays while the glyphs of a text are positioned.
use Rattle.shaping_buffer.specs.KeepsClusters.{KeepsClusters}
use Rattle.shaping_buffer.specs.State.{HasPositions, State}

-- no output is opened, positions stay on, and the clusters are kept
abbrev pub Stays : State → State → Type 0
Stays old new = record {
  placed : HasPositions new;
  keeps : KeepsClusters old new;
}
