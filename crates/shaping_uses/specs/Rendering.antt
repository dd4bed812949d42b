-- A text whose first two glyphs become one.
use Rattle.std.specs.Prelude.{ℕ, List, [], ◌∷◌}
use Rattle.rb_text.specs.declared.feature.Feature.{Feature}
use Rattle.shaping_buffer.specs.declared.cluster_level.BufferClusterLevel.TheVariants.{MonotoneGraphemes}
use Rattle.shaping_buffer.specs.State.{State}
use Rattle.shaping_buffer.specs.Positions.{with_zero_positions}
use Rattle.shaping_runs.specs.Render.{text_with_features}
use Rattle.shaping_runs.specs.Replay.{after}
use Rattle.shaping_uses.specs.Runs.{ligature_calls}

-- a text with one feature, before the calls
abbrev pub featured : List ℕ → Feature → State
featured text feature = text_with_features MonotoneGraphemes text (feature ∷ [])

-- the same after the calls of a ligature, at positions of 0
abbrev pub with_ligature : List ℕ → Feature → ℕ → State
with_ligature text feature ligature = with_zero_positions (after (ligature_calls ligature) (featured text feature))
