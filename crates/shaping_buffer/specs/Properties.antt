-- What is said of a text, and what is guessed.
use Rattle.std.specs.Prelude.{ℕ, List, Option, None, Some}
use Rattle.rb_common.specs.declared.direction.Direction.{Direction}
use Rattle.rb_common.specs.declared.direction.Direction.TheVariants.{Invalid}
use Rattle.glyph_lists.specs.Context.{before_text, after_text}
use Rattle.glyph_lists.specs.Guess.{guessed_script, guessed_direction}
use Rattle.glyph_lists.specs.ClusterNumbers.{reset_clusters}
use Rattle.shaping_buffer.specs.State.{State}

abbrev pub with_pre_context : List ℕ → State → State
with_pre_context text s = record s { pre_context = before_text text }

abbrev pub with_post_context : List ℕ → State → State
with_post_context text s = record s { post_context = after_text text }

-- each glyph has its place as cluster, modulo 2^32
abbrev pub with_clusters_reset : State → State
with_clusters_reset s = record s { input = reset_clusters 0 s.input }

-- the first, or the second where there is none
abbrev pub or_else : {X : Type 0} → Option X → Option X → Option X
or_else (Some x) other = Some x
or_else None other = other

-- the direction, or this one where it is not known
abbrev pub direction_or : Direction → Direction → Direction
direction_or Invalid other = other
direction_or d other = d

-- the script is guessed where none was said, and then the direction from it where that was not known
abbrev pub guessed : State → State
guessed s =
    let script = or_else s.script (guessed_script s.input) in
    record s { script = script; direction = direction_or s.direction (guessed_direction script) }
