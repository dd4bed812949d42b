-- Cluster levels, by number and by name, and what holds at which of them.
use Rattle.std.specs.Prelude.{ℕ, ◌==◌, ◌||◌, Bool, not, if◌then◌else◌}
use Rattle.shaping_buffer.specs.declared.cluster_level.BufferClusterLevel.{BufferClusterLevel}
use Rattle.shaping_buffer.specs.declared.cluster_level.BufferClusterLevel.TheVariants.{MonotoneGraphemes}
use Rattle.shaping_buffer.specs.declared.cluster_level.BufferClusterLevel.TheVariants.{MonotoneCharacters, Characters}
use Rattle.shaping_buffer.specs.declared.cluster_level.BufferClusterLevel.TheVariants.{Graphemes}

-- At levels 2 and 3 clusters may stand in any order: merges mark glyphs and change no cluster, and a scan reads all
-- clusters of its range, not only those at its ends. Any other level is monotone.
abbrev pub allows_any_order : ℕ → Bool
allows_any_order level = level == 2 || level == 3

-- At all levels except 1 and 2 `merge_grapheme_clusters` makes a grapheme one cluster.
abbrev pub groups_graphemes : ℕ → Bool
groups_graphemes level = not (level == 1 || level == 2)

-- the number of a level
abbrev pub level_of : BufferClusterLevel → ℕ
level_of MonotoneGraphemes = 0
level_of MonotoneCharacters = 1
level_of Characters = 2
level_of Graphemes = 3

-- the level of a number: any except 1, 2 and 3 acts as 0
abbrev pub named_level : ℕ → BufferClusterLevel
named_level n =
    if n == 1 then MonotoneCharacters
    else (if n == 2 then Characters else (if n == 3 then Graphemes else MonotoneGraphemes))
