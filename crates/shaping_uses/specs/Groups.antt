-- Which neighbours a caller keeps together.
use Rattle.std.specs.Prelude.{ℕ, ◌==◌, List}
use Rattle.std.specs.List.{list_any}
use Rattle.glyph_lists.specs.Groups.{Test}

-- the later of two neighbours has one of these ids, as a mark goes on with its base
abbrev pub goes_on_at : List ℕ → Test
goes_on_at ids x y = list_any (λ id. id == y.glyph_id) ids
