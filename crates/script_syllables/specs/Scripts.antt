-- Scripts that a shaper serves, by their ISO 15924 tags.
use Rattle.std.specs.Prelude.{ℕ, Bool, List, ◌==◌}
use Rattle.std.specs.List.{list_any}

-- whether a script is one of them
abbrev pub is_listed : List ℕ → ℕ → Bool
is_listed tags script = list_any (λ tag. tag == script) tags
