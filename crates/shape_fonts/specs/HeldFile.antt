-- A file that is held.
use Rattle.std.specs.Prelude.{ℕ, List, Option}

-- its name, where one was read, and its bytes
pub record HeldFile : Type 0 where
  pub path : Option (List ℕ)
  pub bytes : List ℕ
