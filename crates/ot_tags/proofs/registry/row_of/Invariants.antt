use Rattle.std.proofs.Common.{◌≡◌, ℕ, ◌-◌, ◌/◌, ◌<◌, ◌≤◌, false, length}
use Rattle.std.specs.Str.{bytes_eq}
use Rattle.ot_tags.specs.Registry.{rows_of}
use Rattle.ot_tags.proofs.RegistryLemmas.{code_at}
use Rattle.ot_tags.proofs.registry.row_of.Given as goal

-- no row outside of those that are left has the code
abbrev pub invariant-loop-low : goal.invariant-loop-low
invariant-loop-low l = record {
  order : l.low ≤ l.high;
  within : l.high ≤ length l.rows / 16;
  before : (k : ℕ) → k < l.low → bytes_eq (code_at (rows_of l.rows) k) l.code ≡ false;
  behind : (k : ℕ) → l.high ≤ k → k < length (rows_of l.rows) → bytes_eq (code_at (rows_of l.rows) k) l.code ≡ false;
}

abbrev pub decreases-loop-low : goal.decreases-loop-low
decreases-loop-low l = l.high - l.low
