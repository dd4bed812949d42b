use Rattle.std.proofs.Common.{◌≢◌, ◌≤◌, All, length}
use Rattle.script_joining.proofs.arabic.fallback.FallbackLookups.new.Given as goal

abbrev pub invariant-loop-column : goal.invariant-loop-column
invariant-loop-column g l = (length l.collected.masks.items ≤ l.column) × All (λ mask. mask ≢ 0) l.collected.masks.items
