use Rattle.std.proofs.Common.{◌≡◌}
use Rattle.font_gvar.proofs.phantoms.VariedPhantoms.add_deltas.Given as goal

-- points are moved later
abbrev pub invariant-loop : goal.invariant-loop
invariant-loop l = l.self.phantoms ≡ l.initial.self.phantoms
