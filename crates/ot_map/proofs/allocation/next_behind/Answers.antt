use Rattle.std.proofs.Common.{arith}
use Rattle.ot_map.proofs.allocation.next_behind.Goals as goal

pub returns-else-feature-eq-GLOBAL_SHIFT-clause-behind : goal.returns-else-feature-eq-GLOBAL_SHIFT-clause-behind
returns-else-feature-eq-GLOBAL_SHIFT-clause-behind c =
    let stands = c.requires c.if-feature-eq-GLOBAL_SHIFT.false in
    let start = stands.0 in
    let high = stands.1 in
    (λ low. omega arith, omega arith, λ own. omega arith)
