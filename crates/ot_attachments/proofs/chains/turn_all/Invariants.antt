use Rattle.std.proofs.Common.{◌≡◌, ◌-◌, length}
use Rattle.ot_attachments.specs.Chains.{links_turned}
use Rattle.ot_attachments.proofs.chains.turn_all.Given as goal

-- the chain behind the link is turned in as many steps as are left
abbrev pub invariant-loop-turn : goal.invariant-loop-turn
invariant-loop-turn l = record {
  same : links_turned (l.len - l._turn) l.is_horizontal l.parent l.link l.positions
      ≡ links_turned (length l.fn.positions) l.is_horizontal l.parent l.first l.fn.positions;
  as_many : length l.positions ≡ length l.fn.positions;
}
