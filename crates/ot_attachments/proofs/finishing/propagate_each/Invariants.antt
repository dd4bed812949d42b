use Rattle.std.proofs.Common.{◌≡◌, length}
use Rattle.ot_attachments.specs.Offsets.{propagated_before}
use Rattle.ot_attachments.specs.Spans.{IsSummed}
use Rattle.ot_attachments.proofs.finishing.propagate_each.Given as goal

-- the glyphs before this place are moved
abbrev pub invariant-loop-place : goal.invariant-loop-place
invariant-loop-place l = record {
  is : l.positions ≡ propagated_before l.direction l.place l.fn.positions;
  as_many : length l.positions ≡ length l.fn.positions;
  span : IsSummed l.positions l.span;
}
