use Rattle.shaping_buffer.proofs.KeepsLemmas.{keeps_none, keeps_then, ordered_none, ordered_then}
use Rattle.shaping_buffer.proofs.ClosedKeepsLemmas.{keeps_sides}
use Rattle.shaping_buffer.proofs.laws.clusters_that_are_kept_stay_kept.Goals as goal

pub returns : goal.returns
returns c = record {
  none = keeps_none;
  steps = keeps_then;
  order_none = ordered_none;
  order_steps = ordered_then;
  alike = keeps_sides;
}
