use Rattle.shaping_buffer.proofs.KeepsLemmas.{keeps_then_turns, turns_then_keeps, turns_twice}
use Rattle.shaping_buffer.proofs.laws.clusters_that_are_turned_twice_are_kept.Goals as goal

pub returns : goal.returns
returns c = record { behind = keeps_then_turns; before = turns_then_keeps; twice = turns_twice }
