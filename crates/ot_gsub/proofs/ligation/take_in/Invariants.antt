use Rattle.std.proofs.Common.{◌≡◌, true, drop}
use Rattle.shaping_buffer.specs.KeepsClusters.{KeepsClusters}
use Rattle.ot_gsub.specs.Ligatures.{take_in}
use Rattle.ot_gsub.proofs.ligation.take_in.Given as goal

abbrev pub invariant-loop-place : goal.invariant-loop-place
invariant-loop-place l = record {
  opened : l.buffer.have_output ≡ true;
  keeps : KeepsClusters l.fn.buffer l.buffer;
  rest : take_in l.first l.places l.fn.buffer ≡ take_in l.components (drop l.place-index l.places) l.buffer;
}
