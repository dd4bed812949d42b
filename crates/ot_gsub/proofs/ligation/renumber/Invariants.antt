use Rattle.std.proofs.Common.{◌≡◌, true}
use Rattle.shaping_buffer.specs.KeepsClusters.{KeepsClusters}
use Rattle.ot_gsub.specs.Ligatures.{renumber}
use Rattle.ot_gsub.proofs.ligation.renumber.Given as goal

abbrev pub invariant-loop-ahead : goal.invariant-loop-ahead
invariant-loop-ahead l = record {
  opened : l.buffer.have_output ≡ true;
  keeps : KeepsClusters l.fn.buffer l.buffer;
  so_far : l.buffer ≡ renumber l.components l.ahead l.fn.buffer;
}
