use Rattle.std.proofs.Common.{◌≡◌, ◌<◌, true, length}
use Rattle.shaping_buffer.specs.KeepsClusters.{KeepsClusters}
use Rattle.shaping_buffer.specs.Step.{unlimited}
use Rattle.ot_gsub.specs.Edits.{put_parts}
use Rattle.ot_gsub.specs.Writing.{has_twin_before}
use Rattle.ot_gsub.proofs.multiplication.multiply.Given as goal

abbrev pub invariant-loop-index : goal.invariant-loop-index
invariant-loop-index l = record {
  opened : l.buffer.have_output ≡ true;
  glyph : 0 < length l.buffer.input;
  keeps : KeepsClusters l.fn.buffer l.buffer;
  parts : put_parts l.gdef.table.now l.whole l.sequence.table.now l.index l.fn.buffer ≡ unlimited l.buffer;
  twin : 0 < l.index → has_twin_before l.buffer ≡ true;
}
