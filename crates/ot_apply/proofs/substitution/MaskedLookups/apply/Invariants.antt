use Rattle.std.proofs.Common.{◌≡◌, false}
use Rattle.ot_layout.specs.Budget.{IsNotMore}
use Rattle.shaping_buffer.specs.KeepsClusters.{KeepsClusters}
use Rattle.ot_apply.proofs.substitution.MaskedLookups.apply.Given as goal

abbrev pub invariant-loop-index : goal.invariant-loop-index
invariant-loop-index l = record {
  closed : l.buffer.have_output ≡ false;
  keeps : KeepsClusters l.fn.buffer l.buffer;
  spent : IsNotMore l.fn.progress.search.budget l.progress.search.budget;
}
