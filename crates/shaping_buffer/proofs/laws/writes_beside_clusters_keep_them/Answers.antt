use Rattle.std.proofs.Common.{refl}
use Rattle.shaping_buffer.proofs.ClosedKeepsLemmas.{keeps_with_input, keeps_with_out, keeps_with_cur, keeps_with_prev}
use Rattle.shaping_buffer.proofs.laws.writes_beside_clusters_keep_them.Goals as goal

pub returns : goal.returns
returns c = record {
  input = λ s gs e. keeps_with_input s gs s.input refl e;
  out = λ s gs e. keeps_with_out s gs s.out refl e;
  cur = keeps_with_cur;
  prev = keeps_with_prev;
}
