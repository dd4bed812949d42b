-- Glyphs that are in one cluster, as clauses of the buffer say it.
use Rattle.std.proofs.Common.{ℕ, ◌≤◌, ◌∙◌, length, sym, arith}
use Rattle.glyph_lists.specs.Clusters.{zero_glyph}
use Rattle.glyph_lists.proofs.ClustersLemmas.{get_or-clusters}
use Rattle.shaping_buffer.specs.State.{State}
use Rattle.shaping_buffer.specs.KeepsClusters.{IsOneCluster}
use Rattle.aat_substitution.specs.Alike.{AreAlike}

pub one_cluster : (start end : ℕ) (s : State) → end ≤ length s.input → AreAlike start end s.input → IsOneCluster start end s
one_cluster start end s within alike any k ge lt =
    get_or-clusters s.input k zero_glyph (omega arith) ∙ alike k ge lt
    ∙ sym (get_or-clusters s.input start zero_glyph (omega arith))
