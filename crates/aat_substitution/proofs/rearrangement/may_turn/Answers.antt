use Rattle.std.proofs.Common.{List, subst}
use Rattle.rb_glyph.specs.declared.info.hb_glyph_info_t.{hb_glyph_info_t}
use Rattle.aat_substitution.specs.Alike.{AreAlike}
use Rattle.aat_substitution.proofs.ClusterLemmas.{one_cluster}
use Rattle.aat_substitution.proofs.rearrangement.may_turn.Goals as goal

pub returns : goal.returns
returns c = λ yes.
    one_cluster c.args.start c.args.end c.args.buffer.now c.requires.within
    (subst (λ (l : List hb_glyph_info_t). AreAlike c.args.start c.args.end l) c.info.ensures (c.is_one_cluster.ensures yes))
