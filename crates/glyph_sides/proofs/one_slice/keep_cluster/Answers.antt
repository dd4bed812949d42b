use Rattle.std.proofs.Common.{List, ◌++◌, drop, arith}
use Rattle.std.proofs.lemmas.Grind.{common_steps}
use Rattle.rb_glyph.specs.declared.info.hb_glyph_info_t.{hb_glyph_info_t}
use Rattle.glyph_sides.proofs.Views.{drop-next}
use Rattle.glyph_sides.proofs.one_slice.keep_cluster.Goals as goal

pub returns-clause-rest : goal.returns-clause-rest
returns-clause-rest c =
    let a = c.args in
    let read = drop a.gap.start c.split_at_mut-front.result.0.now in
    let info : List hb_glyph_info_t = c.keep_cluster.new.out ++ read ++ c.keep_cluster.new.input in
    let left = drop-next a.gap.end info in
    grind (arith, common_steps, left)
