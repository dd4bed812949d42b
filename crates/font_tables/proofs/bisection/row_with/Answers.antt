use Rattle.std.proofs.Common.{◌≡◌, ◌∙◌, Some, sym, ap, arith}
use Rattle.std.specs.declared.cmp.Ordering.TheVariants.{Less, Greater}
use Rattle.font_tables.specs.Bisection.{middle}
use Rattle.font_tables.proofs.BisectionLemmas.{bisected-before, bisected-behind, none_from, none_up_to}
use Rattle.font_tables.proofs.bisection.row_with.Goals as goal

pub loop-low-preserved-in-Less : goal.loop-low-preserved-in-Less
loop-low-preserved-in-Less g c =
    let beside = g.R.KeyedRows.beside_of c.args.rows.now c.args.key in
    let is : beside (middle c.loop-low.low c.loop-low.high) ≡ Some Less = sym c.beside.ensures ∙ c.in_ok-beside.was ∙ ap Some c.in-Less.is in
    let search = bisected-before beside c.args.count c.loop-low.low c.loop-low.high c.loop-low-test.true (omega arith) is in
    record {
      order = omega arith;
      within = omega arith;
      same = search ∙ c.loop-low.invariant.same;
      before = c.loop-low.invariant.before;
      behind = λ order. none_from beside c.args.count (middle c.loop-low.low c.loop-low.high) is order;
    }

pub loop-low-preserved : goal.loop-low-preserved
loop-low-preserved g c =
    let beside = g.R.KeyedRows.beside_of c.args.rows.now c.args.key in
    let is : beside (middle c.loop-low.low c.loop-low.high) ≡ Some Greater = sym c.beside.ensures ∙ c.in_ok-beside.was ∙ ap Some c.in-Greater.is in
    let search = bisected-behind beside c.args.count c.loop-low.low c.loop-low.high c.loop-low-test.true (omega arith) is in
    record {
      order = omega arith;
      within = c.loop-low.invariant.within;
      same = search ∙ c.loop-low.invariant.same;
      before = λ order. none_up_to beside c.args.count (middle c.loop-low.low c.loop-low.high) (omega arith) is order;
      behind = c.loop-low.invariant.behind;
    }
