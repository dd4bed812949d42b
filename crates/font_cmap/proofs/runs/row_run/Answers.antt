use Rattle.std.proofs.Common.{◌≡◌, ◌∙◌, Some, None, sym, ap, arith}
use Rattle.std.specs.declared.cmp.Ordering.TheVariants.{Less, Equal, Greater}
use Rattle.font_tables.specs.Bisection.{middle, row_with}
use Rattle.font_tables.proofs.BisectionLemmas.{bisected-step, bisected-before, bisected-behind}
use Rattle.font_cmap.proofs.runs.row_run.Goals as goal

pub returns-in-None-clause-alike : goal.returns-in-None-clause-alike
unfolding row_with
returns-in-None-clause-alike g c = λ other from until.
    let place = g.R.CodeRows.place_of c.args.rows.now other in
    let is : place (middle c.loop-low.low c.loop-low.high) ≡ None =
    c.beside_run-beside.ensures.alike other from (omega (arith, c.min-last.ensures)) ∙ sym c.beside_run-beside.ensures.order ∙ c.in-None.is in
    let found = rw is at (bisected-step place c.args.count c.loop-low.low c.loop-low.high c.loop-low-test.true (omega arith)) in
    sym (c.loop-low.invariant.same other from (omega (arith, c.min-last.ensures))) ∙ found

pub returns-in-Some-Equal-clause-alike : goal.returns-in-Some-Equal-clause-alike
unfolding row_with
returns-in-Some-Equal-clause-alike g c = λ other from until.
    let place = g.R.CodeRows.place_of c.args.rows.now other in
    let kind : c.in-Some-Equal.field-0 ≡ Equal = rw c.in-Some-Equal.is at c.in-Some-Equal.field-0-is in
    let now : c.beside_run-beside.result.order ≡ Some Equal = c.in-Some-Equal.is ∙ ap Some kind in
    let is : place (middle c.loop-low.low c.loop-low.high) ≡ Some Equal =
    c.beside_run-beside.ensures.alike other from (omega (arith, c.min-last.ensures)) ∙ sym c.beside_run-beside.ensures.order ∙ now in
    let found = rw is at (bisected-step place c.args.count c.loop-low.low c.loop-low.high c.loop-low-test.true (omega arith)) in
    sym (c.loop-low.invariant.same other from (omega (arith, c.min-last.ensures))) ∙ found

pub loop-low-preserved-in-Some-Less : goal.loop-low-preserved-in-Some-Less
loop-low-preserved-in-Some-Less g c = record {
  order = omega arith;
  within = omega arith;
  goes = omega (arith, c.min-last.ensures, c.beside_run-beside.ensures.goes);
  same = λ other from until.
      let place = g.R.CodeRows.place_of c.args.rows.now other in
      let kind : c.in-Some-Less.field-0 ≡ Less = rw c.in-Some-Less.is at c.in-Some-Less.field-0-is in
      let now : c.beside_run-beside.result.order ≡ Some Less = c.in-Some-Less.is ∙ ap Some kind in
      let is : place (middle c.loop-low.low c.loop-low.high) ≡ Some Less =
      c.beside_run-beside.ensures.alike other from (omega (arith, c.min-last.ensures)) ∙ sym c.beside_run-beside.ensures.order ∙ now in
      bisected-before place c.args.count c.loop-low.low c.loop-low.high c.loop-low-test.true (omega arith) is
      ∙ c.loop-low.invariant.same other from (omega (arith, c.min-last.ensures));
}

pub loop-low-preserved : goal.loop-low-preserved
loop-low-preserved g c = record {
  order = omega arith;
  within = c.loop-low.invariant.within;
  goes = omega (arith, c.min-last.ensures, c.beside_run-beside.ensures.goes);
  same = λ other from until.
      let place = g.R.CodeRows.place_of c.args.rows.now other in
      let kind : c.in-Some-Greater.field-0 ≡ Greater = rw c.in-Some-Greater.is at c.in-Some-Greater.field-0-is in
      let now : c.beside_run-beside.result.order ≡ Some Greater = c.in-Some-Greater.is ∙ ap Some kind in
      let is : place (middle c.loop-low.low c.loop-low.high) ≡ Some Greater =
      c.beside_run-beside.ensures.alike other from (omega (arith, c.min-last.ensures)) ∙ sym c.beside_run-beside.ensures.order ∙ now in
      bisected-behind place c.args.count c.loop-low.low c.loop-low.high c.loop-low-test.true (omega arith) is
      ∙ c.loop-low.invariant.same other from (omega (arith, c.min-last.ensures));
}
