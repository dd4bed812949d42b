use Rattle.ot_positioning.proofs.lookups.apply_kern.Goals as goal

pub returns-clause-kerned : goal.returns-clause-kerned
returns-clause-kerned c = record {
  table = c.new-table.result;
  bytes = c.new-table.ensures.table;
  form = c.new-table.ensures.form;
  count = c.new-table.ensures.whole;
  is = c.kern.ensures.is;
}
