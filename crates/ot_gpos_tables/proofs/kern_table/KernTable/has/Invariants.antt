use Rattle.std.proofs.Common.{◌≡◌, ◌-◌}
use Rattle.ot_gpos_tables.specs.KernTable.{has_subtable, is_such, some_subtable}
use Rattle.ot_gpos_tables.proofs.kern_table.KernTable.has.Given as goal

-- as many subtables are left as were not asked
abbrev pub invariant-loop-number : goal.invariant-loop-number
invariant-loop-number l =
    some_subtable (is_such l.property) (l.self.count - l.number) l.self.is_apple l.self.table.now l.at
    ≡ has_subtable (is_such l.property) l.self
