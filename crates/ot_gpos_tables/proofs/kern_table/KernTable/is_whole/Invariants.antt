use Rattle.std.proofs.Common.{◌≡◌, ◌-◌}
use Rattle.ot_gpos_tables.specs.KernTable.{are_whole, first_subtable}
use Rattle.ot_gpos_tables.proofs.kern_table.KernTable.is_whole.Given as goal

-- as many subtables are left as were not looked at
abbrev pub invariant-loop-number : goal.invariant-loop-number
invariant-loop-number l =
    are_whole (l.self.count - l.number) l.self.is_apple l.self.table.now l.at
    ≡ are_whole l.self.count l.self.is_apple l.self.table.now (first_subtable l.self.is_apple)
