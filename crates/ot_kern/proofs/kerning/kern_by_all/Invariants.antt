use Rattle.std.proofs.Common.{◌≡◌, ◌-◌}
use Rattle.ot_attachments.specs.Flags.{KeepsText}
use Rattle.ot_kern.specs.Kerning.{kerned, kerned_from}
use Rattle.ot_kern.proofs.kerning.kern_by_all.Given as goal

-- as many subtables are left as were not applied
abbrev pub invariant-loop-number : goal.invariant-loop-number
invariant-loop-number l = record {
  same : kerned_from (l.table.count - l.number) (record { table = l.table; scale = l.scale; options = l.options }) l.at l.is_chained l.buffer
      ≡ kerned l.table l.scale l.options l.fn.buffer;
  kept : KeepsText l.fn.buffer l.buffer;
}
