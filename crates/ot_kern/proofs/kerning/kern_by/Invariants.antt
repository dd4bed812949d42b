use Rattle.std.proofs.Common.{◌≡◌, ◌-◌, length, None}
use Rattle.ot_attachments.specs.Flags.{KeepsText}
use Rattle.ot_kern.specs.Kerning.{machine_of, walked}
use Rattle.ot_kern.proofs.kerning.kern_by.Given as goal

-- the walk goes on in as many steps as are left
abbrev pub invariant-loop-step : goal.invariant-loop-step
invariant-loop-step l = record {
  same : walked (l.len - l._step) (machine_of l.machine) l.turn l.across l.buffer
      ≡ walked (length l.fn.buffer.input) (machine_of l.machine) 0 None l.fn.buffer;
  kept : KeepsText l.fn.buffer l.buffer;
}
