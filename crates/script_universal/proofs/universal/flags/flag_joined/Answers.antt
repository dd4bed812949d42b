use Rattle.std.proofs.Common.{Option, sym, ap}
use Rattle.script_universal.specs.Masks.{flag_joined}
use Rattle.script_universal.specs.declared.universal.flags.Joined.{Joined}
use Rattle.script_universal.proofs.universal.flags.flag_joined.Goals as goal

pub returns-in-None-clause-is : goal.returns-in-None-clause-is
returns-in-None-clause-is g c = λ test by.
    sym (ap (λ (o : Option Joined). flag_joined test c.args.masks.now o c.args.own c.args.buffer.now) c.in-None.is)
