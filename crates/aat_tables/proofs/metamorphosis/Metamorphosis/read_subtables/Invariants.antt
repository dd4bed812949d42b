use Rattle.std.proofs.Common.{◌-◌}
use Rattle.aat_tables.specs.Metamorphosis.{subtables_in}
use Rattle.aat_tables.proofs.MetamorphosisLemmas.{IsReading}
use Rattle.aat_tables.proofs.metamorphosis.Metamorphosis.read_subtables.Given as goal

-- what was read stands before what the rest has, and all of it is what the chain has
abbrev pub invariant-loop-subtable : goal.invariant-loop-subtable
invariant-loop-subtable l =
    IsReading l.fn.self l.self (subtables_in l.fn.count l.fn.within l.fn.start) (subtables_in (l.count - l._subtable) l.left l.rest)
