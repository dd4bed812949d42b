use Rattle.std.proofs.Common.{◌-◌, drop}
use Rattle.aat_tables.specs.Metamorphosis.{chains_in}
use Rattle.aat_tables.proofs.MetamorphosisLemmas.{AreReading}
use Rattle.aat_tables.proofs.metamorphosis.Metamorphosis.read_all.Given as goal

-- what was read stands before what the rest has, and all of it is what the table has
abbrev pub invariant-loop-chain : goal.invariant-loop-chain
invariant-loop-chain l =
    AreReading l.self l.fn.self.glyph_count (chains_in l.count (drop 8 l.table)) (chains_in (l.count - l._chain) l.rest)
