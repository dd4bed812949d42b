use Rattle.std.proofs.Common.{◌≡◌, drop}
use Rattle.ucd_normal.specs.Composition.{composite}
use Rattle.unicode_tables.specs.Mapping.{whole_from, whole_of}
use Rattle.unicode_tables.proofs.mapping.whole_of.Given as goal

-- what is left composes on to what all do
abbrev pub invariant-loop-c : goal.invariant-loop-c
invariant-loop-c l = whole_from composite l.whole (drop l.c-index l.rest) ≡ whole_of composite l.chars
