use Rattle.std.proofs.Common.{◌≡◌, length, ◌-◌}
use Rattle.outline_tables.specs.Operand.{dict_of, said_by}
use Rattle.outline_tables.proofs.dict.Dict.read.Given as goal

-- what is left says the rest
abbrev pub invariant-loop : goal.invariant-loop
invariant-loop l = said_by (length l.data - l.index) l.dict l.numbers l.rest ≡ dict_of l.data
