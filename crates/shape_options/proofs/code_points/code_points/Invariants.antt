use Rattle.std.proofs.Common.{◌≡◌, ◌++◌, length, option_map}
use Rattle.shape_options.specs.CodePoints.{numbers_in, numbers_from}
use Rattle.shape_options.proofs.code_points.code_points.Given as goal

-- the numbers so far come before those of the bytes that are left
abbrev pub invariant-loop-byte : goal.invariant-loop-byte
invariant-loop-byte l =
    numbers_in l.fn.text ≡ option_map (λ ns. l.numbers.items ++ ns) (numbers_from l.reading l.rest)

abbrev pub decreases-loop-byte : goal.decreases-loop-byte
decreases-loop-byte l = length l.rest
