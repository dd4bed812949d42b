-- A number of 32 bits has at most ten digits, and its text is ASCII.
use Rattle.std.proofs.Common.{ℕ, ◌^◌, ◌<◌, ◌≤◌, List, ◌++◌, length, arith}
use Rattle.std.specs.Fmt.{decimal}
use Rattle.std.specs.Str.{IsAscii}
use Rattle.std.proofs.lemmas.Fmt.{length-decimal-le, IsAscii-decimal}
use Rattle.std.proofs.lemmas.Str.{IsAscii-append}

pub ten_digits : (n : ℕ) → n < 2 ^ 32 → length (decimal n) ≤ 10
ten_digits n h = length-decimal-le 10 n (omega arith) (omega arith) (omega arith)

pub ascii_behind_number : (n : ℕ) (text : List ℕ) → n < 2 ^ 32 → IsAscii text → IsAscii (decimal n ++ text)
ascii_behind_number n text h ascii = IsAscii-append (decimal n) text (IsAscii-decimal n (omega arith)) ascii
