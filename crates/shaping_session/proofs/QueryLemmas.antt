-- A number in eight hexadecimal digits.
use Rattle.std.proofs.Common.{ℕ, ◌≡◌, ◌^◌, ◌-◌, ◌++◌, [], length, replicate, false, ap, ◌∙◌, arith, append-nil}
use Rattle.std.specs.Fmt.{padded_integral, format_spec, char_count}
use Rattle.shaping_session.specs.Queries.{hexadecimal, eight_digits}

-- what `{:08x}` writes
pub padded_integral-eight_digits : (n : ℕ)
    → padded_integral (format_spec 32 0 4 8 (2 ^ 64 - 1)) false [] (hexadecimal n)
    ≡ eight_digits n
unfolding padded_integral char_count
padded_integral-eight_digits n =
    let zeros = 8 - length (hexadecimal n) in
    let same : zeros - 0 - 0 ≡ zeros = omega arith in
    ap (λ l. replicate (zeros - 0 - 0) 48 ++ l) (append-nil (hexadecimal n))
    ∙ ap (λ k. replicate k 48 ++ hexadecimal n) same
