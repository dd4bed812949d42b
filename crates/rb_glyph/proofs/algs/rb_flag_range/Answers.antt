use Rattle.std.proofs.Common.{◌+◌, ◌^◌, ◌≤◌, arith}
use Rattle.std.proofs.Math.Pow.{pow_mono}
use Rattle.rb_glyph.proofs.FlagLemmas.{bits_of_range}
use Rattle.rb_glyph.proofs.algs.rb_flag_range.Goals as goal

pub overflow_sub-result : goal.overflow_sub-result
overflow_sub-result c =
    let within : c.args.x ≤ c.args.y + 1 = omega arith in
    let wider : 2 ^ c.args.x ≤ 2 ^ (c.args.y + 1) = pow_mono within in
    omega arith

pub returns-clause-bits : goal.returns-clause-bits
returns-clause-bits c k = rw (c.rb_flag64.ensures, c.rb_flag64-2.ensures) (bits_of_range c.args.x c.args.y k)
