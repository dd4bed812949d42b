use Rattle.std.proofs.Common.{◌+◌, arith}
use Rattle.std.proofs.lemmas.Str.Parse.{digits_value-take-le}
use Rattle.rb_text.proofs.Digits.{value_more}
use Rattle.rb_text.proofs.text_parser.value_of.Goals as goal

pub loop-digit-preserved : goal.loop-digit-preserved
loop-digit-preserved c =
    let more = value_more c.args.digits.now c.loop-digit.digit-index c.requires c.loop-digit-test.true in
    (omega (arith, more.1, c.loop-digit.invariant.0, c.from.ensures), omega arith)

pub returns-then-value-from-clause-none : goal.returns-then-value-from-clause-none
returns-then-value-from-clause-none c =
    let more = value_more c.args.digits.now c.loop-digit.digit-index c.requires c.loop-digit-test.true in
    omega (
      arith,
      more.1,
      c.loop-digit.invariant.0,
      c.from.ensures,
      digits_value-take-le 10 c.args.digits.now (c.loop-digit.digit-index + 1) (omega arith),
    )
