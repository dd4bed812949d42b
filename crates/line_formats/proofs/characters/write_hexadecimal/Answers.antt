use Rattle.std.proofs.Common.{◌-◌, arith, refl}
use Rattle.line_formats.proofs.CharacterLemmas.{digits-more, digits-all}
use Rattle.line_formats.proofs.characters.write_hexadecimal.Goals as goal

pub loop-k-preserved : goal.loop-k-preserved
loop-k-preserved c =
    let len = c.args.len in
    let k = c.loop-k.k in
    let below = c.loop-k-test.true in
    digits-more c.args.number (len - k) (len - 1 - k) _ _ _ _ _ c.loop-k.invariant (omega (arith, below)) (omega (arith, below))
    refl c.in_ok-write_digit.ensures

pub returns : goal.returns
returns c = digits-all c.args.number _ _ _ (omega (arith, c.loop-k-test.false)) c.loop-k.invariant
