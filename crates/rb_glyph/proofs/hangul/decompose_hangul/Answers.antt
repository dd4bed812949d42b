use Rattle.std.proofs.Common.{◌≡◌, ◌+◌, ◌-◌, ◌%◌, inr, arith}
use Rattle.rb_glyph.specs.Hangul.{HangulComposes, TrailingComposes}
use Rattle.rb_glyph.proofs.HangulLemmas.{exactly_pair, of_trailing, one_pair}
use Rattle.rb_glyph.proofs.hangul.decompose_hangul.Goals as goal

pub returns-then-t-ne0 : goal.returns-then-t-ne0
returns-then-t-ne0 c =
    let s = c.args.s in
    let index = c.in_ok-index.index in
    let t = index % 28 in
    let a = c.in_ok-from_u32.field-0 in
    let b = c.in_ok-from_u32-2.field-0 in
    let a_is : a ≡ s - t = c.in_ok-from_u32.ensures.value.1 in
    let b_is : b ≡ 0x11A7 + t = omega (arith, c.in_ok-from_u32-2.ensures.value.1) in
    let trailing : TrailingComposes s a b =
    of_trailing s a b (index - t) t (omega arith) b_is (omega arith) (omega arith) (omega arith) (omega arith)
    (omega arith) in
    let composes : HangulComposes s a b = inr trailing in
    exactly_pair (HangulComposes s) a b composes (λ x y h. one_pair s x y a b h composes)
