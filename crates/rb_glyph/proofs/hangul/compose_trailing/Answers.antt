use Rattle.std.proofs.Common.{◌≡◌, ◌+◌, Some, inr, arith, rules}
use Rattle.rb_glyph.specs.Hangul.{TrailingComposes}
use Rattle.rb_glyph.proofs.HangulLemmas.{exactly, of_trailing, one_syllable}
use Rattle.rb_glyph.proofs.hangul.compose_trailing.Goals as goal

pub returns : goal.returns
returns c =
    let a = c.args.a in
    let b = c.args.b in
    let t = c.in_ok-t.t in
    let is : c.from_u32.result ≡ Some (a + t) = search rules in
    let composes : TrailingComposes (a + t) a b =
    of_trailing (a + t) a b c.in_ok-index.index t (omega arith) (omega arith) (omega arith) (omega arith)
    (omega arith) (omega arith) (omega arith) in
    exactly (λ s. TrailingComposes s a b) c.from_u32.result (a + t) is composes
    (λ s h. one_syllable s (a + t) a b (inr h) (inr composes))
