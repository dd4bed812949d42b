use Rattle.std.proofs.Common.{◌≡◌, None}
use Rattle.rb_glyph.proofs.HangulLemmas.{by_leading, by_trailing}
use Rattle.rb_glyph.proofs.hangul.compose_hangul.Goals as goal

pub returns-in-Some : goal.returns-in-Some
returns-in-Some c = by_leading c.args.a c.args.b c.in-Some.s c.in-Some.ensures

pub returns : goal.returns
returns c =
    let none : c.compose_leading.result ≡ None = c.in_default.is in
    by_trailing c.args.a c.args.b c.compose_leading.result c.compose_trailing.result none
    c.compose_leading.ensures c.compose_trailing.ensures
