use Rattle.std.proofs.Common.{◌-◌, ◌*◌, ◌%◌, ◌^◌, ◌<◌, bit_and, bit_or, ap, ◌∙◌, arith}
use Rattle.rb_glyph.proofs.FieldLemmas.{bit_or-mask}
use Rattle.rb_glyph.proofs.fields.write_field.Goals as goal

pub returns : goal.returns
returns c =
    let old = c.args.word.now in
    let small : old < 2 ^ 32 = omega arith in
    ap (λ x. bit_or (bit_and old (4294967295 - x * 2 ^ c.args.from % 4294967296))
    (c.args.value * 2 ^ c.args.from % 4294967296)) c.low_ones.ensures
    ∙ bit_or-mask old c.args.from c.args.bits c.args.value c.requires.within small c.requires.fits
