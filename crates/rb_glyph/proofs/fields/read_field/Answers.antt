use Rattle.std.proofs.Common.{◌/◌, ◌^◌, bit_and, ap, ◌∙◌}
use Rattle.rb_glyph.proofs.FieldLemmas.{bit_and-shift}
use Rattle.rb_glyph.proofs.fields.read_field.Goals as goal

pub returns : goal.returns
returns c =
    ap (λ x. bit_and (c.args.word / 2 ^ c.args.from) x) c.low_ones.ensures
    ∙ bit_and-shift c.args.word c.args.from c.args.bits
