use Rattle.std.proofs.Common.{◌≡◌, ◌-◌, ◌^◌, bit_and, ap, ◌∙◌, rules}
use Rattle.rb_glyph.specs.Fields.{field, with_field}
use Rattle.rb_glyph.proofs.FieldLemmas.{with_field-bit_cleared}
use Rattle.rb_glyph.proofs.info.hb_glyph_info_t.unhide.Goals as goal

pub returns : goal.returns
returns c =
    let word = c.args.self.now.var2 in
    let made : c.from_bits_retain-props.result.0 ≡ c.unicode_props.result = search rules in
    let removed : c.remove.new.self.0 ≡ bit_and c.from_bits_retain-props.result.0 (2 ^ 16 - 1 - 64) = search rules in
    let bits : c.bits.result ≡ c.remove.new.self.0 = search rules in
    let value : c.bits.result ≡ bit_and (field word 0 16) (2 ^ 16 - 1 - 64) =
    bits ∙ removed ∙ ap (λ x. bit_and x (2 ^ 16 - 1 - 64)) (made ∙ c.unicode_props.ensures) in
    c.set_unicode_props.ensures
    ∙ ap (λ x. record c.args.self.now { var2 = x }) (ap (with_field word 0 16) value ∙ with_field-bit_cleared word)
