use Rattle.rb_glyph.proofs.FieldLemmas.{field_set, field_below, field_above, signed_of_field-whole}
use Rattle.rb_glyph.proofs.fields.field_law.Goals as goal

pub returns : goal.returns
returns c = record {
  set = field_set;
  below = λ word from bits value other size fits. field_below word from bits value fits other size;
  above = λ word from bits value other size fits. field_above word from bits value fits other size;
  whole = signed_of_field-whole;
}
