use Rattle.std.proofs.Common.{ℕ, sym, ap, ◌∙◌}
use Rattle.rb_glyph.specs.Fields.{with_field}
use Rattle.script_items.proofs.PropertiesLemmas.{properties_of-there, properties_of-none, remembered-there, remembered-none}
use Rattle.script_items.proofs.glyph_info.set_unicode_props.Goals as goal

pub returns-in-Some-clause-is : goal.returns-in-Some-clause-is
returns-in-Some-clause-is c =
    let g = c.args.info.now in
    c.set_character_props.ensures.is
    ∙ ap (λ (word : ℕ). record g { var2 = with_field g.var2 0 16 word }) (sym (properties_of-there g.glyph_id c.in-Some.ensures.value.0))

pub returns-in-Some-clause-remembered : goal.returns-in-Some-clause-remembered
returns-in-Some-clause-remembered c =
    c.set_character_props.ensures.remembered
    ∙ sym (remembered-there c.args.info.now.glyph_id c.in-Some.ensures.value.0 c.args.scratch_flags.now)

pub returns-in-None-clause-is : goal.returns-in-None-clause-is
returns-in-None-clause-is c =
    let g = c.args.info.now in
    c.set_unicode_props.ensures
    ∙ ap (λ (word : ℕ). record g { var2 = with_field g.var2 0 16 word }) (sym (properties_of-none g.glyph_id c.in-None.ensures.value))

pub returns-in-None-clause-remembered : goal.returns-in-None-clause-remembered
returns-in-None-clause-remembered c =
    sym (remembered-none c.args.info.now.glyph_id c.in-None.ensures.value c.args.scratch_flags.now)
