use Rattle.std.proofs.Common.{ℕ, List, ap, ◌∙◌}
use Rattle.rb_glyph.specs.Fields.{with_field}
use Rattle.rb_glyph.specs.UnicodeProps.{props_word}
use Rattle.script_items.proofs.PropertiesLemmas.{one_row}
use Rattle.script_items.proofs.glyph_info.set_character_props.Goals as goal

pub returns-in-Some-clause-is : goal.returns-in-Some-clause-is
returns-in-Some-clause-is c =
    let g = c.args.info.now in
    c.init_unicode_props.ensures.word
    ∙ ap (λ (rows : List (ℕ × ℕ)). record g { var2 = with_field g.var2 0 16 (props_word g.glyph_id rows) })
    (one_row c.args.character g.glyph_id c.combining_class-class.result c.in-Some.classes c.in-Some.ensures c.requires.same
    c.combining_class-class.ensures)
