use Rattle.ot_characters.proofs.PropertiesLemmas.{met_more, word_of}
use Rattle.ot_characters.proofs.text.set_known_properties.Goals as goal

pub returns-else-known-place-clause-met : goal.returns-else-known-place-clause-met
returns-else-known-place-clause-met c =
    let g = c.args.info.now in
    let set = c.set_unicode_props-else-known-place in
    met_more c.args.known.now g.glyph_id c.unicode_props.result c.args.scratch_flags.now set.new.scratch_flags c.told-known c.requires
    (word_of g set.new.info c.unicode_props.result set.ensures.is c.unicode_props.ensures) set.ensures.remembered
