use Rattle.line_formats.proofs.CharacterLemmas.{characters_from-more, characters_from-all}
use Rattle.line_formats.proofs.JsonLemmas.{no_glyph}
use Rattle.line_formats.proofs.characters.write_characters.Goals as goal

pub loop-i-preserved : goal.loop-i-preserved
loop-i-preserved c =
    characters_from-more c.args.infos.now c.loop-i.i _ _ _ no_glyph c.loop-i-test.true c.loop-i.invariant
    c.in_ok-write_character.ensures

pub returns : goal.returns
returns c = characters_from-all c.args.infos.now c.loop-i.i _ _ c.loop-i-test.false c.loop-i.invariant
