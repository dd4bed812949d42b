use Rattle.line_formats.proofs.CharacterLemmas.{pieces}
use Rattle.line_formats.proofs.characters.write_character.Goals as goal

pub returns : goal.returns
returns c =
    pieces _ _ _ _ _ _ _ c.in_ok-write_bar.ensures c.in_ok-write_code_point.ensures c.in_ok-write_member.ensures
