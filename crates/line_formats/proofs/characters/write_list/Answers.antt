use Rattle.line_formats.proofs.CharacterLemmas.{bracketed}
use Rattle.line_formats.proofs.characters.write_list.Goals as goal

pub returns : goal.returns
returns c =
    bracketed _ _ _ _ _ _ _ c.in_ok-write_bytes.ensures c.in_ok-write_characters.ensures c.in_ok-write_bytes-2.ensures
