use Rattle.shape_lines.proofs.characters.shown_characters.Goals as goal

pub returns : goal.returns
returns c = (_, c.in_ok-list.ensures)
