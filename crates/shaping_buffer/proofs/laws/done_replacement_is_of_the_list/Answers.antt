use Rattle.shaping_buffer.proofs.ReplacementLemmas.{both-replace_glyphs}
use Rattle.shaping_buffer.proofs.laws.done_replacement_is_of_the_list.Goals as goal

pub returns : goal.returns
returns c = both-replace_glyphs
