use Rattle.std.proofs.Common.{arith}
use Rattle.std.proofs.lemmas.Grind.{common_steps}
use Rattle.shaping_buffer.proofs.CharactersLemmas.{characters_along}
use Rattle.shaping_buffer.proofs.buffer.hb_buffer_t.push_str.Goals as goal

pub returns-clause-characters : goal.returns-clause-characters
returns-clause-characters c = λ all.
    characters_along c.args.self.now.input c.append.new.self.input c.args.text.now c.utf8.text
    (grind (arith, common_steps)) all
