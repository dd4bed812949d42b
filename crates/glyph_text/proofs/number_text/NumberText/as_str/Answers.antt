use Rattle.std.proofs.Common.{◌-◌, drop, arith, take_all, length-drop}
use Rattle.std.proofs.lemmas.Str.{IsUtf8-from_ascii}
use Rattle.glyph_text.proofs.number_text.NumberText.as_str.Goals as goal

pub from_utf8_unchecked-requires : goal.from_utf8_unchecked-requires
from_utf8_unchecked-requires c =
    let text = c.self.inside in
    IsUtf8-from_ascii _
    (rw (take_all (22 - text.start) (drop text.start text.bytes) (omega (arith, length-drop text.start text.bytes)))
    c.self.invariant.1)
