use Rattle.std.proofs.Common.{◌≡◌, true, arith}
use Rattle.std.proofs.lemmas.Grind.{common_steps}
use Rattle.shaping_buffer.proofs.KeepsLemmas.{keeps_then}
use Rattle.ot_shape.proofs.shaping.shape_native.Goals as goal

pub returns-clause-keeps : goal.returns-clause-keeps
returns-clause-keeps g c = λ yes.
    let s = c.args.buffer.now in
    let prepared = c.prepare_characters.new.buffer in
    let found = c.find_glyphs.new.buffer in
    let substituted = c.substitute.new.buffer in
    let done : c.in_ok-substitute.field-0 ≡ true = grind (arith, common_steps) in
    keeps_then s found c.position.new.buffer
    (keeps_then s prepared found c.prepare_characters.ensures.keeps c.find_glyphs.ensures.keeps)
    (keeps_then found substituted c.position.new.buffer (c.in_ok-substitute.ensures.keeps done) c.position.ensures.keeps)
