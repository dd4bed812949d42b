use Rattle.std.proofs.Common.{◌≡◌, ◌+◌, length, arith}
use Rattle.std.proofs.lemmas.Grind.{common_steps}
use Rattle.ot_contexts.proofs.SecondsLemmas.{place_of-past_end}
use Rattle.ot_contexts.proofs.neighbours.next_seen.Goals as goal

pub returns-then-place-glyphs : goal.returns-then-place-glyphs
returns-then-place-glyphs c = λ asked other.
    let end : c.args.place + 1 ≡ length c.args.glyphs.now = grind (arith, common_steps) in
    place_of-past_end c.args.iterator.now c.args.glyphs.now c.args.place asked end
