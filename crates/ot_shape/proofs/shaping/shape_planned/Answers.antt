use Rattle.std.proofs.Common.{◌≡◌, true, sym, subst, arith}
use Rattle.std.proofs.lemmas.Grind.{common_steps}
use Rattle.ot_shape.specs.Shaped.{AreShaped}
use Rattle.ot_shape.proofs.TurnLemmas.{shaped_from}
use Rattle.ot_shape.proofs.shaping.shape_planned.Goals as goal

pub returns : goal.returns
returns g c =
    let s = c.args.text in
    let t = c.shape_buffer.new.buffer in
    let made = c.in_ok-shape_buffer.ensures in
    let done : c.in_ok-shape_buffer.field-0 ≡ true = grind (arith, common_steps) in
    record {
      glyphs = subst (AreShaped s.direction s) (sym c.from_buffer.ensures.is)
          (shaped_from s _ t c.enter.ensures.is (record { closed = made.closed done; placed = made.placed done })
          (made.within done) (made.direction done) (made.clusters done));
      named = tt;
    }
