use Rattle.std.proofs.Common.{◌<◌, ◌≤◌, length, refl, ◌∙◌, arith}
use Rattle.shaping_buffer.proofs.KeepsLemmas.{keeps_none, keeps_then}
use Rattle.ot_positions.proofs.AdvanceLemmas.{len_closed}
use Rattle.ot_positioning.proofs.MarkLemmas.{done_from, done_more, done_none}
use Rattle.ot_positioning.proofs.fallback_marks.place_all.Goals as goal

pub loop-place-init : goal.loop-place-init
loop-place-init g c = record {
  closed = c.requires.closed;
  placed = c.requires.placed;
  keeps = keeps_none c.args.buffer.now;
  same_length = refl;
  rest = λ new.
      done_from (g.F.FontFunctions.may_advance c.args.font.now) c.args.line c.args.adjusts (length c.args.buffer.now.input) c.args.buffer.now new;
}

pub loop-place-preserved : goal.loop-place-preserved
loop-place-preserved g c =
    let s = c.args.buffer.now in
    let b = c.loop-place.buffer in
    let less : c.loop-place.place < length s.input =
    omega (arith, c.loop-place-test.true, c.len-place-end.ensures.len, len_closed s c.requires.closed) in
    record {
      closed = c.place_behind.ensures.closed;
      placed = c.place_behind.ensures.placed;
      keeps = keeps_then s b c.place_behind.new.buffer c.loop-place.invariant.keeps c.place_behind.ensures.keeps;
      same_length = c.place_behind.ensures.same_length ∙ c.loop-place.invariant.same_length;
      rest = λ new rest.
          c.loop-place.invariant.rest new
          (done_more (g.F.FontFunctions.may_advance c.args.font.now) c.args.line c.args.adjusts c.loop-place.place (length s.input)
          b c.place_behind.new.buffer new less c.in_ok-place_behind.ensures.is rest);
    }

pub returns-clause-is : goal.returns-clause-is
returns-clause-is g c =
    let s = c.args.buffer.now in
    let b = c.loop-place.buffer in
    let past : length s.input ≤ c.loop-place.place =
    omega (arith, c.loop-place-test.false, c.len-place-end.ensures.len, len_closed s c.requires.closed) in
    c.loop-place.invariant.rest b
    (done_none (g.F.FontFunctions.may_advance c.args.font.now) c.args.line c.args.adjusts c.loop-place.place (length s.input) b past)

pub place_behind-requires-clause-within : goal.place_behind-requires-clause-within
place_behind-requires-clause-within g c =
    omega (
      arith,
      c.loop-place-test.true,
      c.len-place-end.ensures.len,
      len_closed c.args.buffer.now c.requires.closed,
      c.loop-place.invariant.same_length,
    )
