use Rattle.std.proofs.Common.{◌<◌, length, arith}
use Rattle.shaping_buffer.proofs.KeepsLemmas.{keeps_then}
use Rattle.script_universal.proofs.FlagsLemmas.{flagged_all, flagged_from-on, flagged_to, len-closed}
use Rattle.script_universal.proofs.universal.flags.flag_parted.Goals as goal

pub loop-turn-preserved : goal.loop-turn-preserved
loop-turn-preserved g c =
    let b = c.loop-turn.buffer in
    let here = len-closed b c.loop-turn.invariant.closed in
    let whole = len-closed c.args.buffer.now c.requires.closed in
    let in_turns : c.loop-turn._turn < length c.args.buffer.now.input = omega (arith, whole) in
    let in_text : c.loop-turn.start < length b.input = omega (arith, here) in
    record {
      closed = c.flag_joined.ensures.stays.closed;
      keeps = keeps_then c.args.buffer.now b c.flag_joined.new.buffer c.loop-turn.invariant.keeps c.flag_joined.ensures.stays.keeps;
      is = λ test by.
          flagged_from-on test c.args.masks.now _ c.loop-turn._turn c.loop-turn.start c.loop-turn.last b _ in_turns
          (c.loop-turn.invariant.is test by) c.next_syllable-end.result c.joined_at-joined.result c.info.result.now
          c.flag_joined.new.buffer in_text c.next_syllable-end.ensures c.info.ensures c.joined_at-joined.ensures
          (c.flag_joined.ensures.is test by);
    }

pub returns-then-start-len-clause-is : goal.returns-then-start-len-clause-is
returns-then-start-len-clause-is g c = λ test by.
    let here = len-closed c.loop-turn.buffer c.loop-turn.invariant.closed in
    let whole = len-closed c.args.buffer.now c.requires.closed in
    flagged_to test c.args.masks.now (length c.args.buffer.now.input) c.loop-turn._turn c.loop-turn.start c.loop-turn.last
    c.loop-turn.buffer _ (omega (arith, whole)) (c.loop-turn.invariant.is test by) (omega (arith, here))

pub returns-clause-is : goal.returns-clause-is
returns-clause-is g c = λ test by.
    let whole = len-closed c.args.buffer.now c.requires.closed in
    flagged_all test c.args.masks.now (length c.args.buffer.now.input) c.loop-turn._turn c.loop-turn.start c.loop-turn.last
    c.loop-turn.buffer _ (c.loop-turn.invariant.is test by) (omega (arith, whole))
