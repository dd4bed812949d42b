use Rattle.std.proofs.Common.{◌++◌, ℕ, Option, IfSome, length, subst, arith}
use Rattle.script_syllables.proofs.CircleLemmas.{both-walked, len-opened, lookahead_len-opened, walk_more}
use Rattle.script_syllables.proofs.NumbersLemmas.{numbers_then}
use Rattle.script_syllables.specs.Circle.{IsRead, with_circles}
use Rattle.script_syllables.proofs.dotted_circle.put_circles.Goals as goal

pub loop-turn-preserved : goal.loop-turn-preserved
loop-turn-preserved c =
    let old = c.args.buffer.now in
    let circle = c.args.circle.now in
    let b = c.loop-turn.buffer in
    let new = c.read_next.new.buffer in
    let read : IsRead circle (with_circles circle c.loop-turn.last b.input) b c.in-Some.syllable new =
    subst (λ (o : Option ℕ). IfSome o (λ next. IsRead circle (with_circles circle c.loop-turn.last b.input) b next new))
    c.in-Some.is c.in_ok-syllable.ensures.reads in
    let walked = walk_more circle c.loop-turn.last c.in-Some.syllable c.loop-turn._turn (length old.input)
    (old.out ++ with_circles circle 0 old.input) b new c.loop-turn.invariant.text c.loop-turn.invariant.left read in
    record {
      opened = c.in_ok-syllable.ensures.opened;
      keeps = numbers_then _ _ _ c.loop-turn.invariant.keeps c.read_next.ensures.keeps;
      text = walked.0;
      left = walked.1;
    }

pub returns-then-lookahead_len-eq0-clause-is : goal.returns-then-lookahead_len-eq0-clause-is
returns-then-lookahead_len-eq0-clause-is c = λ done.
    both-walked c.args.circle.now c.loop-turn.last _ c.loop-turn.buffer
    (omega (
      arith,
      c.if-lookahead_len-eq0.true,
      c.lookahead_len.ensures,
      lookahead_len-opened c.loop-turn.buffer c.loop-turn.invariant.opened,
    ))
    c.loop-turn.invariant.text

pub returns-clause-is : goal.returns-clause-is
returns-clause-is c = λ done.
    both-walked c.args.circle.now c.loop-turn.last _ c.loop-turn.buffer
    (omega (arith, c.loop-turn.invariant.left, c.len-turn-end.ensures.len, len-opened c.args.buffer.now c.requires))
    c.loop-turn.invariant.text
