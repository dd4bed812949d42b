use Rattle.std.proofs.Common.{◌≡◌, ◌<◌, true, inl, inr, [], length, sym, ap, arith}
use Rattle.std.proofs.lemmas.Grind.{common_steps}
use Rattle.std.specs.Prelude.{not}
use Rattle.rb_common.specs.Direction.{is_forward}
use Rattle.ot_shape.proofs.TurnLemmas.{shaped, turns_or_keeps}
use Rattle.ot_shape.proofs.shaping.shape_buffer.Goals as goal

pub returns-clause-clusters : goal.returns-clause-clusters
returns-clause-clusters g c = λ yes.
    let s = c.args.buffer.now in
    let t = c.make_glyphs.new.buffer in
    let u = c.end_line.new.buffer in
    let forward = is_forward s.direction in
    let none : s.out ≡ [] = grind (arith, common_steps) in
    let way : u.direction ≡ s.direction = grind (arith, common_steps) in
    let done : c.in_ok-make_glyphs.field-0 ≡ true = grind (arith, common_steps) in
    shaped forward s u none c.end_line.ensures.empty (sym (ap is_forward way))
    (turns_or_keeps (not forward) s t u (c.in_ok-make_glyphs.ensures.runs done) c.end_line.ensures.keeps)

pub returns-then-not-branch-clause-refusal : goal.returns-then-not-branch-clause-refusal
returns-then-not-branch-clause-refusal g c = λ no. inl (c.in_ok-make_glyphs.ensures.refusal c.if-not-branch.true)

pub returns-then-len-limit-clause-refusal : goal.returns-then-len-limit-clause-refusal
returns-then-len-limit-clause-refusal g c = λ no.
    let past : c.args.buffer.now.max_len < length c.make_glyphs.new.buffer.input = grind (arith, common_steps) in
    inr past
