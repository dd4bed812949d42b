use Rattle.std.proofs.Common.{arith, sym, ◌∙◌}
use Rattle.rb_text.proofs.LanguageCuts.{append-walk_ends, append-walk_passes, append-walk_passes_second}
use Rattle.rb_text.proofs.LanguageCuts.{append-walk_finds_none}
use Rattle.ot_tags.proofs.subtags.before_singleton.Goals as goal
use Rattle.ot_tags.proofs.subtags.before_singleton.Goals.{else-text-i-eq45-via-then-text-i-eq45+else-text-i-eq45-2}
use Rattle.ot_tags.proofs.subtags.before_singleton.Goals.{else-text-i-eq45-via-else-text-i-eq45}

pub returns-then-text-i-eq45-2-clause-cut : goal.returns-then-text-i-eq45-2-clause-cut
returns-then-text-i-eq45-2-clause-cut c =
    sym (append-walk_ends c.args.text.now c.loop-i.i (omega arith) c.if-text-i-eq45.true c.if-text-i-eq45-2.true) ∙
    c.loop-i.invariant

pub loop-i-preserved : goal.loop-i-preserved
loop-i-preserved c =
    elim c.else-text-i-eq45.branch [
      | else-text-i-eq45-via-then-text-i-eq45+else-text-i-eq45-2 w ↦
          append-walk_passes_second c.args.text.now c.loop-i.i (omega arith) w.if-text-i-eq45-2.false
          ∙ c.loop-i.invariant
      | else-text-i-eq45-via-else-text-i-eq45 w ↦
          append-walk_passes c.args.text.now c.loop-i.i (omega arith) w.if-text-i-eq45.false ∙ c.loop-i.invariant
    ]

pub returns-clause-cut : goal.returns-clause-cut
returns-clause-cut c = sym (append-walk_finds_none c.args.text.now c.loop-i.i (omega arith)) ∙ c.loop-i.invariant
