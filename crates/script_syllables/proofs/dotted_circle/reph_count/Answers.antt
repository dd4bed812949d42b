use Rattle.std.proofs.Common.{sym, ◌∙◌, arith}
use Rattle.std.proofs.lemmas.List.Sums.{prefix_len-drop_yes, prefix_len-drop_no, prefix_len-drop_all}
use Rattle.script_syllables.specs.Circle.{is_reph}
use Rattle.script_syllables.proofs.dotted_circle.reph_count.Goals as goal

pub loop-count-preserved : goal.loop-count-preserved
loop-count-preserved c =
    omega (
      arith,
      c.loop-count.invariant,
      prefix_len-drop_yes (is_reph c.args.repha c.args.syllable) c.args.infos.now c.loop-count.count _ (omega arith)
          (sym c.is_reph.ensures ∙ c.if-not-is_reph.false),
    )

pub returns-then-not-is_reph-clause-is : goal.returns-then-not-is_reph-clause-is
returns-then-not-is_reph-clause-is c =
    omega (
      arith,
      c.loop-count.invariant,
      prefix_len-drop_no (is_reph c.args.repha c.args.syllable) c.args.infos.now c.loop-count.count _ (omega arith)
          (sym c.is_reph.ensures ∙ c.if-not-is_reph.true),
    )

pub returns-clause-is : goal.returns-clause-is
returns-clause-is c =
    omega (
      arith,
      c.loop-count.invariant,
      prefix_len-drop_all (is_reph c.args.repha c.args.syllable) c.args.infos.now c.loop-count.count (omega arith),
    )
