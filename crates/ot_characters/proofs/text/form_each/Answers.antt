use Rattle.std.proofs.Common.{◌≡◌, ◌+◌, ◌-◌, ◌<◌, suc, length, ◌∙◌, arith}
use Rattle.std.proofs.lemmas.Grind.{common_steps}
use Rattle.shaping_buffer.proofs.KeepsLemmas.{keeps_then}
use Rattle.script_items.specs.Graphemes.{is_same_grapheme}
use Rattle.ot_characters.proofs.FormedLemmas.{graphemes_formed-turn}
use Rattle.ot_characters.proofs.text.form_each.Goals as goal

pub loop-turn-preserved : goal.loop-turn-preserved
loop-turn-preserved c =
    let n = length c.args.buffer.now.input in
    let s = c.loop-turn.buffer in
    let some : c.loop-turn.start < length s.input = grind (arith, common_steps) in
    let left : c.loop-turn._turn < n = grind (arith, common_steps) in
    let more : n - c.loop-turn._turn ≡ suc (n - (c.loop-turn._turn + 1)) = omega (arith, left) in
    record {
      closed = c.form_cluster.ensures.closed;
      keeps = keeps_then c.args.buffer.now s c.form_cluster.new.buffer c.loop-turn.invariant.keeps c.form_cluster.ensures.keeps;
      is = graphemes_formed-turn c.args.merges (n - c.loop-turn._turn) (n - (c.loop-turn._turn + 1)) c.loop-turn.start
          c.group_end-end.result s c.form_cluster.new.buffer some more
          (c.group_end-end.ensures.is is_same_grapheme (λ x y r post. post)) c.form_cluster.ensures.is
          ∙ c.loop-turn.invariant.is;
    }
