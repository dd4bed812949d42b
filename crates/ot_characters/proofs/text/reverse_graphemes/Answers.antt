use Rattle.std.proofs.Common.{Bool, sym, ap, ◌∙◌}
use Rattle.std.proofs.lemmas.Bool.{false≢true}
use Rattle.std.specs.Prelude.{not}
use Rattle.shaping_buffer.specs.State.{State}
use Rattle.shaping_buffer.specs.GroupStep.{reverse_groups}
use Rattle.shaping_buffer.proofs.KeepsLemmas.{turns_then_keeps}
use Rattle.script_items.specs.Graphemes.{is_same_grapheme}
use Rattle.ot_characters.specs.NativeDirection.{turned_to}
use Rattle.ot_characters.proofs.TurnLemmas.{either_turns}
use Rattle.ot_characters.proofs.text.reverse_graphemes.Goals as goal

pub returns-clause-is : goal.returns-clause-is
unfolding turned_to
returns-clause-is c =
    let s = c.args.buffer.now in
    c.set_direction.ensures.is
    ∙ ap (λ (t : State). record t { direction = c.args.direction })
    (c.reverse_groups.ensures.is is_same_grapheme (λ x y r post. post)
    ∙ ap (λ (b : Bool). reverse_groups is_same_grapheme (not b) s) c.allows_any_order-merges.ensures)

pub returns-clause-turns : goal.returns-clause-turns
returns-clause-turns c =
    let s = c.args.buffer.now in
    let t = c.reverse_groups.new.self in
    turns_then_keeps s t c.set_direction.new.buffer
    (either_turns c.allows_any_order-merges.result s t c.allows_any_order-merges.ensures c.reverse_groups.ensures.merging_turns
    (λ any. c.reverse_groups.ensures.turns is_same_grapheme (λ x y r post. post)
    (λ none. absurd (false≢true (sym none ∙ any)))))
    c.set_direction.ensures.keeps
