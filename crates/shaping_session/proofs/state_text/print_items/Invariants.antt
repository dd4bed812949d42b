use Rattle.std.proofs.Common.{◌≡◌, string_bytes, take}
use Rattle.shaping_session.specs.StateText.{items_text}
use Rattle.shaping_session.proofs.state_text.print_items.Given as goal

abbrev pub invariant-loop-i : goal.invariant-loop-i
invariant-loop-i l = string_bytes l.text ≡ items_text (take l.i l.items)
