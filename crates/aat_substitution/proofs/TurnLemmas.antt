-- A list that is turned, changed, and turned back.
use Rattle.shaping_buffer.proofs.KeepsLemmas.{keeps_then, keeps_none, turns_then_keeps, turns_twice}

-- what search closes by
pub ruleset turned = (turns_twice, turns_then_keeps, keeps_then, keeps_none)
