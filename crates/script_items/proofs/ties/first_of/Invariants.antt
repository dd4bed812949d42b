use Rattle.std.proofs.Common.{◌≡◌, None}
use Rattle.script_items.specs.Ties.{TieAt, Says, first_of}
use Rattle.script_items.proofs.ties.first_of.Given as goal

-- none was found yet
abbrev pub invariant-loop-place : goal.invariant-loop-place
invariant-loop-place g l = (tie : TieAt) → Says (goal.F-post g l.tie_at) tie → first_of tie l.wanted l.place ≡ None
