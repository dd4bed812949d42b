use Rattle.std.proofs.Common.{◌≡◌, ◌<◌, ◌≤◌, ◌-◌, ℕ, true, length, get_or}
use Rattle.shape_options.specs.Variations.{is_letter}
use Rattle.shape_options.proofs.variations.tag_len.Given as goal

-- all so far are letters
abbrev pub invariant-loop-len : goal.invariant-loop-len
invariant-loop-len l =
    (l.len ≤ length l.text) × ((k : ℕ) → k < l.len → is_letter (get_or l.text k 0) ≡ true)

abbrev pub decreases-loop-len : goal.decreases-loop-len
decreases-loop-len l = length l.text - l.len
