-- Characters that hang on others elsewhere in a text, and what may not be parted for their sake.
use Rattle.std.specs.Prelude.{◌≡◌, ℕ, zero, suc, ◌+◌, ◌&&◌, Bool, true, false, Option, Some, None, option_map, nat_le, if◌then◌else◌}
use Rattle.shaping_buffer.specs.State.{State}
use Rattle.shaping_buffer.specs.ClusterStep.{unsafe_to_break}
use Rattle.script_items.specs.declared.ties.Tie.{Tie}
use Rattle.script_items.specs.declared.ties.Tie.TheVariants.{Anchor, Hanging, Loose}

-- what stands at each place
abbrev pub TieAt : Type 0
TieAt = ℕ → Tie

-- a function that is asked for it, of which such are the answers, answers so
abbrev pub Says : (ℕ → Tie → Type 0) → TieAt → Type 0
Says answers tie = (k : ℕ) (r : Tie) → answers k r → r ≡ tie k

abbrev pub is_same : Tie → Tie → Bool
is_same Anchor Anchor = true
is_same Anchor _ = false
is_same Hanging Hanging = true
is_same Hanging _ = false
is_same Loose Loose = true
is_same Loose _ = false

-- what was found, or else this place, if it is one that is sought
abbrev pub found_or : Option ℕ → Bool → ℕ → Option ℕ
found_or (Some found) is n = Some found
found_or None is n = if is then Some n else None

-- the first of the places before `end` with such a tie
unfoldable pub first_of : TieAt → Tie → ℕ → Option ℕ
first_of tie wanted zero = None
first_of tie wanted (suc n) = found_or (first_of tie wanted n) (is_same (tie n) wanted) n

-- the last of the places from `start` on, before `end`, with such a tie
unfoldable pub last_of : TieAt → Tie → ℕ → ℕ → Option ℕ
last_of tie wanted start zero = None
last_of tie wanted start (suc n) =
    if nat_le start n && is_same (tie n) wanted then Some n else last_of tie wanted start n

-- an anchor, and the first character before it that hangs on it
abbrev pub hanging_before : TieAt → Option ℕ → Option (ℕ × ℕ)
hanging_before tie None = None
hanging_before tie (Some anchor) = option_map (λ hanging. (hanging, anchor)) (first_of tie Hanging anchor)

-- an anchor, and the last of the first n characters that hangs on it behind it
abbrev pub hanging_behind : TieAt → ℕ → Option ℕ → Option (ℕ × ℕ)
hanging_behind tie n None = None
hanging_behind tie n (Some anchor) = option_map (λ hanging. (anchor, hanging)) (last_of tie Hanging (anchor + 1) n)

-- those of the first anchor of n characters, and of the last one
abbrev pub first_tied : TieAt → ℕ → Option (ℕ × ℕ)
first_tied tie n = hanging_before tie (first_of tie Anchor n)

abbrev pub last_tied : TieAt → ℕ → Option (ℕ × ℕ)
last_tied tie n = hanging_behind tie n (last_of tie Anchor 0 n)

-- two characters and what lies between them are unsafe to break
abbrev pub kept_together : Option (ℕ × ℕ) → State → State
kept_together None s = s
kept_together (Some pair) s = unsafe_to_break (Some pair.0) (Some (pair.1 + 1)) s
