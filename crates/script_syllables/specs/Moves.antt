-- Items of a list that change places. A range that does not lie in the list stays as it is.
use Rattle.std.specs.Prelude.{ℕ, ◌+◌, ◌-◌, ◌++◌, ◌&&◌, ◌||◌, List, length, take, drop, nat_lt, nat_le, if◌then◌else◌}
use Rattle.glyph_lists.specs.Parts.{part}
use Rattle.glyph_lists.specs.Groups.{reverse_range}
use Rattle.shaping_buffer.specs.State.{State, len}
use Rattle.shaping_buffer.specs.ClusterStep.{merge_clusters}

-- the items from `middle` to `end` in front of those from `start` to `middle`
abbrev pub moved : {X : Type 0} → ℕ → ℕ → ℕ → List X → List X
moved start middle end l = take start l ++ (part l middle end ++ part l start middle ++ drop end l)

-- the first of the items from `start` to `end` behind the others
abbrev pub first_behind : {X : Type 0} → ℕ → ℕ → List X → List X
first_behind start end l = if nat_lt start end && nat_le end (length l) then moved start (start + 1) end l else l

-- the last `count` of them before the others
abbrev pub last_before : {X : Type 0} → ℕ → ℕ → ℕ → List X → List X
last_before start end count l =
    if nat_le start end && (nat_le end (length l) && nat_le count (end - start)) then moved start (end - count) end l
    else l

-- all in reverse order
abbrev pub turned : {X : Type 0} → ℕ → ℕ → List X → List X
turned start end l = if nat_lt start end && nat_le end (length l) then reverse_range start end l else l

-- the items of a text from a place to another in one cluster
unfoldable pub merged : ℕ → ℕ → State → State
merged start end s = if nat_lt end start || nat_lt (len s) end then s else merge_clusters start end s
