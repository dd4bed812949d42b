-- What the subtables of a lookup ask for after the cursor.
use Rattle.std.proofs.Common.{◌≡◌, ℕ, ◌<◌, Bool, true, false, List, drop, length, get_or, subst, sym}
use Rattle.std.proofs.lemmas.List.Elements.{All-drop, All-get_or, All-nil, All-take}
use Rattle.std.specs.Prelude.{All, [], ◌-◌, ◌&&◌, if◌then◌else◌, nat_le, take}
use Rattle.font_tables.specs.declared.coverage.Coverage.{Coverage}
use Rattle.ot_lookups.specs.NextAsked.{IsNextOf}
use Rattle.ot_lookups.specs.Subtables.{subtables_of}
use Rattle.ot_lookups.specs.declared.lookup_list.Lookup.{Lookup}
use Rattle.ot_lookups.specs.declared.subtable.Subtable.{Subtable}

each_if : (cs : List Coverage) (b : Bool) (ts : List Subtable) → All (IsNextOf cs) ts
    → All (IsNextOf cs) (if b then ts else [])
each_if cs true ts are = are
each_if cs false ts are = All-nil (IsNextOf cs)

-- what a subtable of a lookup asks for after the cursor
pub next_of_each : (cs : List Coverage) (ts read : List Subtable) (lookup : Lookup) (i : ℕ) (t : Subtable)
    → read ≡ subtables_of ts lookup → All (IsNextOf cs) ts → i < length read → t ≡ get_or read i t → IsNextOf cs t
next_of_each cs ts read lookup i t same are within is =
    let those = take (lookup.last - lookup.first) (drop lookup.first ts) in
    let all : All (IsNextOf cs) (subtables_of ts lookup) =
    each_if cs (nat_le lookup.first lookup.last && nat_le lookup.last (length ts)) those
    (All-take (IsNextOf cs) (lookup.last - lookup.first) (drop lookup.first ts) (All-drop (IsNextOf cs) lookup.first ts are)) in
    let here = subst (λ l. All (IsNextOf cs) l) (sym same) all in
    subst (λ x. IsNextOf cs x) (sym is) (All-get_or (IsNextOf cs) read i t within here)
