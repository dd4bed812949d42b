-- Texts that are turned.
use Rattle.std.proofs.Common.{◌≡◌, Bool, true, false, refl, sym}
use Rattle.std.proofs.lemmas.Bool.{cond-true, cond-false}
use Rattle.std.specs.Prelude.{not}
use Rattle.rb_common.specs.Direction.{reverse}
use Rattle.shaping_buffer.specs.State.{State}
use Rattle.shaping_buffer.specs.ClusterStep.{any_order}
use Rattle.shaping_buffer.specs.KeepsClusters.{TurnsClusters}
use Rattle.ot_characters.specs.NativeDirection.{runs_against, turned_to, in_native_direction}

-- where clusters may stand in any order, or where they may not
pub either_turns : (any : Bool) (s t : State) → any ≡ any_order s → (not any ≡ true → TurnsClusters s t)
    → (any_order s ≡ true → TurnsClusters s t) → TurnsClusters s t
either_turns true s t e a b = b (sym e)
either_turns false s t e a b = a refl

pub in_native_direction-stays : (s : State) → runs_against s ≡ false → in_native_direction s ≡ s
unfolding in_native_direction
in_native_direction-stays s along = cond-false (runs_against s) (turned_to (reverse s.direction) s) s along

pub in_native_direction-turns : (s : State) → runs_against s ≡ true
    → in_native_direction s ≡ turned_to (reverse s.direction) s
unfolding in_native_direction
in_native_direction-turns s against = cond-true (runs_against s) (turned_to (reverse s.direction) s) s against

pub ruleset natives = (in_native_direction-stays, in_native_direction-turns)
