-- How the clusters of a text run along the line.
use Rattle.std.proofs.Common.{◌≡◌, ◌<◌, ◌≤◌, Bool, true, false, [], ◌++◌, length}
use Rattle.std.proofs.Common.{sym, ap, ◌∙◌, subst}
use Rattle.std.specs.Prelude.{not, Result, Ok, Err, IfOk, if◌then◌else◌}
use Rattle.rb_common.specs.Direction.{is_forward}
use Rattle.glyph_lists.specs.Clusters.{clusters, occurs, least}
use Rattle.glyph_lists.specs.KeptClusters.{Runs, BringsNoCluster, KeepsLeast}
use Rattle.shaping_buffer.specs.State.{HasPositions, State}
use Rattle.shaping_buffer.specs.Limits.{enter}
use Rattle.shaping_buffer.specs.Properties.{guessed}
use Rattle.shaping_buffer.specs.ClusterStep.{both, any_order}
use Rattle.shaping_buffer.specs.KeepsClusters.{KeepsClusters}
use Rattle.shaping_buffer.proofs.KeepsLemmas.{keeps_then, turns_then_keeps, keeps_then_turns, turns_twice}
use Rattle.ot_characters.specs.Turned.{KeepsOrTurns}
use Rattle.shaping_verification.specs.declared.shape_error.ShapeError.{ShapeError}
use Rattle.ot_shape.specs.Shaped.{AreShaped, Shapes}
use Rattle.ot_shape.specs.ShapedClusters.{ShapedClusters}

-- ---- steps that keep or turn

pub turns_or_keeps : (b : Bool) (s t u : State) → KeepsOrTurns b s t → KeepsClusters t u → KeepsOrTurns b s u
turns_or_keeps false s t u a k = keeps_then s t u a k
turns_or_keeps true s t u a k = turns_then_keeps s t u a k

pub keeps_or_turns : (b : Bool) (s t u : State) → KeepsClusters s t → KeepsOrTurns b t u → KeepsOrTurns b s u
keeps_or_turns false s t u k a = keeps_then s t u k a
keeps_or_turns true s t u k a = keeps_then_turns s t u k a

-- one reversal where the line runs backward, and two or none where it runs forward
turned_back : (forward turned r : Bool) (s t u : State) → r ≡ (if forward then turned else not turned)
    → KeepsOrTurns turned s t → KeepsOrTurns r t u → KeepsOrTurns (not forward) s u
turned_back true false r s t u e a b = keeps_then s t u a (subst (λ b. KeepsOrTurns b t u) e b)
turned_back true true r s t u e a b = turns_twice s t u a (subst (λ b. KeepsOrTurns b t u) e b)
turned_back false false r s t u e a b = keeps_then_turns s t u a (subst (λ b. KeepsOrTurns b t u) e b)
turned_back false true r s t u e a b = turns_then_keeps s t u a (subst (λ b. KeepsOrTurns b t u) e b)

-- all steps, of which the second turns a text that runs against its script, and the fourth the line
pub made : (forward turned r : Bool) (s a b c d t : State) → r ≡ (if forward then turned else not turned)
    → KeepsClusters s a → KeepsOrTurns turned a b → KeepsClusters b c → KeepsOrTurns r c d → KeepsClusters d t
    → KeepsOrTurns (not forward) s t
made forward turned r s a b c d t e begun native shaped reversed finished =
    turns_or_keeps (not forward) s d t
    (turned_back forward turned r s c d e
    (turns_or_keeps turned s b c (keeps_or_turns turned s a b begun native) shaped) reversed)
    finished

-- whatever an answer holds
pub if_ok : {X E : Type 0} (r : Result X E) (P : X → Type 0) → ((x : X) → P x) → IfOk r P
if_ok (Ok x) P f = f x
if_ok (Err e) P f = tt

-- ---- the whole

closed_both : (s : State) → s.out ≡ [] → both s ≡ s.input
closed_both s e = ap (λ l. l ++ s.input) e

shaped_by : (up : Bool) (text glyphs : State) → text.out ≡ [] → glyphs.out ≡ [] → up ≡ is_forward glyphs.direction
    → BringsNoCluster (both text) (both glyphs) → KeepsLeast (any_order text) (both text) (both glyphs)
    → (any_order text ≡ false → Runs true (clusters (both text)) → Runs up (clusters (both glyphs)))
    → ShapedClusters text glyphs
shaped_by up text glyphs e e2 way numbers low order =
    let is = closed_both text e in
    let is2 = closed_both glyphs e2 in
    record {
      numbers = λ c on. subst (λ l. occurs c (clusters l) ≡ true) is
          (numbers c (subst (λ l. occurs c (clusters l) ≡ true) (sym is2) on));
      least = λ any some. ap (λ l. least (clusters l)) (sym is2)
          ∙ low any (subst (λ l. 0 < length l) (sym is2) some) ∙ ap (λ l. least (clusters l)) is;
      order = λ any rises. subst (λ b. Runs b (clusters glyphs.input)) way
          (subst (λ l. Runs up (clusters l)) is2 (order any (subst (λ l. Runs true (clusters l)) (sym is) rises)));
    }

-- kept in a line that runs forward, and turned in one that runs backward
pub shaped : (forward : Bool) (text glyphs : State) → text.out ≡ [] → glyphs.out ≡ [] → forward ≡ is_forward glyphs.direction
    → KeepsOrTurns (not forward) text glyphs → ShapedClusters text glyphs
shaped true text glyphs e e2 way kept = shaped_by true text glyphs e e2 way kept.ordered.numbers kept.least
    (λ any. kept.ordered.order any true)
shaped false text glyphs e e2 way turned = shaped_by false text glyphs e e2 way turned.numbers turned.least
    (λ any. turned.order any true)

pub shaped_entered : (s glyphs : State) → ShapedClusters (enter s) glyphs → ShapedClusters s glyphs
shaped_entered s glyphs h = record { numbers = h.numbers; least = h.least; order = h.order }

pub shaped_guessed : (s glyphs : State) → ShapedClusters (guessed s) glyphs → ShapedClusters s glyphs
shaped_guessed s glyphs h = record { numbers = h.numbers; least = h.least; order = h.order }

-- where the properties of a text were guessed before
pub shapes_guessed : (s b : State) (r : Result State ShapeError) → b ≡ guessed s → Shapes b.direction b r
    → Shapes (guessed s).direction s r
shapes_guessed s b (Ok g) e h = record {
  glyphs = record {
    placed = h.glyphs.placed;
    within = subst (λ (x : State). length g.input ≤ (enter x).max_len) e h.glyphs.within;
    direction = subst (λ (x : State). g.direction ≡ x.direction) e h.glyphs.direction;
    clusters = shaped_guessed s g (subst (λ (x : State). ShapedClusters x g) e h.glyphs.clusters);
  };
  named = tt;
}
shapes_guessed s b (Err x) e h = record { glyphs = tt; named = h.named }

-- where a text was entered before
pub shaped_from : (s b t : State) → b ≡ enter s → HasPositions t → length t.input ≤ b.max_len → t.direction ≡ b.direction
    → ShapedClusters b t → AreShaped s.direction s t
shaped_from s b t e placed within direction clusters = record {
  placed = placed;
  within = subst (λ (x : State). length t.input ≤ x.max_len) e within;
  direction = subst (λ (x : State). t.direction ≡ x.direction) e direction;
  clusters = shaped_entered s t (subst (λ (x : State). ShapedClusters x t) e clusters);
}
