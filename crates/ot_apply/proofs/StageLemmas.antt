-- What stages of substitution keep of the clusters, and how these run once they are put in order behind them.
use Rattle.std.proofs.Common.{◌≡◌, ℕ, ◌<◌, Bool, true, false, List, length, get_or, refl, sym, ap, subst, ◌∙◌, inl, inr, arith}
use Rattle.std.proofs.lemmas.Bool.{cases_Bool}
use Rattle.glyph_lists.specs.Clusters.{NeverFalls, NeverRises, clusters, occurs}
use Rattle.glyph_lists.specs.KeptClusters.{Runs}
use Rattle.glyph_lists.proofs.ClustersLemmas.{occurs_at, occurs_place}
use Rattle.shaping_buffer.specs.State.{State}
use Rattle.shaping_buffer.specs.ClusterLevel.{allows_any_order}
use Rattle.shaping_buffer.specs.ClusterStep.{both, any_order}
use Rattle.shaping_buffer.specs.KeepsClusters.{KeepsClusters, TurnsClusters}
use Rattle.shaping_buffer.proofs.KeepsLemmas.{keeps_none, keeps_then}
use Rattle.shaping_buffer.proofs.ClosedKeepsLemmas.{kept}
use Rattle.script_syllables.specs.KeepsNumbers.{KeepsNumbers}
use Rattle.script_syllables.proofs.NumbersLemmas.{numbers_none, numbers_then, numbers_of_keeps}
use Rattle.script_shapers.specs.declared.syllables.SyllablePlan.{SyllablePlan}
use Rattle.ot_apply.specs.declared.cluster_order.ClusterCourse.{ClusterCourse}
use Rattle.ot_apply.specs.declared.cluster_order.ClusterCourse.TheVariants.{Rising, Falling, Neither}
use Rattle.ot_plan.specs.Shapers.{orders_syllables}
use Rattle.ot_apply.specs.ClusterOrder.{Takes, IsCourseOf, KeepsStage, put_in_order}

-- ---- numbers that are kept

pub numbers_of_turns : (s t : State) → TurnsClusters s t → KeepsNumbers s t
numbers_of_turns s t a = record { level = a.level; numbers = a.numbers; least = a.least }

-- ---- stages

pub stage_none : (plan : SyllablePlan) (s : State) → KeepsStage plan s s
stage_none plan s = record { numbers = numbers_none s; clusters = λ off. keeps_none s }

pub stage_then : (plan : SyllablePlan) (s t u : State) → KeepsStage plan s t → KeepsStage plan t u → KeepsStage plan s u
stage_then plan s t u a b = record {
  numbers = numbers_then s t u a.numbers b.numbers;
  clusters = λ off. keeps_then s t u (a.clusters off) (b.clusters off);
}

pub stage_of_keeps : (plan : SyllablePlan) (s t : State) → KeepsClusters s t → KeepsStage plan s t
stage_of_keeps plan s t a = record { numbers = numbers_of_keeps s t a; clusters = λ off. a }

-- what lookups do after a stage, joined syllables being marked before them
pub stage_run : (plan : SyllablePlan) (s t u v : State) → KeepsStage plan s t → KeepsClusters t u → KeepsClusters u v
    → KeepsStage plan s v
stage_run plan s t u v before marks runs = stage_then plan s t v before (stage_of_keeps plan t v (keeps_then t u v marks runs))

-- what search closes by
pub ruleset stages = (stage_then, stage_none, stage_of_keeps, kept)

-- ---- clusters that run again as they ran

-- where the numbers run both ways there is one alone
module _ (cs ds : List ℕ) (rises : NeverFalls cs) (falls : NeverRises cs)
    (back : (c : ℕ) → occurs c ds ≡ true → occurs c cs ≡ true) where
  only : (k : ℕ) → k < length ds → get_or ds k 0 ≡ get_or cs 0 0
  only k in_ds =
      let w = occurs_place (get_or ds k 0) cs (back (get_or ds k 0) (occurs_at (get_or ds k 0) ds k in_ds refl)) in
      omega (arith, rises 0 w.0 (omega arith) w.1, falls 0 w.0 (omega arith) w.1, w.2)

  one_number : (up : Bool) → Runs up ds
  one_number true = λ i j le in_ds. omega (arith, only i (omega arith), only j in_ds)
  one_number false = λ i j le in_ds. omega (arith, only i (omega arith), only j in_ds)

runs_on : (course : ClusterCourse) (up : Bool) (cs ds : List ℕ) → IsCourseOf course cs → Takes course ds
    → ((c : ℕ) → occurs c ds ≡ true → occurs c cs ≡ true) → Runs up cs → Runs up ds
runs_on Rising true cs ds was takes back runs = takes
runs_on Rising false cs ds was takes back runs = one_number cs ds was runs back false
runs_on Falling true cs ds was takes back runs = one_number cs ds runs was back true
runs_on Falling false cs ds was takes back runs = takes
runs_on Neither up cs ds was takes back runs = absurd (was up runs)

-- the numbers are kept until the clusters are put in order, and then too
pub restored : (course : ClusterCourse) (s t u : State) → (any_order s ≡ false → IsCourseOf course (clusters (both s)))
    → KeepsNumbers s t → KeepsNumbers t u → (any_order t ≡ false → Takes course (clusters (both u))) → KeepsClusters s u
restored course s t u was a b takes =
    let all = numbers_then s t u a b in
    record {
      ordered = record {
        level = all.level;
        order = λ any up. runs_on course up (clusters (both s)) (clusters (both u)) (was any)
            (takes (ap allows_any_order a.level ∙ any)) all.numbers;
        numbers = all.numbers;
      };
      least = all.least;
    }

-- whether the glyphs of syllables were put in another order before or not
pub stages_restored : (plan : SyllablePlan) (course : ClusterCourse) (s t u : State)
    → (orders_syllables plan ≡ true → any_order s ≡ false → IsCourseOf course (clusters (both s)))
    → (orders_syllables plan ≡ false → course ≡ Neither) → KeepsStage plan s t → u ≡ put_in_order course t → KeepsNumbers t u
    → (any_order t ≡ false → Takes course (clusters (both u))) → KeepsClusters s u
stages_restored plan course s t u was none a is b takes = elim (cases_Bool (orders_syllables plan)) [
  | inl on ↦ restored course s t u (was on) a.numbers b takes
  | inr off ↦
      subst (KeepsClusters s) (sym (is ∙ ap (λ (c : ClusterCourse). put_in_order c t) (none off))) (a.clusters off)
]

-- a list that is turned, put in order and turned back
pub turned_back : (s t u v : State) → TurnsClusters s t → KeepsNumbers t u → NeverFalls (clusters (both u))
    → TurnsClusters u v → any_order s ≡ false → NeverRises (clusters (both v))
turned_back s t u v a b rises c any =
    c.order (ap allows_any_order (b.level ∙ a.level) ∙ any) true rises

-- what search closes by
pub ruleset numbers = (numbers_then, numbers_none, numbers_of_turns, turned_back)
