-- The lookups of a plan over a text, stage by stage (HarfBuzz, `hb_ot_map_t::apply`). Each is run over the glyphs as the one before it
-- left them: what a digest lets pass by is what would have come of it.
use Rattle.std.specs.Prelude.{◌≡◌, ◌≤◌, ◌≤ℤ◌, ◌&&◌, ℕ, pos, Bool, true, false, List, [], ◌∷◌, Ok, length, nat_le, slice_get, slice_range, if◌then◌else◌}
use Rattle.glyph_digests.specs.Digest.{HasGlyphs}
use Rattle.glyph_digests.specs.declared.digest.Digest.{Digest}
use Rattle.font_face.specs.declared.face.Face.{Face}
use Rattle.ot_layout.specs.declared.skipping_iterator.LookupOptions.{LookupOptions}
use Rattle.ot_map.specs.declared.plan.Pause.TheVariants.{Nothing}
use Rattle.ot_map.specs.declared.plan.PlannedLookup.{PlannedLookup}
use Rattle.ot_map.specs.declared.plan.Stage.{Stage}
use Rattle.ot_plan.specs.Shapers.{orders_syllables}
use Rattle.ot_plan.specs.declared.planning.TextPlan.{TextPlan}
use Rattle.script_shapers.specs.declared.syllables.SyllablePlan.{SyllablePlan}
use Rattle.script_shapers.specs.declared.syllables.SyllablePlan.TheVariants as plans
use Rattle.glyph_lists.specs.Clusters.{clusters}
use Rattle.shaping_buffer.specs.State.{State}
use Rattle.shaping_buffer.specs.ClusterStep.{any_order, both}
use Rattle.shaping_buffer.specs.KeepsClusters.{KeepsClusters}
use Rattle.ot_gsub.specs.Nested.{Now}
use Rattle.ot_gsub.specs.Runs.{IsRun}
use Rattle.ot_gsub.specs.declared.substitution.Substitutions.{Substitutions}
use Rattle.ot_apply.specs.declared.cluster_order.ClusterCourse.{ClusterCourse}
use Rattle.ot_apply.specs.ClusterOrder.{IsCourseOf, KeepsStage, put_in_order}

-- ---- one lookup

-- to which glyphs a lookup of a plan is applied, and what it passes over
abbrev pub options_of : PlannedLookup → LookupOptions
options_of planned = record {
  mask = planned.mask;
  auto_zwnj = planned.auto_zwnj;
  auto_zwj = planned.auto_zwj;
  per_syllable = planned.per_syllable;
  random = planned.random;
}

-- A lookup of a plan is run, with the lookups and the classes of the font.
pub record IsPlannedRun (face : Face) (planned : PlannedLookup) (old new : Now) : Type 0 where
  pub substitutions : Substitutions
  pub list : substitutions.list.now ≡ face.lookups.substitutions
  pub gdef : substitutions.gdef.now ≡ face.gdef
  pub options : substitutions.options ≡ options_of planned
  pub run : IsRun substitutions (slice_get substitutions.list.now.lookups.items planned.index) old (Ok true) new

-- What is known of the glyphs before a lookup: a digest has those of the buffer, and no change is told that it has not seen.
pub record HasSeen (glyphs : Digest) (told : Bool) (s : State) : Type 0 where
  pub met : HasGlyphs glyphs s.input
  pub unchanged : told ≡ false

-- ---- one stage

pub record IsRunThen (face : Face) (planned : PlannedLookup) (rest : Now → Now → Type 0) (old new : Now) : Type 0 where
  pub mid : Now
  pub first : IsPlannedRun face planned old mid
  pub others : rest mid new

-- lookups are run in order, each over what the one before it left
unfoldable pub AreRuns : Face → List PlannedLookup → Now → Now → Type 0
AreRuns face [] old new = new ≡ old
AreRuns face (planned ∷ rest) old new = IsRunThen face planned (AreRuns face rest) old new

-- the lookups of a stage: those of a list between two places, or none where these do not rise within the list
abbrev pub lookups_of : List PlannedLookup → ℕ → ℕ → List PlannedLookup
lookups_of lookups start end =
    if nat_le start end && nat_le end (length lookups) then slice_range lookups start end else []

-- whether joined syllables are marked before each stage: by the universal shaper alone
abbrev pub joins : SyllablePlan → Bool
joins plans.None = false
joins (plans.Indic plan) = false
joins (plans.Khmer plan) = false
joins plans.Myanmar = false
joins (plans.Universal plan) = true

-- A stage that begins at a place of the list of all lookups: joined syllables are marked, the lookups of the stage are run, and then
-- comes the pause of the script's shaper.
pub record IsStageThen (face : Face) (plan : TextPlan) (stage : Stage) (start : ℕ) (rest : Now → Now → Type 0) (old new : Now) : Type 0 where
  pub marked : State
  pub mid : Now
  pub after : Now
  pub marks : KeepsClusters old.buffer marked
  pub unmarked : joins plan.syllables ≡ false → marked ≡ old.buffer
  pub runs : AreRuns face (lookups_of plan.shape.layout.gsub_lookups.items start stage.end) (record old { buffer = marked }) mid
  pub paused : KeepsStage plan.syllables mid.buffer after.buffer
  pub fewer : after.left ≤ mid.left
  pub unpaused : stage.pause ≡ Nothing → after ≡ mid
  pub others : rest after new

-- ---- all stages

-- stages are done in order, the first of them from a place of the list of all lookups on
unfoldable pub AreStagesDone : Face → TextPlan → List Stage → ℕ → Now → Now → Type 0
AreStagesDone face plan [] start old new = new ≡ old
AreStagesDone face plan (stage ∷ rest) start old new =
    IsStageThen face plan stage start (AreStagesDone face plan rest stage.end) old new

-- the clusters are put in order as they ran in a buffer before
pub record RunsAsBefore (before old new : State) : Type 0 where
  pub course : ClusterCourse
  pub was : any_order before ≡ false → IsCourseOf course (clusters (both before))
  pub is : new ≡ put_in_order course old

-- all stages are done, and where the glyphs of syllables were put in another order in between, the clusters are put in order again
pub record IsPutInOrder (face : Face) (plan : TextPlan) (old : Now) (new : State) : Type 0 where
  pub mid : Now
  pub stages : AreStagesDone face plan plan.shape.layout.stages.items 0 old mid
  pub ordered : orders_syllables plan.syllables ≡ true → RunsAsBefore old.buffer mid.buffer new
  pub unordered : orders_syllables plan.syllables ≡ false → new ≡ mid.buffer

-- What comes of all lookups of `GSUB`, where random numbers begin with 1, and lookups apply as many others as the buffer lets them.
pub record IsDoneByStages (face : Face) (plan : TextPlan) (old new : State) : Type 0 where
  pub left : ℕ
  pub most : pos 0 ≤ℤ old.max_ops → pos left ≡ old.max_ops
  pub done : IsPutInOrder face plan (record { buffer = old; random = 1; left = left }) new
