-- What every list of calls keeps: glyph flags, the order of clusters, cluster numbers and coarse lists.
use Rattle.std.proofs.Common.{◌≡◌, ℕ, List, [], ◌∷◌, refl, sym, ◌∙◌, subst, true, false}
use Rattle.std.specs.Prelude.{⊤}
use Rattle.std.proofs.lemmas.Bool.{false≢true}
use Rattle.rb_glyph.specs.declared.info.hb_glyph_info_t.{hb_glyph_info_t}
use Rattle.glyph_lists.specs.Clusters.{clusters, occurs, run_merge, IsMonotone, IsCoarse}
use Rattle.glyph_lists.specs.GlyphFlags.{FlagsAgree}
use Rattle.shaping_buffer.specs.State.{State}
use Rattle.shaping_buffer.specs.ClusterStep.{both}
use Rattle.glyph_laws.proofs.OrderLemmas.{run_merge_keeps_order, run_merge_keeps_coarse}
use Rattle.glyph_laws.proofs.ReadingsLemmas.{monotone_reading, coarse_reading}
use Rattle.glyph_laws.proofs.NumbersLemmas.{Stands, Stands-from_occurs, occurs-from_stands, Stands-from_reading}
use Rattle.glyph_laws.proofs.NumbersLemmas.{run_merge_stands}
use Rattle.shaping_runs.specs.declared.call.Call.{Call}
use Rattle.shaping_runs.specs.Replay.{turn, after}
use Rattle.shaping_runs.specs.Exceptions.{brings_glyph, NoMergeStopsAtCursor, NoGlyphIsBrought}
use Rattle.shaping_buffer.proofs.Steps.{StepsKeep}
use Rattle.shaping_runs.proofs.Steps.{turn_keeps, after_keeps}
use Rattle.shaping_runs.proofs.FlagSteps.{flags_steps}
use Rattle.shaping_buffer.proofs.ReadingSteps.{reading_steps}

pub flags_after : (calls : List Call) (s : State) → NoGlyphIsBrought calls s → FlagsAgree (both s)
    → FlagsAgree (both (after calls s))
flags_after = after_keeps FlagsAgree (λ _. ⊤) flags_steps (λ floor. tt)

pub order_after : (calls : List Call) (s : State) → NoGlyphIsBrought calls s → IsMonotone (both s)
    → IsMonotone (both (after calls s))
order_after = after_keeps IsMonotone (λ _. ⊤)
    (reading_steps IsMonotone (λ _. ⊤) tt monotone_reading (λ floor _ l p q. run_merge_keeps_order l p q floor))
    (λ floor. tt)

pub order_by : (call : Call) (s : State) → brings_glyph call s ≡ false → IsMonotone (both s)
    → IsMonotone (both (turn call s).state)
order_by call s own = turn_keeps IsMonotone (λ _. ⊤)
    (reading_steps IsMonotone (λ _. ⊤) tt monotone_reading (λ floor _ l p q. run_merge_keeps_order l p q floor)) call s
    own (λ on. tt)

-- c stands only where it stood in l
abbrev StoodIn : List hb_glyph_info_t → ℕ → List hb_glyph_info_t → Type 0
StoodIn l c xs = Stands c xs → Stands c l

stood_steps : (l : List hb_glyph_info_t) (c : ℕ) → StepsKeep (StoodIn l c) (λ _. ⊤)
stood_steps l c = reading_steps (StoodIn l c) (λ _. ⊤) tt (λ xs ys r h w. h (Stands-from_reading c xs ys r w))
    (λ floor _ xs p q in_xs h w. h (run_merge_stands xs p q floor c in_xs w))

pub numbers_after : (calls : List Call) (s : State) → NoGlyphIsBrought calls s → (c : ℕ)
    → occurs c (clusters (both (after calls s))) ≡ true → occurs c (clusters (both s)) ≡ true
numbers_after calls s none c on =
    occurs-from_stands c (both s) (after_keeps (StoodIn (both s) c) (λ _. ⊤) (stood_steps (both s) c) (λ floor. tt)
    calls s none (λ w. w) (Stands-from_occurs c (both (after calls s)) on))

pub numbers_by : (call : Call) (s : State) → brings_glyph call s ≡ false → (c : ℕ)
    → occurs c (clusters (both (turn call s).state)) ≡ true → occurs c (clusters (both s)) ≡ true
numbers_by call s own c on =
    occurs-from_stands c (both s) (turn_keeps (StoodIn (both s) c) (λ _. ⊤) (stood_steps (both s) c) call s own
    (λ on2. tt) (λ w. w) (Stands-from_occurs c (both (turn call s).state) on))

-- merges down to the start alone
coarse_steps : StepsKeep IsCoarse (λ floor. floor ≡ 0)
coarse_steps = reading_steps IsCoarse (λ floor. floor ≡ 0) refl coarse_reading
    (λ floor e l p q in_l h. subst (λ f. IsCoarse (run_merge l p q f)) (sym e) (run_merge_keeps_coarse l p q in_l h))

pub coarse_after : (calls : List Call) (s : State) → NoGlyphIsBrought calls s → NoMergeStopsAtCursor calls s
    → IsCoarse (both s) → IsCoarse (both (after calls s))
coarse_after [] s own none h = h
coarse_after (call ∷ calls) s own none h =
    coarse_after calls (turn call s).state own.1 none.1
    (turn_keeps IsCoarse (λ floor. floor ≡ 0) coarse_steps call s own.0
    (λ on. absurd (false≢true (sym none.0 ∙ on))) h)
