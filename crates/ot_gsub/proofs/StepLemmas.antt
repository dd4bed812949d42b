-- A text under a lookup, from a turn at the cursor and the glyphs after it that the lookup is not for.
use Rattle.std.proofs.Common.{◌≡◌, ℕ, ◌<◌, Bool, true, false, length, None, Some, Result, Ok, Err, IfOk, refl, subst, ◌∙◌}
use Rattle.std.proofs.lemmas.Bool.{false≢true}
use Rattle.std.specs.Result.{IsErr}
use Rattle.std.specs.declared.alloc.AllocError.{AllocError}
use Rattle.ot_lookups.specs.Lookup.{is_for}
use Rattle.ot_lookups.specs.LookupProps.{glyph_at}
use Rattle.ot_lookups.specs.declared.lookup_list.Lookup.{Lookup}
use Rattle.shaping_buffer.specs.State.{State}
use Rattle.ot_gsub.specs.Changes.{TellsChanges, glyph_numbers}
use Rattle.ot_gsub.specs.Nested.{Now, now_of}
use Rattle.ot_gsub.specs.Runs.{HasDone, IsRestDone, IsUnderWay, IsWanting}
use Rattle.ot_gsub.specs.Singles.{GoesOn, HasMoved, IsForNext, IsLevel, IsSingle}
use Rattle.ot_gsub.specs.Turn.{IsTurnAt, passed_by}
use Rattle.ot_gsub.specs.declared.nested.Step.{Step}
use Rattle.ot_gsub.specs.declared.nested.Step.TheVariants.{Applied, Passed, Refused}
use Rattle.ot_gsub.specs.declared.substitution.Progress.{Progress}
use Rattle.ot_gsub.specs.declared.substitution.Substitutions.{Substitutions}
use Rattle.ot_gsub.proofs.ChangesLemmas.{tells_changed, tells_passed}
use Rattle.ot_gsub.proofs.RunsLemmas.{after_applied, after_passed, rest_failed}
use Rattle.ot_gsub.proofs.SinglesLemmas.{leads_by_turn, next_by_applied, next_by_passed, no_refusal}

module _ (substitutions : Substitutions) (lookup : Lookup) where
  -- what is passed over behind a turn
  abbrev Goes : ℕ → State → Result Bool AllocError → State → Type 0
  Goes start mid result new =
      IfOk result (λ done. GoesOn lookup substitutions.options.mask start mid done new)
      × (IsErr result → IsWanting lookup substitutions.options.mask start mid)

  pub after_step : (old mid : Now) (step : Step) (n : ℕ) (result : Result Bool AllocError) (new : State)
      → 0 < length old.buffer.input → is_for lookup substitutions.options.mask (glyph_at old.buffer.input 0) ≡ true
      → passed_by step ≡ Some n → IsTurnAt 64 substitutions lookup old (Ok step) mid → mid.buffer.have_output ≡ true
      → (step ≡ Passed → 0 < length mid.buffer.input) → Goes n mid.buffer result new
      → IsUnderWay substitutions lookup 1 old result (record mid { buffer = new })
  after_step old mid Applied n result new some taken is turn opened left goes =
      let none : n ≡ 0 = cc in
      after_applied substitutions lookup old mid some taken result new turn opened
      (subst (λ (k : ℕ). Goes k mid.buffer result new) none goes)
  after_step old mid Passed n result new some taken is turn opened left goes =
      let one : n ≡ 1 = cc in
      after_passed substitutions lookup old mid some taken result new turn opened (left refl)
      (subst (λ (k : ℕ). Goes k mid.buffer result new) one goes)
  after_step old mid Refused n result new some taken is turn opened left goes = cc

  -- the same of single substitutions in the storage of the input
  pub moved_by_step : (s : State) (p : Progress) (told : Result Step AllocError) (step : Step) (n : ℕ) (mid : Now)
      (result : Result Bool AllocError) (new : State)
      → IsLevel s → IsSingle substitutions lookup s → IsForNext substitutions lookup s → 0 < length s.input
      → told ≡ Ok step → passed_by step ≡ Some n → IsTurnAt 64 substitutions lookup (now_of s p) told mid
      → (mid.buffer.have_separate_output ≡ false → result ≡ Ok true)
      → IfOk result (λ done. GoesOn lookup substitutions.options.mask n mid.buffer done new)
      → (result ≡ Ok true) × HasMoved substitutions lookup 1 s new
  moved_by_step s p told Applied n mid result new level single next some was is turn done goes =
      let none : n ≡ 0 = cc in
      next_by_applied substitutions lookup s mid.buffer result new
      (leads_by_turn substitutions lookup s p told (Ok Applied) mid level single next some was turn) done
      (subst (λ (k : ℕ). IfOk result (λ done. GoesOn lookup substitutions.options.mask k mid.buffer done new)) none goes)
  moved_by_step s p told Passed n mid result new level single next some was is turn done goes =
      let one : n ≡ 1 = cc in
      next_by_passed substitutions lookup s mid.buffer result new
      (leads_by_turn substitutions lookup s p told (Ok Passed) mid level single next some was turn) done
      (subst (λ (k : ℕ). IfOk result (λ done. GoesOn lookup substitutions.options.mask k mid.buffer done new)) one goes)
  moved_by_step s p told Refused n mid result new level single next some was is turn done goes = cc

  -- a single substitution is not refused
  pub is_not_refused : (s : State) (p : Progress) (told : Result Step AllocError) (step : Step) (mid : Now)
      → IsLevel s → IsSingle substitutions lookup s → IsForNext substitutions lookup s → 0 < length s.input
      → told ≡ Ok step → passed_by step ≡ None → IsTurnAt 64 substitutions lookup (now_of s p) told mid → ⊥
  is_not_refused s p told Applied mid level single next some was is turn = cc
  is_not_refused s p told Passed mid level single next some was is turn = cc
  is_not_refused s p told Refused mid level single next some was is turn =
      no_refusal substitutions lookup s mid.buffer
      (leads_by_turn substitutions lookup s p told (Ok Refused) mid level single next some was turn)

  -- memory ran out
  pub rest_by_error : (t : ℕ) (old mid next : Now) (result : Result Bool AllocError) → HasDone substitutions lookup t old mid
      → IsErr result → IsUnderWay substitutions lookup 1 mid result next → IsRestDone substitutions lookup old result next
  rest_by_error t old mid next (Ok done) has failed under = absurd (false≢true failed)
  rest_by_error t old mid next (Err e) has failed under =
      rest_failed substitutions lookup t old mid next (Err e) has under e (Err e) next refl refl

-- a step that goes on nowhere was refused
pub refused_by : (step : Step) → passed_by step ≡ None → step ≡ Refused
refused_by Applied is = cc
refused_by Passed is = cc
refused_by Refused is = refl

-- what is passed over changes no glyph
pub tells_by_step : (old mid new : State) (was did : Bool) (told : Result Step AllocError) (step : Step) (n : ℕ) → told ≡ Ok step
    → passed_by step ≡ Some n → (told ≡ Ok Applied → did ≡ true) → (told ≡ Ok Passed → did ≡ was)
    → (told ≡ Ok Passed → glyph_numbers mid ≡ glyph_numbers old) → glyph_numbers new ≡ glyph_numbers mid
    → TellsChanges old was new did
tells_by_step old mid new was did told Applied n is some changed passed same numbers = tells_changed old new was did (changed is)
tells_by_step old mid new was did told Passed n is some changed passed same numbers =
    tells_passed old new was did (passed is) (numbers ∙ same is)
tells_by_step old mid new was did told Refused n is some changed passed same numbers = cc
