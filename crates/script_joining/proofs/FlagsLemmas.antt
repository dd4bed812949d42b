-- The flags of places between letters, by what holds.
use Rattle.std.proofs.Common.{◌≡◌, ℕ, ◌+◌, ◌<◌, ◌≤◌, true, false, Some, ap, ◌∙◌}
use Rattle.std.proofs.lemmas.Bool.{cond-true, cond-false, lt-ltb, le-ltb, le-leb, lt-leb, and_from, and_left, and_right}
use Rattle.std.proofs.lemmas.Bool.{or_from, or_left, or_right, not_from_true, not_from_false}
use Rattle.shaping_buffer.specs.State.{State, len}
use Rattle.shaping_buffer.specs.ClusterStep.{safe_to_insert_tatweel, unsafe_to_break, unsafe_to_concat, unsafe_to_concat_from_outbuffer}
use Rattle.script_joining.specs.declared.joining.flags.Tie.{Tie}
use Rattle.script_joining.specs.declared.joining.flags.Tie.TheVariants.{Loose, UnsafeToConcat, SafeToInsertTatweel}
use Rattle.script_joining.specs.declared.joining.kind.JoiningType.{JoiningType}
use Rattle.script_joining.specs.Flags.{flagged_between, flagged_by, flagged_first, kept_formed}
use Rattle.script_joining.specs.Joining.{joins_previous}

module _ (tie : Tie) (start end : ℕ) (s : State) where
  flagged_between-within : start ≤ end → end ≤ len s → flagged_between tie start end s ≡ flagged_by tie start end s
  unfolding flagged_between
  flagged_between-within order within = cond-false _ _ _ (or_from _ _ (le-ltb end start order) (le-ltb (len s) end within))

  pub flagged_between-order : end < start → flagged_between tie start end s ≡ s
  unfolding flagged_between
  flagged_between-order order = cond-true _ _ _ (or_left _ _ (lt-ltb end start order))

  pub flagged_between-past : len s < end → flagged_between tie start end s ≡ s
  unfolding flagged_between
  flagged_between-past past = cond-true _ _ _ (or_right _ _ (lt-ltb (len s) end past))

  pub flagged_between-loose : tie ≡ Loose → start ≤ end → end ≤ len s → flagged_between tie start end s ≡ s
  flagged_between-loose is order within = flagged_between-within order within ∙ ap (λ (t : Tie). flagged_by t start end s) is

  pub flagged_between-concat : tie ≡ UnsafeToConcat → start ≤ end → end ≤ len s
      → flagged_between tie start end s ≡ unsafe_to_concat (Some start) (Some end) s
  flagged_between-concat is order within = flagged_between-within order within ∙ ap (λ (t : Tie). flagged_by t start end s) is

  pub flagged_between-tatweel : tie ≡ SafeToInsertTatweel → start ≤ end → end ≤ len s
      → flagged_between tie start end s ≡ safe_to_insert_tatweel (Some start) (Some end) s
  flagged_between-tatweel is order within = flagged_between-within order within ∙ ap (λ (t : Tie). flagged_by t start end s) is

module _ (kind : JoiningType) (from place : ℕ) (s : State) where
  pub flagged_first-yes : joins_previous kind ≡ true
      → flagged_first kind place s ≡ unsafe_to_concat_from_outbuffer (Some 0) (Some place) s
  unfolding flagged_first
  flagged_first-yes joins = cond-true _ _ _ joins

  pub flagged_first-no : joins_previous kind ≡ false → flagged_first kind place s ≡ s
  unfolding flagged_first
  flagged_first-no apart = cond-false _ _ _ apart

  pub kept_formed-yes : from ≤ place → place < len s → joins_previous kind ≡ false
      → kept_formed from place kind s ≡ unsafe_to_break (Some from) (Some (place + 1)) s
  unfolding kept_formed
  kept_formed-yes order within apart =
      cond-true _ _ _ (and_from _ _ (le-leb from place order)
      (and_from _ _ (lt-ltb place (len s) within) (not_from_false (joins_previous kind) apart)))

  pub kept_formed-order : place < from → kept_formed from place kind s ≡ s
  unfolding kept_formed
  kept_formed-order order = cond-false _ _ _ (and_left _ _ (lt-leb from place order))

  pub kept_formed-past : len s ≤ place → kept_formed from place kind s ≡ s
  unfolding kept_formed
  kept_formed-past past = cond-false _ _ _ (and_right _ _ (and_left _ _ (le-ltb place (len s) past)))

  pub kept_formed-joined : joins_previous kind ≡ true → kept_formed from place kind s ≡ s
  unfolding kept_formed
  kept_formed-joined joins =
      cond-false _ _ _ (and_right _ _ (and_right _ _ (not_from_true (joins_previous kind) joins)))

pub ruleset flags = (
  flagged_between-order,
  flagged_between-past,
  flagged_between-loose,
  flagged_between-concat,
  flagged_between-tatweel,
  flagged_first-yes,
  flagged_first-no,
  kept_formed-yes,
  kept_formed-order,
  kept_formed-past,
  kept_formed-joined,
)
