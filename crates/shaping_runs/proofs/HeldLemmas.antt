-- A call is refused for length exactly when the side it would fill would exceed the limit.
use Rattle.std.proofs.Common.{◌≡◌, ◌↔◌, ℕ, ◌+◌, ◌-◌, ◌<◌, ◌≤◌, inl, inr, Bool, true, false, not, ◌&&◌, cond, List, []}
use Rattle.std.proofs.Common.{◌∷◌, ◌++◌, length, map, take, drop, min, refl, sym, ap, ◌∙◌, subst, arith, eqb, leb}
use Rattle.std.proofs.Common.{length-append, length-drop}
use Rattle.std.proofs.lemmas.Bool.{cond_both, cond-true, cond-false, cases_Bool, cases_lt, and_parts, leb-true}
use Rattle.std.proofs.lemmas.Bool.{ltb-true, eqb-true, eqb-false, lt-leb, le-leb}
use Rattle.std.proofs.lemmas.List.{length-map, length-take-le}
use Rattle.rb_glyph.specs.declared.info.hb_glyph_info_t.{hb_glyph_info_t}
use Rattle.shaping_buffer.specs.State.{State, len, lookahead_len}
use Rattle.shaping_buffer.specs.Step.{Outcome, limited, unlimited, put_out, skip_glyph, skip_glyphs}
use Rattle.shaping_buffer.specs.Step.{next_glyphs, split_at, move_to, with_id, glyph_to_copy, last_place}
use Rattle.shaping_buffer.specs.ClusterStep.{both}
use Rattle.shaping_buffer.proofs.ReplacementLemmas.{replace_glyphs-sides, front_replaced}
use Rattle.shaping_runs.specs.declared.call.Call.{Call}
use Rattle.shaping_runs.specs.declared.call.Call.TheVariants.{ClearOutput, NextGlyph, NextGlyphs, SkipGlyph}
use Rattle.shaping_runs.specs.declared.call.Call.TheVariants.{ReplaceGlyph, ReplaceGlyphs, OutputGlyph, OutputInfo}
use Rattle.shaping_runs.specs.declared.call.Call.TheVariants.{CopyGlyph, MoveTo, Sync, DeleteGlyph, MergeClusters}
use Rattle.shaping_runs.specs.declared.call.Call.TheVariants.{MergeOutClusters, UnsafeToBreak}
use Rattle.shaping_runs.specs.declared.call.Call.TheVariants.{UnsafeToBreakFromOutbuffer, SafeToInsertTatweel}
use Rattle.shaping_runs.specs.declared.call.Call.TheVariants.{UnsafeToConcat, UnsafeToConcatFromOutbuffer}
use Rattle.shaping_runs.specs.declared.call.Call.TheVariants.{MergeGraphemeClusters}
use Rattle.shaping_runs.specs.declared.call.Answer.TheVariants.{Refused}
use Rattle.shaping_runs.specs.Replay.{Turn, turn, after, answer_of, may_be_made, outcome_of, has_glyph}
use Rattle.shaping_runs.specs.Headline.{held, held_open, moves_or_syncs, awaits_clear}
use Rattle.shaping_buffer.proofs.Steps.{front_left, glyph_left}
use Rattle.shaping_runs.proofs.Refusals.{refusal_after, sync_refused, move_refused}

-- ---- outcomes

-- it is refused exactly where so many are more than the limit
abbrev Exact : State → Outcome → ℕ → Type 0
Exact s o h = (o.done ≡ false) ↔ (s.max_len < h)

limited_exact : (h : ℕ) (s new : State) → Exact s (limited h s new) h
limited_exact h s new = elim (cases_lt s.max_len h) [
  | inl lt ↦ subst (λ (o : Outcome). Exact s o h) (sym (cond-false (leb h s.max_len) _ _ (lt-leb h s.max_len lt)))
      (λ _. lt, λ _. refl)
  | inr ge ↦ subst (λ (o : Outcome). Exact s o h) (sym (cond-true (leb h s.max_len) _ _ (le-leb h s.max_len ge)))
      (λ e. cc, λ lt. absurd (omega arith))
]

never : (s new : State) → Exact s (unlimited new) 0
never s new = (λ e. cc, λ lt. absurd (omega arith))

-- with an output open so many are held, and else none
module _ (call : Call) (s : State) where
  while_open : (o : Outcome) (h : ℕ) (new : State) → s.have_output ≡ true → o ≡ limited h s new → h ≡ held_open call s
      → Exact s o (held call s)
  while_open o h new opened e eh =
      subst (λ (p : Outcome). Exact s p (held call s)) (sym e)
      (subst (Exact s (limited h s new)) (eh ∙ sym (cond-true s.have_output (held_open call s) 0 opened))
      (limited_exact h s new))

  while_closed : (o : Outcome) (new : State) → s.have_output ≡ false → o ≡ unlimited new → Exact s o (held call s)
  while_closed o new closed e =
      subst (λ (p : Outcome). Exact s p (held call s)) (sym e)
      (subst (Exact s (unlimited new)) (sym (cond-false s.have_output (held_open call s) 0 closed)) (never s new))

  holds_nothing : (new : State) → held_open call s ≡ 0 → Exact s (unlimited new) (held call s)
  holds_nothing new none = subst (Exact s (unlimited new))
      (sym (cond_both s.have_output (held_open call s) 0 (λ h. h ≡ 0) (λ _. none) (λ _. refl))) (never s new)

  -- these glyphs are put out
  puts_out : (xs : List hb_glyph_info_t) (then : State) → s.have_output ≡ true → length (s.out ++ xs) ≡ held_open call s
      → Exact s (put_out xs s then) (held call s)
  puts_out xs then opened eh =
      while_open (put_out xs s then) (length (s.out ++ xs)) (record then { out = then.out ++ xs }) opened refl eh

-- ---- lengths

length-taken : (n : ℕ) (out input : List hb_glyph_info_t) → n ≤ length input
    → length (out ++ take n input) ≡ length out + n
length-taken n out input within = omega (arith, length-append out (take n input), length-take-le n input within)

length-copied : (out input : List hb_glyph_info_t)
    → length (cond (eqb (length input) 0) (drop (length out - 1) out) (take 1 input)) ≡ min 1 (length (out ++ input))
length-copied out input =
    cond_both (eqb (length input) 0) _ _ (λ (l : List hb_glyph_info_t). length l ≡ min 1 (length (out ++ input)))
    (λ e. omega (arith, length-drop (length out - 1) out, length-append out input, eqb-true (length input) 0 e))
    (λ e. let off : length input ≡ 0 → ⊥ = eqb-false (length input) 0 e in
    omega (arith, length-take-le 1 input (omega arith), length-append out input, off))

-- ---- every call

-- how long the side is that `move_to` holds with an output open
abbrev held_place : ℕ → State → ℕ
held_place place s = cond (leb (length s.out) place) (length (take place (both s))) (length (drop place (both s)))

-- the list that a done `sync` leaves
abbrev joined : State → State
joined s = record s { have_output = false; have_separate_output = false; out = []; input = both s; idx = 0 }

next_exact : (call : Call) (n : ℕ) (s : State) → held_open call s ≡ length s.out + n → n ≤ lookahead_len s
    → Exact s (next_glyphs n s) (held call s)
next_exact call n s is within = elim (cases_Bool s.have_output) [
  | inl opened ↦ subst (λ (o : Outcome). Exact s o (held call s)) (sym (cond-true s.have_output _ _ opened))
      (puts_out call s (take n s.input) (skip_glyphs n s) opened
      (length-taken n s.out s.input (front_left s.have_output s.idx (length s.input) n opened within) ∙ sym is))
  | inr closed ↦ while_closed call s (next_glyphs n s) (skip_glyphs n s) closed (cond-false s.have_output _ _ closed)
]

one_left : (s : State) → has_glyph s ≡ true → 1 ≤ lookahead_len s
one_left s e = let lt = ltb-true s.idx (len s) e in omega arith

not_awaited : (b ok : Bool) → b ≡ true → (b && not ok) ≡ false → ok ≡ true
not_awaited true true e h = refl
not_awaited true false e h = cc
not_awaited false ok e h = cc

outcome_exact : (call : Call) (s : State) → may_be_made call s ≡ true → awaits_clear call s ≡ false
    → Exact s (outcome_of call s) (held call s)
outcome_exact NextGlyph s e free = next_exact NextGlyph 1 s refl (one_left s e)
outcome_exact (NextGlyphs n) s e free = next_exact (NextGlyphs n) n s refl (leb-true n (lookahead_len s) e)
outcome_exact (ReplaceGlyph id) s e free =
    let w = and_parts s.have_output (has_glyph s) e in
    let some = glyph_left s.have_output s.idx (length s.input) w.0 w.1 in
    puts_out (ReplaceGlyph id) s (map (with_id id) (take 1 s.input)) (skip_glyph s) w.0
    (omega (
      arith,
      length-append s.out (map (with_id id) (take 1 s.input)),
      length-map (take 1 s.input) (with_id id),
      length-take-le 1 s.input some,
    ))
outcome_exact (ReplaceGlyphs num_in num_out ids) s e free =
    let w = and_parts s.have_output _ e in
    let v = and_parts (has_glyph s) _ w.1 in
    let u = and_parts (leb num_in (lookahead_len s)) _ v.1 in
    while_open (ReplaceGlyphs num_in num_out ids) s _ (length s.out + length (take num_out ids.now))
    (front_replaced num_in (take num_out ids.now) s) w.0 (replace_glyphs-sides num_in (take num_out ids.now) s w.0)
    (omega (arith, length-take-le num_out ids.now (leb-true num_out (length ids.now) u.1)))
outcome_exact (OutputGlyph id) s e free =
    let g = glyph_to_copy s in
    puts_out (OutputGlyph id) s (map (with_id id) g) s e
    (length-append s.out (map (with_id id) g)
    ∙ ap (λ k. length s.out + k) (length-map g (with_id id) ∙ length-copied s.out s.input))
outcome_exact (OutputInfo g) s e free = puts_out (OutputInfo g) s (g ∷ []) s e (length-append s.out (g ∷ []))
outcome_exact CopyGlyph s e free =
    let w = and_parts s.have_output (has_glyph s) e in
    puts_out CopyGlyph s (take 1 s.input) s w.0
    (length-taken 1 s.out s.input (glyph_left s.have_output s.idx (length s.input) w.0 w.1))
outcome_exact (MoveTo place) s e free = elim (cases_Bool s.have_output) [
  | inl opened ↦
      let within : place ≤ length s.out + length s.input =
      subst (λ k. place ≤ k) (cond-true s.have_output _ _ opened) (leb-true place (last_place s) e) in
      let all = length-append s.out s.input in
      while_open (MoveTo place) s (move_to place s) (held_place place s) (split_at place s) opened
      (cond-true s.have_output _ _ opened ∙ cond-true s.successful _ _
      (not_awaited s.have_output s.successful opened free))
      (ap (λ k. cond (leb (length s.out) place) k (length (drop place (both s))))
      (length-take-le place (both s) (omega arith))
      ∙ ap (cond (leb (length s.out) place) place) (length-drop place (both s)))
  | inr closed ↦ while_closed (MoveTo place) s (move_to place s) (record s { idx = place }) closed
      (cond-false s.have_output _ _ closed)
]
outcome_exact Sync s e free = while_open Sync s _ (length (both s)) (joined s) e
    (cond-true s.successful _ _ (not_awaited s.have_output s.successful e free)) refl
outcome_exact ClearOutput s e free = holds_nothing ClearOutput s (outcome_of ClearOutput s).state refl
outcome_exact SkipGlyph s e free = holds_nothing SkipGlyph s (outcome_of SkipGlyph s).state refl
outcome_exact DeleteGlyph s e free = holds_nothing DeleteGlyph s (outcome_of DeleteGlyph s).state refl
outcome_exact (MergeClusters start end) s e free =
    holds_nothing (MergeClusters start end) s (outcome_of (MergeClusters start end) s).state refl
outcome_exact (MergeOutClusters start end) s e free =
    holds_nothing (MergeOutClusters start end) s (outcome_of (MergeOutClusters start end) s).state refl
outcome_exact (MergeGraphemeClusters start end) s e free =
    holds_nothing (MergeGraphemeClusters start end) s (outcome_of (MergeGraphemeClusters start end) s).state refl
outcome_exact (UnsafeToBreak start end) s e free =
    holds_nothing (UnsafeToBreak start end) s (outcome_of (UnsafeToBreak start end) s).state refl
outcome_exact (UnsafeToBreakFromOutbuffer start end) s e free =
    holds_nothing (UnsafeToBreakFromOutbuffer start end) s (outcome_of (UnsafeToBreakFromOutbuffer start end) s).state
    refl
outcome_exact (SafeToInsertTatweel start end) s e free =
    holds_nothing (SafeToInsertTatweel start end) s (outcome_of (SafeToInsertTatweel start end) s).state refl
outcome_exact (UnsafeToConcat start end) s e free =
    holds_nothing (UnsafeToConcat start end) s (outcome_of (UnsafeToConcat start end) s).state refl
outcome_exact (UnsafeToConcatFromOutbuffer start end) s e free =
    holds_nothing (UnsafeToConcatFromOutbuffer start end) s (outcome_of (UnsafeToConcatFromOutbuffer start end) s).state
    refl

-- ---- its turn

answered : (done : Bool) → (answer_of done ≡ Refused) ↔ (done ≡ false)
answered true = (λ e. cc, λ e. cc)
answered false = (λ e. refl, λ e. refl)

pub refused_exactly : (call : Call) (s : State) → may_be_made call s ≡ true → awaits_clear call s ≡ false
    → ((turn call s).answer ≡ Refused) ↔ (s.max_len < held call s)
refused_exactly call s e free =
    let o = outcome_of call s in
    let x = outcome_exact call s e free in
    let a = answered o.done in
    subst (λ (t : Turn). (t.answer ≡ Refused) ↔ (s.max_len < held call s)) (sym (cond-true (may_be_made call s) _ _ e))
    (λ r. x.0 (a.0 r), λ lt. a.1 (x.1 lt))

-- ---- after a refusal

turn-waits : (call : Call) (s : State) → moves_or_syncs call ≡ true → s.have_output ≡ true → s.successful ≡ false
    → may_be_made call s ≡ true → turn call s ≡ record { answer = Refused; state = s }
turn-waits (MoveTo place) s is opened h e = move_refused s opened h place (leb-true place (last_place s) e)
turn-waits Sync s is opened h e = sync_refused s opened h
turn-waits ClearOutput s is opened h e = cc
turn-waits NextGlyph s is opened h e = cc
turn-waits (NextGlyphs n) s is opened h e = cc
turn-waits SkipGlyph s is opened h e = cc
turn-waits (ReplaceGlyph id) s is opened h e = cc
turn-waits (ReplaceGlyphs num_in num_out ids) s is opened h e = cc
turn-waits (OutputGlyph id) s is opened h e = cc
turn-waits (OutputInfo g) s is opened h e = cc
turn-waits CopyGlyph s is opened h e = cc
turn-waits DeleteGlyph s is opened h e = cc
turn-waits (MergeClusters start end) s is opened h e = cc
turn-waits (MergeOutClusters start end) s is opened h e = cc
turn-waits (MergeGraphemeClusters start end) s is opened h e = cc
turn-waits (UnsafeToBreak start end) s is opened h e = cc
turn-waits (UnsafeToBreakFromOutbuffer start end) s is opened h e = cc
turn-waits (SafeToInsertTatweel start end) s is opened h e = cc
turn-waits (UnsafeToConcat start end) s is opened h e = cc
turn-waits (UnsafeToConcatFromOutbuffer start end) s is opened h e = cc

pub turn-refused_for_good : (calls : List Call) (call : Call) (s : State) → s.successful ≡ false
    → moves_or_syncs call ≡ true
    → (after calls s).have_output ≡ true
    → may_be_made call (after calls s) ≡ true → turn call (after calls s)
    ≡ record { answer = Refused; state = after calls s }
turn-refused_for_good calls call s h is opened e = turn-waits call (after calls s) is opened (refusal_after calls s h) e
