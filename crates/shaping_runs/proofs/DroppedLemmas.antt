-- A glyph disappears only when a call drops it.
use Rattle.std.proofs.Common.{◌≡◌, ℕ, ◌+◌, ◌-◌, ◌<◌, ◌≤◌, Bool, true, false, not, cond, List, [], ◌∷◌}
use Rattle.std.proofs.Common.{◌++◌, length, length-append, length-take, length-drop, map, take, drop, refl, sym, ap, ◌∙◌, subst, arith}
use Rattle.std.proofs.Common.{leb, ltb, get_or, append_assoc}
use Rattle.std.proofs.lemmas.Bool.{cond_both, cond-true, cond-false, false≢true, and_parts, leb-true}
use Rattle.std.proofs.lemmas.List.{take-append-drop, append-nil, map-append, take-map, drop-map, get_or-map, drop-drop}
use Rattle.std.proofs.lemmas.List.{length-map}
use Rattle.std.proofs.Math.Seq.{take-append_seam, drop-append-add}
use Rattle.std.specs.Prelude.{Some}
use Rattle.rb_glyph.specs.declared.info.hb_glyph_info_t.{hb_glyph_info_t}
use Rattle.glyph_lists.specs.Parts.{part, on_part}
use Rattle.glyph_lists.specs.Clusters.{zero_glyph, run_merge}
use Rattle.glyph_lists.specs.Scans.{scan_of, two_part_scan}
use Rattle.glyph_lists.specs.Replacement.{copies}
use Rattle.glyph_lists.specs.declared.glyph_flags.TheConstants.{BREAK_BITS}
use Rattle.rb_glyph.specs.declared.glyph_flag.TheConstants.{UNSAFE_TO_CONCAT}
use Rattle.rb_glyph.specs.declared.flag_sets.TheConstants.BufferFlags.{PRODUCE_UNSAFE_TO_CONCAT}
use Rattle.glyph_lists.proofs.ScansLemmas.{two_part_scan-none}
use Rattle.glyph_laws.specs.Cores.{core, cores}
use Rattle.glyph_laws.proofs.CoresLemmas.{cores-run_merge, cores-merge_or_mark, cores-scanned_part, cores-flagged_part}
use Rattle.glyph_laws.proofs.CoresLemmas.{cores-deletion}
use Rattle.shaping_buffer.specs.State.{State}
use Rattle.shaping_buffer.specs.Step.{Outcome, limited, put_out, skip_glyphs, skip_glyph, next_glyphs, glyph_to_copy}
use Rattle.shaping_buffer.specs.Step.{replace_glyphs, move_to, split_at, with_id}
use Rattle.shaping_buffer.proofs.ReplacementLemmas.{front_merged, front_replaced, replace_glyphs-sides}
use Rattle.shaping_buffer.specs.ClusterLevel.{groups_graphemes}
use Rattle.shaping_buffer.specs.ClusterStep.{both, with_both, both_place, floor_of, any_order, merge_sides, head_of}
use Rattle.shaping_buffer.specs.ClusterStep.{merge_out_clusters, plain_scan, flag_all, asks}
use Rattle.shaping_buffer.specs.ClusterStep.{is_input_range, range_start, range_end, delete_glyph, tatweel_bits}
use Rattle.shaping_runs.specs.declared.call.Call.{Call}
use Rattle.shaping_runs.specs.declared.call.Call.TheVariants.{ClearOutput, NextGlyph, NextGlyphs, SkipGlyph}
use Rattle.shaping_runs.specs.declared.call.Call.TheVariants.{ReplaceGlyph, ReplaceGlyphs, OutputGlyph, OutputInfo}
use Rattle.shaping_runs.specs.declared.call.Call.TheVariants.{CopyGlyph, MoveTo, Sync, DeleteGlyph, MergeClusters}
use Rattle.shaping_runs.specs.declared.call.Call.TheVariants.{MergeOutClusters, UnsafeToBreak}
use Rattle.shaping_runs.specs.declared.call.Call.TheVariants.{UnsafeToBreakFromOutbuffer, SafeToInsertTatweel}
use Rattle.shaping_runs.specs.declared.call.Call.TheVariants.{UnsafeToConcat, UnsafeToConcatFromOutbuffer}
use Rattle.shaping_runs.specs.declared.call.Call.TheVariants.{MergeGraphemeClusters}
use Rattle.shaping_runs.specs.Replay.{Turn, turn, after, may_be_made, outcome_of, answer_of, has_glyph}
use Rattle.shaping_runs.specs.Dropped.{IsShut, dropped, brought, is_done, exchanged, dropped_by, brought_by, IsPart}
use Rattle.shaping_runs.specs.Dropped.{StayInOrder}
use Rattle.shaping_runs.proofs.PartsLemmas.{all, behind, past, part_of_part, common}
use Rattle.shaping_buffer.proofs.Steps.{range_end-some, glyph_left}
use Rattle.shaping_runs.proofs.Steps.{input_order, input_within, sides_order}

abbrev Glyphs : Type 0
Glyphs = List hb_glyph_info_t

abbrev cores_of : State → Glyphs
cores_of s = cores (both s)

-- ---- lists

-- where the first list ends, some of the second give way
cores-split : (out b input : Glyphs) (d : ℕ)
    → cores ((out ++ b) ++ drop d input)
    ≡ (take (length out) (cores (out ++ input)) ++ cores b) ++ drop (length out + d) (cores (out ++ input))
cores-split out b input d =
    let front : take (length out) (cores (out ++ input)) ≡ cores out =
    take-map core (length out) (out ++ input) ∙ ap cores (take-append_seam out input) in
    let back : drop (length out + d) (cores (out ++ input)) ≡ cores (drop d input) =
    drop-map core (length out + d) (out ++ input) ∙ ap cores (drop-append-add out input d) in
    map-append core (out ++ b) (drop d input)
    ∙ ap (λ (x : Glyphs). x ++ cores (drop d input)) (map-append core out b)
    ∙ ap (λ (x : Glyphs). (x ++ cores b) ++ cores (drop d input)) (sym front)
    ∙ ap (λ (x : Glyphs). (take (length out) (cores (out ++ input)) ++ cores b) ++ x) (sym back)

append-none_exchanged : (k : ℕ) (l : Glyphs) → (take k l ++ []) ++ drop (k + 0) l ≡ l
append-none_exchanged k l =
    let e : k + 0 ≡ k = omega arith in
    ap (λ j. (take k l ++ []) ++ drop j l) e ∙ ap (λ (y : Glyphs). y ++ drop k l) (append-nil (take k l))
    ∙ take-append-drop k l

cores-copies : (g : hb_glyph_info_t) (ids : List ℕ) → cores (copies g ids) ≡ copies (core g) ids
cores-copies g [] = refl
cores-copies g (id ∷ ids) = ap (λ (l : Glyphs). record (core g) { glyph_id = id } ∷ l) (cores-copies g ids)

-- ---- one call

-- the glyphs that a call leaves, by whether it is done
abbrev Exact : State → Glyphs → Outcome → Type 0
Exact s e o = cores_of o.state ≡ cond o.done e (cores_of s)

limited_exact : (held : ℕ) (s new : State) (e : Glyphs) → cores_of new ≡ e → Exact s e (limited held s new)
limited_exact held s new e h = cond_both (leb held s.max_len) _ _ (Exact s e) (λ _. h) (λ _. refl)

abbrev kept : State → Glyphs
kept s = (take (length s.out) (cores_of s) ++ []) ++ drop (length s.out + 0) (cores_of s)

cores_of-kept : (s : State) → cores_of s ≡ kept s
cores_of-kept s = sym (append-none_exchanged (length s.out) (cores_of s))

-- another list in the place of both sides
cores_of-with_both : (l : Glyphs) (s : State) → cores l ≡ cores_of s → cores_of (with_both l s) ≡ kept s
cores_of-with_both l s h = ap cores (take-append-drop (length s.out) l) ∙ h ∙ cores_of-kept s

next_exact : (n : ℕ) (s : State) → Exact s (kept s) (next_glyphs n s)
next_exact n s =
    cond_both s.have_output _ _ (Exact s (kept s))
    (λ open_now. limited_exact (length (s.out ++ take n s.input)) s
    (record (skip_glyphs n s) { out = s.out ++ take n s.input }) (kept s)
    (ap (λ (l : Glyphs). cores ((s.out ++ take n s.input) ++ l)) (cond-true s.have_output (drop n s.input) s.input open_now)
    ∙ ap cores (append_assoc s.out (take n s.input) (drop n s.input)
    ∙ ap (λ (l : Glyphs). s.out ++ l) (take-append-drop n s.input)) ∙ cores_of-kept s))
    (λ closed_now. ap (λ (l : Glyphs). cores (s.out ++ l)) (cond-false s.have_output (drop n s.input) s.input closed_now)
    ∙ cores_of-kept s)

cores-skip : (opens : Bool) (out input : Glyphs)
    → cores (out ++ cond opens (drop 1 input) input)
    ≡ (take (length out) (cores (out ++ input)) ++ []) ++ drop (length out + cond opens 1 0) (cores (out ++ input))
cores-skip true out input =
    ap (λ (x : Glyphs). cores (x ++ drop 1 input)) (sym (append-nil out)) ∙ cores-split out [] input 1
cores-skip false out input = sym (append-none_exchanged (length out) (cores (out ++ input)))

-- glyphs are put out in place of the one at the cursor
put_one : (xs : Glyphs) (s : State) → s.have_output ≡ true
    → Exact s ((take (length s.out) (cores_of s) ++ cores xs) ++ drop (length s.out + 1) (cores_of s))
    (put_out xs s (skip_glyph s))
put_one xs s opened =
    limited_exact (length (s.out ++ xs)) s (record (skip_glyph s) { out = s.out ++ xs }) _
    (ap (λ (l : Glyphs). cores ((s.out ++ xs) ++ l)) (cond-true s.have_output (drop 1 s.input) s.input opened)
    ∙ cores-split s.out xs s.input 1)

-- and behind what was put out
put_more : (xs : Glyphs) (s : State)
    → Exact s ((take (length s.out) (cores_of s) ++ cores xs) ++ drop (length s.out + 0) (cores_of s)) (put_out xs s s)
put_more xs s =
    limited_exact (length (s.out ++ xs)) s (record s { out = s.out ++ xs }) _ (cores-split s.out xs s.input 0)

replace_exact : (n : ℕ) (ids : List ℕ) (s : State) → s.have_output ≡ true → 0 < length s.input
    → Exact s
    ((take (length s.out) (cores_of s) ++ cores (copies (head_of s) ids)) ++ drop (length s.out + n) (cores_of s))
    (replace_glyphs n ids s)
replace_exact n ids s opened some =
    let k = length s.out in
    let l = front_merged (any_order s) n s in
    let h = get_or (drop k l) 0 zero_glyph in
    let same : cores l ≡ cores_of s = cores-merge_or_mark (any_order s) (both s) k (k + n) 0 (omega arith) in
    let rest : cores (drop k l) ≡ cores s.input =
    sym (drop-map core k l) ∙ ap (drop k) same ∙ drop-map core k (both s)
    ∙ ap cores (let e : k + 0 ≡ k = omega arith in ap (λ j. drop j (both s)) (sym e) ∙ drop-append-add s.out s.input 0) in
    let long : 0 < length (drop k l) =
    omega (arith, ap length rest, length-map (drop k l) core, length-map s.input core) in
    let head : core h ≡ core (head_of s) =
    sym (get_or-map core (drop k l) 0 zero_glyph zero_glyph long) ∙ ap (λ (x : Glyphs). get_or x 0 zero_glyph) rest
    ∙ get_or-map core s.input 0 zero_glyph zero_glyph some in
    let put : cores (copies h ids) ≡ cores (copies (head_of s) ids) =
    cores-copies h ids ∙ ap (λ g. copies g ids) head ∙ sym (cores-copies (head_of s) ids) in
    let front : cores (take k l) ≡ take k (cores_of s) = sym (take-map core k l) ∙ ap (take k) same in
    let back : cores (drop n (drop k l)) ≡ drop (k + n) (cores_of s) =
    ap cores (drop-drop n k l) ∙ sym (drop-map core (k + n) l) ∙ ap (drop (k + n)) same in
    subst (Exact s ((take k (cores_of s) ++ cores (copies (head_of s) ids)) ++ drop (k + n) (cores_of s)))
    (sym (replace_glyphs-sides n ids s opened))
    (limited_exact (k + length ids) s (front_replaced n ids s) _
    (map-append core (take k l ++ copies h ids) (drop n (drop k l))
    ∙ ap (λ (x : Glyphs). x ++ cores (drop n (drop k l))) (map-append core (take k l) (copies h ids))
    ∙ ap (λ (x : Glyphs). (x ++ cores (copies h ids)) ++ cores (drop n (drop k l))) front
    ∙ ap (λ (x : Glyphs). (take k (cores_of s) ++ x) ++ cores (drop n (drop k l))) put
    ∙ ap (λ (x : Glyphs). (take k (cores_of s) ++ cores (copies (head_of s) ids)) ++ x) back))

move_exact : (place : ℕ) (s : State) → Exact s (kept s) (move_to place s)
move_exact place s =
    cond_both s.have_output _ _ (Exact s (kept s))
    (λ _. cond_both s.successful _ _ (Exact s (kept s))
    (λ _. limited_exact _ s (split_at place s) (kept s) (ap cores (take-append-drop place (both s))
    ∙ cores_of-kept s)) (λ _. refl))
    (λ _. cores_of-kept s)

cores_of-delete_glyph : (any_order : Bool) (s : State) → 0 < length s.input
    → cores_of (delete_glyph s) ≡ (take (length s.out) (cores_of s) ++ []) ++ drop (length s.out + 1) (cores_of s)
cores_of-delete_glyph any s some =
    let d = cores-deletion (any_order s) s.out (head_of s) (drop 1 s.input) in
    map-append core (delete_glyph s).out (delete_glyph s).input
    ∙ ap (λ (x : Glyphs). x ++ cores (delete_glyph s).input) d.0 ∙ ap (λ (x : Glyphs). cores s.out ++ x) d.1
    ∙ ap (λ (x : Glyphs). cores x ++ cores (drop 1 s.input)) (sym (append-nil s.out))
    ∙ sym (map-append core (s.out ++ []) (drop 1 s.input)) ∙ cores-split s.out [] s.input 1

cores_of-merge_sides : (any_order : Bool) (start end : ℕ) (s : State) → start ≤ end
    → cores_of (merge_sides any_order (both_place s start) (both_place s end) s) ≡ kept s
cores_of-merge_sides any_order start end s up =
    cores_of-with_both _ s
    (cores-merge_or_mark any_order (both s) (both_place s start) (both_place s end) (floor_of s) (omega arith))

cores_of-merge_out_clusters : (start end : ℕ) (s : State) → start ≤ end
    → cores_of (merge_out_clusters start end s) ≡ kept s
cores_of-merge_out_clusters start end s up =
    cores_of-with_both (cond (any_order s) (both s) (run_merge (both s) start end 0)) s
    (cond_both (any_order s) _ _ (λ (l : Glyphs). cores l ≡ cores_of s) (λ _. refl)
    (λ _. cores-run_merge (both s) start end 0 up))

cores_of-plain_scan : (any_order : Bool) (bits start end : ℕ) (s : State) → start ≤ end
    → cores_of (plain_scan any_order bits start end s) ≡ kept s
cores_of-plain_scan any_order bits start end s up =
    let p = both_place s start in
    let q = both_place s end in
    cond_both (ltb (end - start) 2) _ _ (λ (t : State). cores_of t ≡ kept s) (λ _. cores_of-kept s)
    (λ _. cores_of-with_both (on_part (scan_of any_order bits) (both s) p q) s
    (subst (λ (xs : Glyphs). cores ((take p (both s) ++ xs) ++ drop q (both s)) ≡ cores_of s)
    (two_part_scan-none any_order bits (part (both s) p q))
    (cores-scanned_part any_order bits 0 (both s) p q (omega arith))))

cores_of-flag_all : (bits p q : ℕ) (s : State) → p ≤ q → cores_of (flag_all bits p q s) ≡ kept s
cores_of-flag_all bits p q s up = cores_of-with_both _ s (cores-flagged_part bits (both s) p q up)

-- what a call in its condition gives
abbrev given : Call → State → Glyphs
given call s = (take (length s.out) (cores_of s) ++ cores (brought call s)) ++ drop (length s.out + dropped call s) (cores_of s)

off_of : (b : Bool) → not b ≡ true → b ≡ false
off_of true e = cc
off_of false e = refl

outcome_exact : (call : Call) (s : State) → may_be_made call s ≡ true → IsShut s → Exact s (given call s) (outcome_of call s)
outcome_exact ClearOutput s e shut =
    ap (λ (o : Glyphs). cores (o ++ s.input)) (sym (shut (off_of s.have_output e))) ∙ cores_of-kept s
outcome_exact NextGlyph s e shut = next_exact 1 s
outcome_exact (NextGlyphs n) s e shut = next_exact n s
outcome_exact SkipGlyph s e shut = cores-skip s.have_output s.out s.input
outcome_exact (ReplaceGlyph id) s e shut = put_one (map (with_id id) (take 1 s.input)) s (and_parts s.have_output (has_glyph s) e).0
outcome_exact (ReplaceGlyphs num_in num_out ids) s e shut =
    let w = and_parts s.have_output _ e in
    let v = and_parts (has_glyph s) _ w.1 in
    replace_exact num_in (take num_out ids.now) s w.0 (glyph_left s.have_output s.idx (length s.input) w.0 v.0)
outcome_exact (OutputGlyph id) s e shut = put_more (map (with_id id) (glyph_to_copy s)) s
outcome_exact (OutputInfo g) s e shut = put_more (g ∷ []) s
outcome_exact CopyGlyph s e shut = put_more (take 1 s.input) s
outcome_exact (MoveTo place) s e shut = move_exact place s
outcome_exact Sync s e shut =
    cond_both s.successful _ _ (Exact s (kept s))
    (λ _. limited_exact (length (both s)) s
    (record s { have_output = false; have_separate_output = false; out = []; input = both s; idx = 0 }) (kept s)
    (cores_of-kept s))
    (λ _. refl)
outcome_exact DeleteGlyph s e shut =
    let w = and_parts s.have_output (has_glyph s) e in
    cores_of-delete_glyph (any_order s) s (glyph_left s.have_output s.idx (length s.input) w.0 w.1)
outcome_exact (MergeClusters start end) s e shut =
    cores_of-merge_sides (any_order s) start end s (input_order start end s e)
outcome_exact (MergeOutClusters start end) s e shut =
    let w = and_parts s.have_output _ e in
    cores_of-merge_out_clusters start end s (leb-true start end (and_parts (leb start end) _ w.1).0)
outcome_exact (MergeGraphemeClusters start end) s e shut =
    cond_both (groups_graphemes s.cluster_level) _ _ (λ (t : State). cores_of t ≡ kept s)
    (λ _. cores_of-merge_sides false start end s (input_order start end s e))
    (λ _. cores_of-plain_scan (any_order s) BREAK_BITS start (range_end (Some end) s) s
    (input_order start (range_end (Some end) s) s
    (subst (λ k. is_input_range start k s ≡ true) (sym (range_end-some end s (input_within start end s e))) e)))
outcome_exact (UnsafeToBreak start end) s e shut =
    cores_of-plain_scan (any_order s) BREAK_BITS (range_start start) (range_end end s) s
    (input_order (range_start start) (range_end end s) s e)
outcome_exact (UnsafeToBreakFromOutbuffer start end) s e shut =
    let p = range_start start in
    let q = both_place s (range_end end s) in
    cores_of-with_both (on_part (two_part_scan (any_order s) BREAK_BITS (length s.out - p)) (both s) p q) s
    (cores-scanned_part (any_order s) BREAK_BITS (length s.out - p) (both s) p q
    (sides_order (range_start start) (range_end end s) s e))
outcome_exact (SafeToInsertTatweel start end) s e shut =
    cores_of-plain_scan (any_order s) (tatweel_bits s) (range_start start) (range_end end s) s
    (input_order (range_start start) (range_end end s) s e)
outcome_exact (UnsafeToConcat start end) s e shut =
    let up = input_order (range_start start) (range_end end s) s e in
    cond_both (asks PRODUCE_UNSAFE_TO_CONCAT s) _ _ (λ (t : State). cores_of t ≡ kept s)
    (λ _. cores_of-flag_all UNSAFE_TO_CONCAT (both_place s (range_start start)) (both_place s (range_end end s)) s
    (omega arith))
    (λ _. cores_of-kept s)
outcome_exact (UnsafeToConcatFromOutbuffer start end) s e shut =
    cond_both (asks PRODUCE_UNSAFE_TO_CONCAT s) _ _ (λ (t : State). cores_of t ≡ kept s)
    (λ _. cores_of-flag_all UNSAFE_TO_CONCAT (range_start start) (both_place s (range_end end s)) s
    (sides_order (range_start start) (range_end end s) s e)) (λ _. cores_of-kept s)

is_done-answer_of : (done : Bool) → is_done (answer_of done) ≡ done
is_done-answer_of true = refl
is_done-answer_of false = refl

-- in its condition or outside
pub cores_of-turn : (call : Call) (s : State) → IsShut s → cores_of (turn call s).state ≡ exchanged call s (cores_of s)
cores_of-turn call s shut =
    cond_both (may_be_made call s) _ _
    (λ (t : Turn). cores_of t.state ≡ cond (is_done t.answer) (given call s) (cores_of s))
    (λ e. outcome_exact call s e shut
    ∙ ap (λ b. cond b (given call s) (cores_of s)) (sym (is_done-answer_of (outcome_of call s).done))) (λ _. refl)

-- ---- with no output open nothing stands on the out side

module _ (s : State) (shut : IsShut s) where
  opened_shut : (t : State) → t.have_output ≡ s.have_output → s.have_output ≡ true → IsShut t
  opened_shut t same opened off = absurd (false≢true (sym off ∙ same ∙ opened))

  limited_shut : (held : ℕ) (new : State) → IsShut new → IsShut (limited held s new).state
  limited_shut held new h = cond_both (leb held s.max_len) _ _ (λ (o : Outcome). IsShut o.state) (λ _. h) (λ _. shut)

  put_shut : (xs : Glyphs) (t : State) → t.have_output ≡ s.have_output → s.have_output ≡ true
      → IsShut (put_out xs s t).state
  put_shut xs t same opened =
      limited_shut (length (s.out ++ xs)) (record t { out = t.out ++ xs })
      (opened_shut (record t { out = t.out ++ xs }) same opened)

  cut_shut : (l : Glyphs) → IsShut (with_both l s)
  cut_shut l off = ap (λ (o : Glyphs). take (length o) l) (shut off)

  next_shut : (n : ℕ) → IsShut (next_glyphs n s).state
  next_shut n = cond_both s.have_output _ _ (λ (o : Outcome). IsShut o.state)
      (λ opened. put_shut (take n s.input) (skip_glyphs n s) refl opened) (λ _. shut)

  scan_shut : (any_order : Bool) (bits start end : ℕ) → IsShut (plain_scan any_order bits start end s)
  scan_shut any_order bits start end = cond_both (ltb (end - start) 2) _ _ IsShut (λ _. shut)
      (λ _. cut_shut (on_part (scan_of any_order bits) (both s) (both_place s start) (both_place s end)))

  outcome_shut : (call : Call) → may_be_made call s ≡ true → IsShut (outcome_of call s).state
  outcome_shut ClearOutput e = λ off. absurd (false≢true (sym off))
  outcome_shut NextGlyph e = next_shut 1
  outcome_shut (NextGlyphs n) e = next_shut n
  outcome_shut SkipGlyph e = shut
  outcome_shut (ReplaceGlyph id) e =
      put_shut (map (with_id id) (take 1 s.input)) (skip_glyph s) refl (and_parts s.have_output (has_glyph s) e).0
  outcome_shut (ReplaceGlyphs num_in num_out ids) e =
      let w = and_parts s.have_output _ e in
      subst (λ (o : Outcome). IsShut o.state) (sym (replace_glyphs-sides num_in (take num_out ids.now) s w.0))
      (limited_shut (length s.out + length (take num_out ids.now)) (front_replaced num_in (take num_out ids.now) s)
      (opened_shut (front_replaced num_in (take num_out ids.now) s) refl w.0))
  outcome_shut (OutputGlyph id) e = put_shut (map (with_id id) (glyph_to_copy s)) s refl e
  outcome_shut (OutputInfo g) e = put_shut (g ∷ []) s refl e
  outcome_shut CopyGlyph e = put_shut (take 1 s.input) s refl (and_parts s.have_output (has_glyph s) e).0
  outcome_shut (MoveTo place) e = cond_both s.have_output _ _ (λ (o : Outcome). IsShut o.state)
      (λ opened. cond_both s.successful _ _ (λ (o : Outcome). IsShut o.state)
      (λ _. limited_shut _ (split_at place s) (opened_shut (split_at place s) refl opened)) (λ _. shut)) (λ _. shut)
  outcome_shut Sync e = cond_both s.successful _ _ (λ (o : Outcome). IsShut o.state)
      (λ _. limited_shut (length (both s))
      (record s { have_output = false; have_separate_output = false; out = []; input = both s; idx = 0 }) (λ _. refl))
      (λ _. shut)
  outcome_shut DeleteGlyph e = opened_shut (delete_glyph s) refl (and_parts s.have_output (has_glyph s) e).0
  outcome_shut (MergeClusters start end) e = cut_shut _
  outcome_shut (MergeOutClusters start end) e = cut_shut _
  outcome_shut (MergeGraphemeClusters start end) e =
      cond_both (groups_graphemes s.cluster_level) _ _ IsShut (λ _. cut_shut _) (λ _. scan_shut _ _ _ _)
  outcome_shut (UnsafeToBreak start end) e = scan_shut _ _ _ _
  outcome_shut (UnsafeToBreakFromOutbuffer start end) e = cut_shut _
  outcome_shut (SafeToInsertTatweel start end) e = scan_shut _ _ _ _
  outcome_shut (UnsafeToConcat start end) e =
      cond_both (asks PRODUCE_UNSAFE_TO_CONCAT s) _ _ IsShut (λ _. cut_shut _) (λ _. shut)
  outcome_shut (UnsafeToConcatFromOutbuffer start end) e =
      cond_both (asks PRODUCE_UNSAFE_TO_CONCAT s) _ _ IsShut (λ _. cut_shut _) (λ _. shut)

  turn_shut : (call : Call) → IsShut (turn call s).state
  turn_shut call =
      cond_both (may_be_made call s) _ _ (λ (t : Turn). IsShut t.state) (λ e. outcome_shut call e) (λ _. shut)

-- ---- lists of calls

-- what is exchanged at one place
exchanged_in_order : (k d : ℕ) (b l : Glyphs) → StayInOrder l ((take k l ++ b) ++ drop (k + d) l) d (length b)
exchanged_in_order k d b l =
    let rest = drop (k + d) l in
    let back : drop (k + d) l ≡ drop d (drop k l) = sym (drop-drop d k l) in
    record {
      stay = take k l ++ rest;
      of_before = subst (λ (x : Glyphs). IsPart (take k l ++ rest) x) (take-append-drop k l)
          (behind (take k l) rest (drop k l)
          (subst (λ (x : Glyphs). IsPart x (drop k l)) (sym back)
          (subst (λ (x : Glyphs). IsPart (drop d (drop k l)) x) (take-append-drop d (drop k l))
          (past (take d (drop k l)) (drop d (drop k l)) (drop d (drop k l)) (all (drop d (drop k l)))))));
      of_after = subst (λ (x : Glyphs). IsPart (take k l ++ rest) x) (sym (append_assoc (take k l) b rest))
          (behind (take k l) rest (b ++ rest) (past b rest rest (all rest)));
      gone = omega (arith, length-append (take k l) rest, length-take k l, length-drop (k + d) l);
      new = omega (arith, length-append (take k l ++ b) rest, length-append (take k l) b, length-append (take k l) rest);
    }

abbrev dropped_if : Bool → Call → State → ℕ
dropped_if done call s = cond done (dropped call s) 0

abbrev brought_if : Bool → Call → State → ℕ
brought_if done call s = cond done (length (brought call s)) 0

one_in_order : (done : Bool) (call : Call) (s : State)
    → StayInOrder (cores_of s) (cond done (given call s) (cores_of s)) (dropped_if done call s) (brought_if done call s)
one_in_order true call s =
    subst (StayInOrder (cores_of s) (given call s) (dropped call s)) (length-map (brought call s) core)
    (exchanged_in_order (length s.out) (dropped call s) (cores (brought call s)) (cores_of s))
one_in_order false call s = record {
  stay = cores_of s;
  of_before = all (cores_of s);
  of_after = all (cores_of s);
  gone = omega arith;
  new = omega arith;
}

then_in_order : (a b c : Glyphs) (d1 n1 d2 n2 : ℕ) → StayInOrder a b d1 n1 → StayInOrder b c d2 n2
    → StayInOrder a c (d1 + d2) (n1 + n2)
then_in_order a b c d1 n1 d2 n2 x y =
    let both_stay = common x.stay y.stay b x.of_after y.of_before in
    record {
      stay = both_stay.rest;
      of_before = part_of_part both_stay.rest x.stay a both_stay.of_first x.of_before;
      of_after = part_of_part both_stay.rest y.stay c both_stay.of_second y.of_after;
      gone = omega (arith, both_stay.enough, x.gone, x.new, y.gone, y.new);
      new = omega (arith, both_stay.enough, x.gone, x.new, y.gone, y.new);
    }

pub calls_in_order : (calls : List Call) (s : State) → IsShut s
    → StayInOrder (cores_of s) (cores_of (after calls s)) (dropped_by calls s) (brought_by calls s)
calls_in_order [] s shut = one_in_order false ClearOutput s
calls_in_order (call ∷ calls) s shut =
    let done = is_done (turn call s).answer in
    then_in_order (cores_of s) (cores_of (turn call s).state) (cores_of (after calls (turn call s).state))
    (dropped_if done call s) (brought_if done call s) (dropped_by calls (turn call s).state)
    (brought_by calls (turn call s).state)
    (subst (λ (x : Glyphs). StayInOrder (cores_of s) x (dropped_if done call s) (brought_if done call s))
    (sym (cores_of-turn call s shut)) (one_in_order done call s))
    (calls_in_order calls (turn call s).state (turn_shut s shut call))
