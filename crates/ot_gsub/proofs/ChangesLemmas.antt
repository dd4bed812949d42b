-- What is told of changes, and what leaves the numbers of the glyphs as they are.
use Rattle.std.proofs.Common.{◌≡◌, ℕ, ◌+◌, ◌-◌, ◌≤◌, Bool, true, false, List, [], ◌++◌, length, min, Option, Some, Result, Ok, IfOk}
use Rattle.std.proofs.Common.{refl, sym, ap, subst, ◌∙◌, arith}
use Rattle.std.proofs.lemmas.Bool.{and_parts, cond-false, cond_both, false≢true, leb-true}
use Rattle.std.proofs.lemmas.List.{take-append-drop}
use Rattle.std.specs.Prelude.{IsErr, is_err, nat_le, nat_lt, ◌^◌, ◌==◌, ◌&&◌}
use Rattle.std.specs.declared.alloc.AllocError.{AllocError}
use Rattle.rb_glyph.specs.declared.flag_sets.TheConstants.BufferFlags.{PRODUCE_UNSAFE_TO_CONCAT}
use Rattle.rb_glyph.specs.declared.glyph_flag.TheConstants.{UNSAFE_TO_CONCAT}
use Rattle.rb_glyph.specs.declared.info.hb_glyph_info_t.{hb_glyph_info_t}
use Rattle.glyph_lists.specs.Marks.{with_glyph_flags}
use Rattle.glyph_lists.specs.Parts.{map_range}
use Rattle.glyph_lists.proofs.PartsLemmas.{map-map_range}
use Rattle.ot_lookups.specs.declared.lookup_list.Lookup.{Lookup}
use Rattle.ot_layout.specs.declared.search.Reach.{Reach}
use Rattle.shaping_buffer.specs.State.{State, len}
use Rattle.shaping_buffer.specs.ClusterStep.{asks, both, both_place, flag_all, input_start, range_end, unsafe_to_concat_from_outbuffer}
use Rattle.shaping_buffer.specs.Step.{Meets, Outcome, sync}
use Rattle.ot_gsub.specs.Changes.{TellsChanges, glyph_numbers, numbers_of}
use Rattle.ot_gsub.specs.Runs.{mark_around}
use Rattle.ot_gsub.specs.Singles.{GoesOn, opened_at}
use Rattle.ot_gsub.specs.Turn.{mark_reach}
use Rattle.ot_gsub.proofs.EditsLemmas.{state-limited}
use Rattle.ot_gsub.proofs.PutOutLemmas.{both-put}

-- ---- what is told

pub tells_none : (s : State) (told : Bool) → TellsChanges s told s told
tells_none s told = record { before = λ none. none; same = λ none. refl }

-- one thing after another
pub tells_then : (s t u : State) (told mid tells : Bool) → TellsChanges s told t mid → TellsChanges t mid u tells
    → TellsChanges s told u tells
tells_then s t u told mid tells first second = record {
  before = λ none. first.before (second.before none);
  same = λ none. second.same none ∙ first.same (second.before none);
}

-- the glyphs have the same numbers, and nothing is told
pub tells_passed : (s t : State) (told tells : Bool) → tells ≡ told → glyph_numbers t ≡ glyph_numbers s
    → TellsChanges s told t tells
tells_passed s t told tells is same = record { before = λ none. sym is ∙ none; same = λ none. same }

-- a change is told
pub tells_changed : (s t : State) (told tells : Bool) → tells ≡ true → TellsChanges s told t tells
tells_changed s t told tells is = record {
  before = λ none. absurd (false≢true (sym none ∙ is));
  same = λ none. absurd (false≢true (sym none ∙ is));
}

-- ---- another answer

pub error_is_no_answer : (r : Result Bool AllocError) → r ≡ Ok true → IsErr r → ⊥
error_is_no_answer r is failed = false≢true (sym (ap is_err is) ∙ failed)

-- ---- marks

glyph_id-with_glyph_flags : (bits : ℕ) (g : hb_glyph_info_t) → (with_glyph_flags bits g).glyph_id ≡ g.glyph_id
unfolding with_glyph_flags
glyph_id-with_glyph_flags bits g = refl

glyph_numbers-flag_all : (bits p q : ℕ) (s : State) → p ≤ q → glyph_numbers (flag_all bits p q s) ≡ glyph_numbers s
glyph_numbers-flag_all bits p q s up =
    ap numbers_of (take-append-drop (length s.out) (map_range (with_glyph_flags bits) (both s) p q))
    ∙ map-map_range (λ (g : hb_glyph_info_t). g.glyph_id) (with_glyph_flags bits) (glyph_id-with_glyph_flags bits) (both s) p q up

glyph_numbers-concat : (p : ℕ) (end : Option ℕ) (s : State) → p ≤ both_place s (range_end end s)
    → glyph_numbers (unsafe_to_concat_from_outbuffer (Some p) end s) ≡ glyph_numbers s
glyph_numbers-concat p end s up =
    cond_both (asks PRODUCE_UNSAFE_TO_CONCAT s) _ _ (λ (t : State). glyph_numbers t ≡ glyph_numbers s)
    (λ _. glyph_numbers-flag_all UNSAFE_TO_CONCAT p (both_place s (range_end end s)) s up) (λ _. refl)

from_out : (p k : ℕ) (s : State) → p ≤ length s.out → p ≤ both_place s k
from_out p k s within = omega (arith, within)

pub glyph_numbers-mark_reach : (reach : Reach) (s : State) → glyph_numbers (mark_reach reach s) ≡ glyph_numbers s
glyph_numbers-mark_reach reach s =
    let p = min reach.from (length s.out) in
    let end = Some (min (s.idx + reach.to) (2 ^ 64 - 1)) in
    cond_both ((reach.to == 0) && nat_le (length s.out) reach.from) _ _ (λ (t : State). glyph_numbers t ≡ glyph_numbers s)
    (λ _. refl) (λ _. glyph_numbers-concat p end s (from_out p (range_end end s) s (omega arith)))

within_end : (from to all start out : ℕ) → from ≤ to → to ≤ all → start ≡ 0 → from ≤ out + (min to all - start)
within_end from to all start out up within none = omega arith

pub glyph_numbers-mark_around : (place : ℕ) (reach : Reach) (s : State) → s.have_output ≡ false
    → glyph_numbers (mark_around place reach s) ≡ glyph_numbers s
glyph_numbers-mark_around place reach s shut =
    let to = min (min (place + reach.to) (2 ^ 64 - 1)) (len s) in
    let start : input_start s ≡ 0 = cond-false _ _ _ shut in
    cond_both (nat_lt 0 reach.to && nat_le reach.from to) _ _ (λ (t : State). glyph_numbers t ≡ glyph_numbers s)
    (λ holds.
    let up : reach.from ≤ to = leb-true reach.from to (and_parts (nat_lt 0 reach.to) (nat_le reach.from to) holds).1 in
    glyph_numbers-concat reach.from (Some to) s (within_end reach.from to (len s) (input_start s) (length s.out) up (omega arith) start))
    (λ _. refl)

-- ---- glyphs that are put out, and the output opened and closed

pub glyph_numbers-goes_on : (lookup : Lookup) (mask start : ℕ) (s : State) (result : Result Bool AllocError) (new : State)
    → s.have_output ≡ true → IfOk result (λ done. GoesOn lookup mask start s done new) → result ≡ Ok true
    → glyph_numbers new ≡ glyph_numbers s
glyph_numbers-goes_on lookup mask start s result new opened goes is =
    let g : GoesOn lookup mask start s true new =
    subst (λ (r : Result Bool AllocError). IfOk r (λ done. GoesOn lookup mask start s done new)) is goes in
    ap numbers_of (ap both g.gives.state ∙ both-put g.count s opened (sym g.gives.answer))

pub glyph_numbers-opened_at : (n : ℕ) (s b : State) → s.out ≡ [] → b ≡ opened_at n s → glyph_numbers b ≡ glyph_numbers s
glyph_numbers-opened_at n s b empty at =
    ap glyph_numbers at ∙ ap numbers_of (take-append-drop n s.input)
    ∙ ap (λ (o : List hb_glyph_info_t). numbers_of (o ++ s.input)) (sym empty)

both-sync : (s : State) → (sync s).done ≡ true → both (sync s).state ≡ both s
both-sync s =
    let l = s.out ++ s.input in
    let after : State = record s { have_output = false; have_separate_output = false; out = []; input = l; idx = 0 } in
    cond_both s.successful _ _ (λ (o : Outcome). o.done ≡ true → both o.state ≡ both s)
    (λ _ done. ap both (state-limited (length l) s after done)) (λ _ done. refl)

pub glyph_numbers-sync : (s : State) (result : Result Bool AllocError) (new : State) → Meets (sync s) s result new → result ≡ Ok true
    → glyph_numbers new ≡ glyph_numbers s
glyph_numbers-sync s result new meets is =
    let met = subst (λ (r : Result Bool AllocError). Meets (sync s) s r new) is meets in
    ap numbers_of (ap both met.1 ∙ both-sync s (sym met.0))
