-- A replacement, in the words of the two sides.
use Rattle.std.proofs.Common.{◌≡◌, inl, inr, ℕ, ◌+◌, ◌-◌, ◌<◌, ◌≤◌, ◌&&◌, ◌||◌, not, Bool, true, false, List, ◌++◌, Result, Ok, Err}
use Rattle.std.proofs.Common.{length, take, drop, sym, ap, ◌∙◌, arith, length-append, get_or, leb, ltb}
use Rattle.std.proofs.lemmas.Bool.{cond-true, cond-false, cases_lt, false≢true, le-leb, lt-leb, le-ltb}
use Rattle.std.proofs.lemmas.List.{get_or-drop, drop-drop, length-take-le}
use Rattle.std.specs.Prelude.{slice_index_or}
use Rattle.std.specs.declared.alloc.AllocError.{AllocError}
use Rattle.rb_glyph.specs.declared.info.hb_glyph_info_t.{hb_glyph_info_t}
use Rattle.glyph_lists.specs.Clusters.{zero_glyph}
use Rattle.glyph_lists.specs.Deletion.{merge_or_mark}
use Rattle.glyph_lists.specs.Replacement.{copies, replacement}
use Rattle.glyph_lists.proofs.LengthsLemmas.{length_copies, length-merge_or_mark}
use Rattle.shaping_buffer.specs.State.{State}
use Rattle.shaping_buffer.specs.ClusterStep.{both, any_order, flagged_if}
use Rattle.shaping_buffer.specs.Step.{Outcome, Meets, limited, settled, replace_glyphs}

-- both sides, the first n glyphs of the input merged
abbrev pub front_merged : Bool → ℕ → State → List hb_glyph_info_t
front_merged any_order n s = merge_or_mark any_order (both s) (length s.out) (length s.out + n) 0

-- in place of them copies of the current glyph as it then is are put out
abbrev pub front_replaced : ℕ → List ℕ → State → State
front_replaced n ids s =
    let l = front_merged (any_order s) n s in
    record s {
      out = take (length s.out) l ++ copies (slice_index_or (drop (length s.out) l) 0 zero_glyph) ids;
      input = drop n (drop (length s.out) l);
      idx = s.idx + n;
      scratch_flags = flagged_if (any_order s && not (ltb n 2)) s;
    }

pub replace_glyphs-sides : (n : ℕ) (ids : List ℕ) (s : State) → s.have_output ≡ true
    → replace_glyphs n ids s ≡ limited (length s.out + length ids) s (front_replaced n ids s)
replace_glyphs-sides n ids s opened =
    let start : length s.out + (s.idx - s.idx) ≡ length s.out = omega arith in
    let end : length s.out + (s.idx + n - s.idx) ≡ length s.out + n = omega arith in
    let count : s.idx + n - s.idx ≡ n = omega arith in
    let head = slice_index_or (drop (length s.out) (front_merged (any_order s) n s)) 0 zero_glyph in
    rw (opened, start, end, count, length-append s.out, length_copies head ids)

-- it is done where the copies fit
pub replace_glyphs-done : (n : ℕ) (ids : List ℕ) (s : State) → s.have_output ≡ true
    → length s.out + length ids ≤ s.max_len
    → replace_glyphs n ids s ≡ record { done = true; state = settled (front_replaced n ids s) }
replace_glyphs-done n ids s opened fits = replace_glyphs-sides n ids s opened
    ∙ cond-true (leb (length s.out + length ids) s.max_len) _ _ (le-leb (length s.out + length ids) s.max_len fits)

-- an output in place stays so where no more is put out than is read
front_in_place : (n : ℕ) (ids : List ℕ) (s : State) → s.have_separate_output ≡ false → length s.out ≤ s.idx → length ids ≤ n
    → (settled (front_replaced n ids s)).have_separate_output ≡ false
front_in_place n ids s together near fewer =
    let l = front_merged (any_order s) n s in
    let head = slice_index_or (drop (length s.out) l) 0 zero_glyph in
    let all : length l ≡ length s.out + length s.input =
    length-merge_or_mark (any_order s) (both s) (length s.out) (length s.out + n) 0 ∙ length-append s.out s.input in
    let out : length (take (length s.out) l) ≡ length s.out = length-take-le (length s.out) l (omega (arith, all)) in
    let size : length (take (length s.out) l ++ copies head ids) ≤ s.idx + n =
    omega (arith, length-append (take (length s.out) l) (copies head ids), length_copies head ids, out, near, fewer) in
    ap (λ b. b || ltb (s.idx + n) (length (take (length s.out) l ++ copies head ids))) together ∙ le-ltb _ _ size

-- such a replacement is done, and asks for no memory
pub replaced_in_place : (n : ℕ) (ids : List ℕ) (s new : State) (result : Result Bool AllocError)
    → Meets (replace_glyphs n ids s) s result new → s.have_output ≡ true → s.have_separate_output ≡ false
    → length s.out ≤ s.idx → length s.out + length ids ≤ s.max_len → length ids ≤ n → result ≡ Ok true
replaced_in_place n ids s new (Ok b) meets opened together near fits fewer =
    ap Ok (meets.0 ∙ ap (λ (o : Outcome). o.done) (replace_glyphs-done n ids s opened fits))
replaced_in_place n ids s new (Err e) meets opened together near fits fewer =
    let is = replace_glyphs-done n ids s opened fits in
    absurd (false≢true (sym (ap (λ b. b || (replace_glyphs n ids s).state.have_separate_output) together
    ∙ ap (λ (o : Outcome). o.state.have_separate_output) is ∙ front_in_place n ids s together near fewer) ∙ meets.0.1))

pub replace_glyphs-refused : (n : ℕ) (ids : List ℕ) (s : State) → s.have_output ≡ true
    → s.max_len < length s.out + length ids
    → replace_glyphs n ids s ≡ record { done = false; state = record s { successful = false } }
replace_glyphs-refused n ids s opened long = replace_glyphs-sides n ids s opened
    ∙ cond-false (leb (length s.out + length ids) s.max_len) _ _ (lt-leb (length s.out + length ids) s.max_len long)

-- of both sides as one list it is a replacement
pub replaced_both : (n : ℕ) (ids : List ℕ) (s : State)
    → both (front_replaced n ids s) ≡ replacement (any_order s) (both s) (length s.out) (length s.out + n) ids
unfolding replacement
replaced_both n ids s =
    let p = length s.out in
    let l = front_merged (any_order s) n s in
    let start : p + 0 ≡ p = omega arith in
    ap (λ g. (take p l ++ copies g ids) ++ drop n (drop p l))
    (get_or-drop p l 0 zero_glyph ∙ ap (λ k. get_or l k zero_glyph) start)
    ∙ ap (λ r. (take p l ++ copies (get_or l p zero_glyph) ids) ++ r) (drop-drop n p l)

pub both-replace_glyphs : (n : ℕ) (ids : List ℕ) (s : State) → s.have_output ≡ true
    → (replace_glyphs n ids s).done ≡ true
    → both (replace_glyphs n ids s).state ≡ replacement (any_order s) (both s) (length s.out) (length s.out + n) ids
both-replace_glyphs n ids s opened done =
    elim (cases_lt s.max_len (length s.out + length ids)) [
      | inl long ↦ absurd (false≢true (sym (ap (λ (o : Outcome). o.done) (replace_glyphs-refused n ids s opened long))
          ∙ done))
      | inr fits ↦ ap (λ (o : Outcome). both o.state) (replace_glyphs-done n ids s opened fits) ∙ replaced_both n ids s
    ]
