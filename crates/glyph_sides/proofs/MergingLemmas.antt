-- Merges where no output is open.
use Rattle.std.proofs.Common.{◌≡◌, ◌++◌, ◌-◌, ℕ, Bool, false, [], length, take, drop, sym, ap, ◌∙◌, arith, if◌then◌else◌}
use Rattle.std.proofs.lemmas.Bool.{cond-false}
use Rattle.glyph_lists.specs.Deletion.{merge_or_mark}
use Rattle.glyph_sides.specs.TwoLists.{TwoLists, both, place, with_both, input_merged}

-- a place in the list is the same one in both sides
place_closed : (k : ℕ) (s : TwoLists) → s.is_open ≡ false → s.out ≡ [] → place k s ≡ k
place_closed k s closed none =
    let start : (if s.is_open then s.idx else 0) ≡ 0 = cond-false _ _ _ closed in
    let before : length s.out ≡ 0 = ap length none in
    omega (arith, start, before)

-- the merge of both sides is that of the list
pub input-closed_merge : (any_order : Bool) (a b : ℕ) (s : TwoLists) → s.is_open ≡ false → s.out ≡ []
    → record s { input = merge_or_mark any_order s.input a b s.idx } ≡ input_merged any_order a b s
input-closed_merge any_order a b s closed none =
    let floor = if s.is_open then 0 else s.idx in
    let l = merge_or_mark any_order (both s) (place a s) (place b s) floor in
    let merged : l ≡ merge_or_mark any_order s.input a b s.idx =
    ap (λ o. merge_or_mark any_order (o ++ s.input) (place a s) (place b s) floor) none
    ∙ ap (λ k. merge_or_mark any_order s.input k (place b s) floor) (place_closed a s closed none)
    ∙ ap (λ k. merge_or_mark any_order s.input a k floor) (place_closed b s closed none)
    ∙ ap (merge_or_mark any_order s.input a b) (cond-false _ _ _ closed) in
    sym (
    ap (λ o. record (with_both l s) { out = o }) (ap (λ o. take (length o) l) none ∙ sym none)
    ∙ ap (λ xs. record s { input = xs }) (ap (λ o. drop (length o) l) none ∙ merged)
    )
