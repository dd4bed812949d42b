-- Groups that are reversed one after the other.
use Rattle.std.proofs.Common.{◌≡◌, ℕ, zero, suc, ◌+◌, ◌<◌, ◌≤◌, inl, inr, Bool, true, false, List, [], length, take}
use Rattle.std.proofs.Common.{drop, if◌then◌else◌, refl, sym, ap, ◌∙◌, arith, drop-drop}
use Rattle.std.proofs.Common.{reverse as reverse_list, length-drop, length-append}
use Rattle.std.specs.Prelude.{nat_lt, Option, None, Some}
use Rattle.std.specs.Option.{option_map}
use Rattle.std.proofs.lemmas.Bool.{cond-true, cond-false, lt-ltb, le-ltb, cases_lt}
use Rattle.std.proofs.lemmas.List.{drop_all}
use Rattle.rb_glyph.specs.declared.position.GlyphPosition.{GlyphPosition}
use Rattle.glyph_lists.specs.Deletion.{merge_or_mark}
use Rattle.glyph_lists.specs.Groups as groups
use Rattle.glyph_lists.specs.Groups.{Test, group_end, group_lens, first_group_len}
use Rattle.glyph_lists.proofs.LengthsLemmas.{length-merge_or_mark}
use Rattle.glyph_lists.proofs.GroupsLemmas.{group_lens_first, first_group_len-within, total_of_groups, total}
use Rattle.glyph_lists.proofs.GroupsLemmas.{length-reverse_range, drop-reverse_range, ranges_reversed}
use Rattle.glyph_lists.proofs.GroupsLemmas.{ranges_in_reverse}
use Rattle.shaping_buffer.specs.State.{State, len}
use Rattle.shaping_buffer.specs.ClusterStep.{merge_clusters, any_order, both, both_place, floor_of}
use Rattle.shaping_buffer.specs.GroupStep.{KeepsOthers, reverse, reverse_range, reverse_group, merged_groups}
use Rattle.shaping_buffer.specs.GroupStep.{groups_in_reverse, reverse_groups}

-- the groups from `start` on, at most `turns` of them
abbrev pub reverse_each : Bool → Test → ℕ → ℕ → State → State
reverse_each merges test zero start s = s
reverse_each merges test (suc turns) start s =
    let end = group_end test start s.input in
    let after = reverse_each merges test turns end (reverse_group merges start end s) in
    if nat_lt start (length s.input) then after else s

-- ---- one group

-- a merge keeps the length of the input
pub length_merged : (a b : ℕ) (s : State) → length (merge_clusters a b s).input ≡ length s.input
length_merged a b s =
    let l = merge_or_mark (any_order s) (both s) (both_place s a) (both_place s b) (floor_of s) in
    omega (
      arith,
      length-drop (length s.out) l,
      length-merge_or_mark (any_order s) (both s) (both_place s a)
          (both_place s b) (floor_of s),
      length-append s.out s.input,
    )

len_closed : (s : State) → s.have_output ≡ false → len s ≡ length s.input
len_closed s closed = cond-false _ _ _ closed

-- so a place in the list stays one
pub still_within : (a b k : ℕ) (s : State) → s.have_output ≡ false → k ≤ len s → k ≤ len (merge_clusters a b s)
still_within a b k s closed h =
    omega (arith, len_closed s closed, len_closed (merge_clusters a b s) closed, length_merged a b s)

pub length_group : (merges : Bool) (a b : ℕ) (s : State) → a ≤ b
    → length (reverse_group merges a b s).input ≡ length s.input
length_group true a b s up = length-reverse_range a b (merge_clusters a b s).input up ∙ length_merged a b s
length_group false a b s up = length-reverse_range a b s.input up

-- with nothing put out all else stays
pub group_keeps : (merges : Bool) (a b : ℕ) (s : State) → s.out ≡ [] → KeepsOthers s (reverse_group merges a b s)
group_keeps true a b s none =
    let l = merge_or_mark (any_order s) (both s) (both_place s a) (both_place s b) (floor_of s) in
    ap (λ o. record (reverse_group true a b s) { out = o }) (ap (λ o. take (length o) l) none ∙ sym none)
group_keeps false a b s none = refl

pub keeps_then : (s t u : State) → KeepsOthers s t → KeepsOthers t u → KeepsOthers s u
keeps_then s t u first second = second
    ∙ ap (λ (w : State). record w { input = u.input; positions = u.positions; scratch_flags = u.scratch_flags }) first

-- ---- one group after the other

pub reverse_each-done : (merges : Bool) (test : Test) (turns start : ℕ) (s : State) → length s.input ≤ start
    → reverse_each merges test turns start s ≡ s
reverse_each-done merges test zero start s h = refl
reverse_each-done merges test (suc turns) start s h = cond-false _ _ _ (le-ltb start (length s.input) h)

pub reverse_each-turn : (merges : Bool) (test : Test) (turns turns2 start end : ℕ) (s : State) → start < length s.input
    → turns ≡ suc turns2
    → end ≡ group_end test start s.input → reverse_each merges test turns2 end (reverse_group merges start end s)
    ≡ reverse_each merges test turns start s
reverse_each-turn merges test turns turns2 start end s h e e2 =
    ap (λ k. reverse_each merges test turns2 k (reverse_group merges start k s)) e2
    ∙ sym (cond-true _ _ _ (lt-ltb start (length s.input) h))
    ∙ sym (ap (λ k. reverse_each merges test k start s) e)

-- ---- merging

reverse_each-merges : (test : Test) (turns start : ℕ) (s : State)
    → reverse_each true test turns start s ≡ merged_groups test turns start s
reverse_each-merges test zero start s = refl
reverse_each-merges test (suc turns) start s =
    let end = group_end test start s.input in
    ap (λ after. if nat_lt start (length s.input) then after else s)
    (reverse_each-merges test turns end (reverse_group true start end s))

-- ---- not merging

same_option : {X : Type 0} (o : Option X) → o ≡ option_map (λ x. x) o
same_option None = refl
same_option (Some x) = refl

option_map-twice : {X : Type 0} (f g : X → X) (o : Option X)
    → option_map f (option_map g o) ≡ option_map (λ x. f (g x)) o
option_map-twice f g None = refl
option_map-twice f g (Some x) = refl

abbrev in_ranges : List ℕ → ℕ → State → State
in_ranges ns start s =
    record s { input = ranges_reversed ns start s.input; positions = option_map (ranges_reversed ns start) s.positions }

reverse_each-in_ranges : (test : Test) (turns start : ℕ) (s : State) → length s.input ≤ start + turns
    → reverse_each false test turns start s ≡ in_ranges (group_lens test (drop start s.input)) start s
reverse_each-in_ranges test zero start s h =
    ap (λ o. record s { positions = o }) (same_option s.positions)
    ∙ sym (ap (λ xs. in_ranges (group_lens test xs) start s) (drop_all start s.input (omega arith)))
reverse_each-in_ranges test (suc turns) start s h = elim (cases_lt start (length s.input)) [
  | inl lt ↦
      let rest = drop start s.input in
      let some : 0 < length rest = omega (arith, length-drop start s.input) in
      let n = first_group_len test rest in
      let low = (first_group_len-within test rest some).0 in
      let high = (first_group_len-within test rest some).1 in
      let end = start + n in
      let in_l : end ≤ length s.input = omega (arith, length-drop start s.input) in
      let t = reverse_range start end s in
      let ns = group_lens test (drop n rest) in
      let left : length t.input ≤ end + turns = omega (arith, length-reverse_range start end s.input (omega arith)) in
      let lens : group_lens test (drop end t.input) ≡ ns =
      ap (group_lens test) (drop-reverse_range start end s.input (omega arith) in_l
      ∙ sym (drop-drop n start s.input)) in
      cond-true _ _ _ (lt-ltb start (length s.input) lt)
      ∙ reverse_each-in_ranges test turns end t left
      ∙ ap (λ ks. in_ranges ks end t) lens
      ∙ ap (λ o. record s { input = ranges_reversed ns end t.input; positions = o })
      (option_map-twice (ranges_reversed ns end) (groups.reverse_range start end) s.positions)
      ∙ sym (ap (λ ks. in_ranges ks start s) (group_lens_first test rest some))
  | inr ge ↦ cond-false _ _ _ (le-ltb start (length s.input) ge)
      ∙ ap (λ o. record s { positions = o }) (same_option s.positions)
      ∙ sym (ap (λ xs. in_ranges (group_lens test xs) start s) (drop_all start s.input ge))
]

-- there is a position for each glyph, where there are positions
abbrev pub HasEachPosition : State → Type 0
HasEachPosition s = (ps : List GlyphPosition) → s.positions ≡ Some ps → length ps ≡ length s.input

option_map-ranges_reversed : (ns : List ℕ) (n : ℕ) (o : Option (List GlyphPosition)) → total ns ≡ n
    → ((ps : List GlyphPosition) → o ≡ Some ps → length ps ≡ n)
    → option_map reverse_list (option_map (ranges_reversed ns 0) o) ≡ option_map (groups.groups_in_reverse ns) o
option_map-ranges_reversed ns n None all each = refl
option_map-ranges_reversed ns n (Some ps) all each = ap Some (ranges_in_reverse ns ps (all ∙ sym (each ps refl)))

each_in_reverse : (test : Test) (s : State) → HasEachPosition s
    → reverse (reverse_each false test (length s.input) 0 s) ≡ groups_in_reverse test s
each_in_reverse test s each =
    let ns = group_lens test s.input in
    let all = total_of_groups test s.input in
    ap reverse (reverse_each-in_ranges test (length s.input) 0 s (omega arith))
    ∙ ap (λ xs. record s {
      input = xs;
      positions = option_map reverse_list
          (option_map (ranges_reversed ns 0) s.positions);
    }) (ranges_in_reverse ns s.input all)
    ∙ ap (λ o. record s { input = groups.groups_in_reverse ns s.input; positions = o })
    (option_map-ranges_reversed ns (length s.input) s.positions all each)

-- ---- both

pub reverse-reverse_each : (merges : Bool) (test : Test) (s : State) → HasEachPosition s
    → reverse (reverse_each merges test (length s.input) 0 s) ≡ reverse_groups test merges s
reverse-reverse_each true test s each = ap reverse (reverse_each-merges test (length s.input) 0 s)
reverse-reverse_each false test s each = each_in_reverse test s each
