-- What each call does to the lengths of both sides. `lengths` are rewrite rules for the loops of callers, who name them
-- in an attribute: `#[tactic(auto, using(shaping_runs::proofs::CallerLaws::lengths))]`.
use Rattle.std.proofs.Common.{◌≡◌, ◌≤◌, ◌+◌, ◌-◌, ℕ, Bool, true, cond, List, [], ◌∷◌, ◌++◌, length, map}
use Rattle.std.proofs.Common.{take, drop, refl, sym, ap, ◌∙◌, subst, arith, ltb, leb, ◌||◌, length-append}
use Rattle.std.proofs.Common.{length-drop, eqb}
use Rattle.std.proofs.lemmas.Bool.{cond_both, cond-true, false≢true, le-ltb, eqb-true}
use Rattle.std.proofs.lemmas.List.{length-map, length-take-le}
use Rattle.rb_glyph.specs.declared.info.hb_glyph_info_t.{hb_glyph_info_t}
use Rattle.glyph_lists.specs.Clusters.{run_merge}
use Rattle.glyph_lists.specs.Deletion.{deletion, merge_or_mark}
use Rattle.glyph_lists.specs.Replacement.{copies}
use Rattle.glyph_lists.proofs.LengthsLemmas.{length-merge_or_mark, length-deletion, length_copies}
use Rattle.glyph_lists.proofs.MergesLemmas.{length-run_merge}
use Rattle.shaping_buffer.specs.State.{State}
use Rattle.shaping_buffer.specs.Step.{Outcome, limited, settled, put_out, skip_glyph, skip_glyphs}
use Rattle.shaping_buffer.specs.Step.{next_glyphs, replace_glyph, replace_glyphs, output_glyph, output_info, copy_glyph}
use Rattle.shaping_buffer.specs.Step.{with_id, glyph_to_copy}
use Rattle.shaping_buffer.specs.ClusterStep.{both, both_place, floor_of, any_order, with_both, merge_clusters}
use Rattle.shaping_buffer.specs.ClusterStep.{merge_out_clusters, delete_glyph, head_of}
use Rattle.shaping_runs.specs.Moves.{Moves}

-- ---- both sides of a merge and of a deletion

length_out_of : (l : List hb_glyph_info_t) (s : State) → length l ≡ length (both s)
    → length (with_both l s).out ≡ length s.out
length_out_of l s same = omega (arith, same, length-take-le (length s.out) l (omega (arith, same, length-append s.out s.input)))

length_input_of : (l : List hb_glyph_info_t) (s : State) → length l ≡ length (both s)
    → length (with_both l s).input ≡ length s.input
length_input_of l s same = omega (arith, same, length-drop (length s.out) l, length-append s.out s.input)

length_merged : (start end : ℕ) (s : State) → length (merge_or_mark (any_order s) (both s) (both_place s start)
    (both_place s end) (floor_of s)) ≡ length (both s)
length_merged start end s =
    length-merge_or_mark (any_order s) (both s) (both_place s start) (both_place s end) (floor_of s)

pub length-merge_clusters_out : (start end : ℕ) (s : State) → length (merge_clusters start end s).out ≡ length s.out
length-merge_clusters_out start end s = length_out_of _ s (length_merged start end s)

pub length-merge_clusters_input : (start end : ℕ) (s : State)
    → length (merge_clusters start end s).input ≡ length s.input
length-merge_clusters_input start end s = length_input_of _ s (length_merged start end s)

length_merged_out : (start end : ℕ) (s : State)
    → length (cond (any_order s) (both s) (run_merge (both s) start end 0)) ≡ length (both s)
length_merged_out start end s =
    cond_both (any_order s) _ _ (λ (l : List hb_glyph_info_t). length l ≡ length (both s)) (λ _. refl)
    (λ _. length-run_merge (both s) start end 0)

pub length-merge_out_clusters_out : (start end : ℕ) (s : State)
    → length (merge_out_clusters start end s).out ≡ length s.out
length-merge_out_clusters_out start end s = length_out_of _ s (length_merged_out start end s)

pub length-merge_out_clusters_input : (start end : ℕ) (s : State)
    → length (merge_out_clusters start end s).input ≡ length s.input
length-merge_out_clusters_input start end s = length_input_of _ s (length_merged_out start end s)

-- a deletion of any glyph, where the state is not a variable
pub length-deletion_out : (any_order : Bool) (out : List hb_glyph_info_t) (x : hb_glyph_info_t)
    (rest : List hb_glyph_info_t) → length (deletion any_order out x rest).out ≡ length out
length-deletion_out any_order out x rest = (length-deletion any_order out x rest).0

pub length-deletion_rest : (any_order : Bool) (out : List hb_glyph_info_t) (x : hb_glyph_info_t)
    (rest : List hb_glyph_info_t) → length (deletion any_order out x rest).rest ≡ length rest
length-deletion_rest any_order out x rest = (length-deletion any_order out x rest).1

pub length-delete_glyph_out : (s : State) → length (delete_glyph s).out ≡ length s.out
length-delete_glyph_out s = length-deletion_out (any_order s) s.out (head_of s) (drop 1 s.input)

pub length-delete_glyph_input : (s : State) → length (delete_glyph s).input ≡ length s.input - 1
length-delete_glyph_input s =
    length-deletion_rest (any_order s) s.out (head_of s) (drop 1 s.input) ∙ length-drop 1 s.input

pub ruleset lengths = (
  length-merge_clusters_out,
  length-merge_clusters_input,
  length-merge_out_clusters_out,
  length-merge_out_clusters_input,
  length-delete_glyph_out,
  length-delete_glyph_input,
  length-deletion_out,
  length-deletion_rest,
  length_copies,
)

-- ---- calls that move glyphs

module _ (put read : ℕ) (s after : State) (more : length after.out ≡ length s.out + put)
    (less : length after.input ≡ length s.input - read) (on : after.idx ≡ s.idx + read)
    (opened : after.have_output ≡ s.have_output) (separate : after.have_separate_output ≡ s.have_separate_output)
    (successful : after.successful ≡ s.successful) (max_len : after.max_len ≡ s.max_len) where
  moves : Moves put read s after
  moves = record {
    out = more;
    input = less;
    idx = on;
    opened = opened;
    in_place = λ fewer together near. separate ∙ together;
    successful = successful;
    max_len = max_len;
  }

  settled_moves : Moves put read s (settled after)
  settled_moves = record {
    out = more;
    input = less;
    idx = on;
    opened = opened;
    in_place = λ fewer together near. ap (λ b. b || ltb after.idx (length after.out)) (separate ∙ together)
        ∙ le-ltb after.idx (length after.out) (omega (arith, more, on, fewer, near));
    successful = successful;
    max_len = max_len;
  }

  done_moves : (held : ℕ) → (limited held s after).done ≡ true → Moves put read s (limited held s after).state
  done_moves held = cond_both (leb held s.max_len) _ _
      (λ (o : Outcome). o.done ≡ true → Moves put read s o.state) (λ _ _. settled_moves)
      (λ _ off. absurd (false≢true off))

module _ (s : State) where
  -- what a call that skips leaves, with an output open
  skipped : (n : ℕ) → s.have_output ≡ true → length (skip_glyphs n s).input ≡ length s.input - n
  skipped n opened = ap length (cond-true s.have_output _ _ opened) ∙ length-drop n s.input

  pub next_glyphs_moves : (n : ℕ) → s.have_output ≡ true → n ≤ length s.input → (next_glyphs n s).done ≡ true
      → Moves n n s (next_glyphs n s).state
  next_glyphs_moves n opened within =
      subst (λ (o : Outcome). o.done ≡ true → Moves n n s o.state) (sym (cond-true s.have_output _ _ opened))
      (done_moves n n s (record (skip_glyphs n s) { out = s.out ++ take n s.input })
      (omega (arith, length-append s.out (take n s.input), length-take-le n s.input within))
      (skipped n opened) refl refl refl refl refl (length (s.out ++ take n s.input)))

  pub skip_glyph_moves : s.have_output ≡ true → Moves 0 1 s (skip_glyph s)
  skip_glyph_moves opened = moves 0 1 s (skip_glyph s) (omega arith) (skipped 1 opened) refl refl refl refl refl

  pub replace_glyph_moves : (id : ℕ) → s.have_output ≡ true → 1 ≤ length s.input → (replace_glyph id s).done ≡ true
      → Moves 1 1 s (replace_glyph id s).state
  replace_glyph_moves id opened some =
      let xs = map (with_id id) (take 1 s.input) in
      done_moves 1 1 s (record (skip_glyph s) { out = s.out ++ xs })
      (omega (
        arith,
        length-append s.out xs,
        length-map (take 1 s.input) (with_id id),
        length-take-le 1 s.input some,
      ))
      (skipped 1 opened) refl refl refl refl refl (length (s.out ++ xs))

  pub replace_glyphs_moves : (n : ℕ) (ids : List ℕ) → s.have_output ≡ true → (replace_glyphs n ids s).done ≡ true
      → Moves (length ids) n s (replace_glyphs n ids s).state
  replace_glyphs_moves n ids opened =
      let m = merge_clusters s.idx (s.idx + n) s in
      let xs = copies (head_of m) ids in
      done_moves (length ids) n s (record (skip_glyphs n m) { out = m.out ++ xs })
      (omega (
        arith,
        length-append m.out xs,
        length-merge_clusters_out s.idx (s.idx + n) s,
        length_copies
            (head_of m) ids,
      ))
      (ap length (cond-true s.have_output _ _ opened) ∙ length-drop n m.input
      ∙ ap (λ k. k - n) (length-merge_clusters_input s.idx (s.idx + n) s))
      refl refl refl refl refl (length (s.out ++ xs))

  put_moves : (xs : List hb_glyph_info_t) → length xs ≡ 1 → (put_out xs s s).done ≡ true
      → Moves 1 0 s (put_out xs s s).state
  put_moves xs one =
      done_moves 1 0 s (record s { out = s.out ++ xs }) (omega (arith, length-append s.out xs, one)) (omega arith)
      (omega arith) refl refl refl refl (length (s.out ++ xs))

  pub output_glyph_moves : (id : ℕ) → 1 ≤ length s.input → (output_glyph id s).done ≡ true
      → Moves 1 0 s (output_glyph id s).state
  output_glyph_moves id some =
      let one : length (glyph_to_copy s) ≡ 1 =
      cond_both (eqb (length s.input) 0) _ _ (λ (l : List hb_glyph_info_t). length l ≡ 1)
      (λ none. absurd (omega (arith, eqb-true (length s.input) 0 none))) (λ _. length-take-le 1 s.input some) in
      put_moves (map (with_id id) (glyph_to_copy s)) (length-map (glyph_to_copy s) (with_id id) ∙ one)

  pub output_info_moves : (g : hb_glyph_info_t) → (output_info g s).done ≡ true → Moves 1 0 s (output_info g s).state
  output_info_moves g = put_moves (g ∷ []) refl

  pub copy_glyph_moves : 1 ≤ length s.input → (copy_glyph s).done ≡ true → Moves 1 0 s (copy_glyph s).state
  copy_glyph_moves some = put_moves (take 1 s.input) (length-take-le 1 s.input some)

  pub delete_glyph_moves : Moves 0 1 s (delete_glyph s)
  delete_glyph_moves =
      moves 0 1 s (delete_glyph s) (omega (arith, length-delete_glyph_out s))
      (length-delete_glyph_input s) refl refl refl refl refl

  pub merge_clusters_moves : (start end : ℕ) → Moves 0 0 s (merge_clusters start end s)
  merge_clusters_moves start end =
      moves 0 0 s (merge_clusters start end s) (omega (arith, length-merge_clusters_out start end s))
      (omega (arith, length-merge_clusters_input start end s)) (omega arith) refl refl refl refl

  pub merge_out_clusters_moves : (start end : ℕ) → Moves 0 0 s (merge_out_clusters start end s)
  merge_out_clusters_moves start end =
      moves 0 0 s (merge_out_clusters start end s) (omega (arith, length-merge_out_clusters_out start end s))
      (omega (arith, length-merge_out_clusters_input start end s)) (omega arith) refl refl refl refl
