-- What calls keep of the numbers of clusters where glyphs change places.
use Rattle.std.proofs.Common.{◌≡◌, ℕ, ◌+◌, ◌<◌, Bool, true, List, [], ◌∷◌, ◌++◌, length, take, drop, refl, sym, ap}
use Rattle.std.proofs.Common.{◌∙◌, subst, arith, eqb, leb, cond, get_or, inl, inr, Result, Ok, Err, append_assoc}
use Rattle.std.proofs.lemmas.Bool.{cond_both, false≢true}
use Rattle.std.proofs.lemmas.List.{drop_all, take_all, append-nil, map-append, take-append-drop, get_or_default}
use Rattle.std.proofs.lemmas.List.Sorted.{list_any-IsPermutation, length_permutation, IsPermutation-append}
use Rattle.std.proofs.lemmas.List.Sorted.{IsPermutation-refl, IsPermutation-map}
use Rattle.std.specs.List.Sorted.{IsPermutation}
use Rattle.std.specs.declared.alloc.AllocError.{AllocError}
use Rattle.rb_glyph.specs.declared.info.hb_glyph_info_t.{hb_glyph_info_t}
use Rattle.glyph_lists.specs.Clusters.{clusters, occurs, zero_glyph}
use Rattle.glyph_lists.specs.KeptClusters.{BringsNoCluster}
use Rattle.glyph_lists.proofs.ClustersLemmas.{length-clusters}
use Rattle.glyph_laws.proofs.NumbersLemmas.{Stands, Stands-from_occurs, occurs-from_stands, stands_left, stands_right}
use Rattle.glyph_laws.proofs.ReadingsLemmas.{at}
use Rattle.shaping_buffer.specs.ClusterLevel.{allows_any_order}
use Rattle.shaping_buffer.specs.State.{State, place_of}
use Rattle.shaping_buffer.specs.ClusterStep.{both}
use Rattle.shaping_buffer.specs.KeepsClusters.{KeepsClusters}
use Rattle.shaping_buffer.specs.Lending.{with_input}
use Rattle.shaping_buffer.specs.Step.{Outcome, Meets, limited, next_glyphs, output_info}
use Rattle.shaping_buffer.proofs.LeastSteps.{least_stays, least_by, stands_split, stands_around}
use Rattle.shaping_buffer.proofs.ClosedKeepsLemmas.{keeps_sides}
use Rattle.shaping_buffer.proofs.KeepsLemmas.{keeps_then, keeps_none}
use Rattle.script_syllables.specs.KeepsNumbers.{KeepsNumbers, SameClusters}

pub numbers_of_keeps : (s t : State) → KeepsClusters s t → KeepsNumbers s t
numbers_of_keeps s t kept = record {
  level = kept.ordered.level;
  numbers = kept.ordered.numbers;
  least = kept.least;
}

pub numbers_none : (s : State) → KeepsNumbers s s
numbers_none s = record { level = refl; numbers = λ c on. on; least = λ any some. refl }

-- a glyph that is there was there, or one of its cluster
some_before : (l m : List hb_glyph_info_t) → BringsNoCluster l m → 0 < length m → 0 < length l
some_before l m back some =
    let c = (at m 0).cluster in
    let w = Stands-from_occurs c l (back c (occurs-from_stands c m (0, some, refl))) in
    omega (arith, w.1)

pub numbers_then : (s t u : State) → KeepsNumbers s t → KeepsNumbers t u → KeepsNumbers s u
numbers_then s t u a b = record {
  level = b.level ∙ a.level;
  numbers = λ c on. a.numbers c (b.numbers c on);
  least = λ any some.
      b.least (ap allows_any_order a.level ∙ any) some ∙ a.least any (some_before (both t) (both u) b.numbers some);
}

-- ---- the same clusters in another order

occurs-same : (c : ℕ) (xs ys : List hb_glyph_info_t) → SameClusters xs ys → occurs c (clusters xs) ≡ occurs c (clusters ys)
occurs-same c xs ys same = list_any-IsPermutation (λ d. eqb d c) (clusters xs) (clusters ys) same

-- numbers that stand on neither side alone
numbers_by : (s t : State) → t.cluster_level ≡ s.cluster_level → ((d : ℕ) → Stands d (both t) → Stands d (both s))
    → ((c : ℕ) → Stands c (both s) → Stands c (both t)) → KeepsNumbers s t
numbers_by s t level back on =
    let brings : BringsNoCluster (both s) (both t) = λ c here.
    occurs-from_stands c (both s) (back c (Stands-from_occurs c (both t) here)) in
    record {
      level = level;
      numbers = brings;
      least = λ any some.
          least_stays (both s) (both t) brings (λ c low. least_by c (both s) (both t) back (on c) low) some;
    }

pub numbers_alike : (s t : State) → t.cluster_level ≡ s.cluster_level → SameClusters (both s) (both t)
    → KeepsNumbers s t
numbers_alike s t level same =
    numbers_by s t level
    (λ d w. Stands-from_occurs d (both s)
    (occurs-same d (both s) (both t) same ∙ occurs-from_stands d (both t) w))
    (λ c w. Stands-from_occurs c (both t)
    (sym (occurs-same c (both s) (both t) same) ∙ occurs-from_stands c (both s) w))

-- what is written over a whole list
take-refilled : (xs ws : List hb_glyph_info_t) → length ws ≡ length xs
    → take (length xs) (ws ++ drop (length ws) xs) ≡ ws
take-refilled xs ws same =
    ap (λ (z : List hb_glyph_info_t). take (length xs) (ws ++ z)) (drop_all (length ws) xs (omega arith))
    ∙ ap (take (length xs)) (append-nil ws) ∙ take_all (length xs) ws (omega arith)

-- through the reference that a buffer hands out
pub numbers_with_input : (s : State) (gs now : List hb_glyph_info_t) → now ≡ s.input → SameClusters now gs
    → KeepsNumbers s (with_input s gs)
numbers_with_input s gs now was same =
    let here : SameClusters s.input gs = subst (λ l. SameClusters l gs) was same in
    let long : length gs ≡ length s.input =
    sym (length-clusters gs) ∙ length_permutation (clusters s.input) (clusters gs) here ∙ length-clusters s.input in
    let is : (with_input s gs).input ≡ gs = take-refilled s.input gs long in
    numbers_alike s (with_input s gs) refl
    (subst (λ l. SameClusters (both s) (s.out ++ l)) (sym is)
    (subst (λ cs. IsPermutation cs (clusters (s.out ++ gs))) (sym (map-append (λ g. g.cluster) s.out s.input))
    (subst (λ cs. IsPermutation (clusters s.out ++ clusters s.input) cs) (sym (map-append (λ g. g.cluster) s.out gs))
    (IsPermutation-append (clusters s.out) (clusters s.out) (clusters s.input) (clusters gs)
    (IsPermutation-refl (clusters s.out)) here))))

-- of items that change places
pub numbers_moved_input : (s : State) (gs now : List hb_glyph_info_t) → now ≡ s.input → IsPermutation now gs
    → KeepsNumbers s (with_input s gs)
numbers_moved_input s gs now was moved =
    numbers_with_input s gs now was (IsPermutation-map (λ g. g.cluster) now gs moved)

-- ---- a glyph that is put out in a cluster of those that are there

numbers_put : (g : hb_glyph_info_t) (t : State) → Stands g.cluster (both t)
    → KeepsNumbers t (record t { out = t.out ++ g ∷ [] })
numbers_put g t stood =
    numbers_by t (record t { out = t.out ++ g ∷ [] }) refl
    (λ d w. elim (stands_split d (t.out ++ g ∷ []) t.input w) [
      | inl v ↦ elim (stands_split d t.out (g ∷ []) v) [
        | inl x ↦ stands_left d t.out t.input x
        | inr x ↦
            let first : x.0 ≡ 0 = omega (arith, x.1) in
            subst (λ e. Stands e (both t)) (ap (λ i. (at (g ∷ []) i).cluster) (sym first) ∙ x.2) stood
      ]
      | inr v ↦ stands_right d t.out t.input v
    ])
    (λ c w. stands_around c t.out (g ∷ []) t.input w)

numbers_limited : (held : ℕ) (s new : State) → KeepsNumbers s new → KeepsNumbers s (limited held s new).state
numbers_limited held s new kept =
    cond_both (leb held s.max_len) _ _ (λ (o : Outcome). KeepsNumbers s o.state)
    (λ _. record { level = kept.level; numbers = kept.numbers; least = kept.least })
    (λ _. record { level = refl; numbers = λ c on. on; least = λ any some. refl })

numbers_answer : (o : Outcome) (s : State) → KeepsNumbers s o.state → (r : Result Bool AllocError) (t : State)
    → Meets o s r t → KeepsNumbers s t
numbers_answer o s kept (Ok done) t m = subst (KeepsNumbers s) (sym m.1) kept
numbers_answer o s kept (Err e) t m = subst (KeepsNumbers s) (sym m.2) (numbers_none s)

-- what is read is put out
cluster_level-next_glyphs : (n : ℕ) (s : State) → (next_glyphs n s).state.cluster_level ≡ s.cluster_level
cluster_level-next_glyphs n s =
    cond_both s.have_output _ _ (λ (o : Outcome). o.state.cluster_level ≡ s.cluster_level)
    (λ _. cond_both (leb (length (s.out ++ take n s.input)) s.max_len) _ _
    (λ (o : Outcome). o.state.cluster_level ≡ s.cluster_level) (λ _. refl) (λ _. refl))
    (λ _. refl)

both_next : (n : ℕ) (s : State) → s.have_output ≡ true → true ≡ (next_glyphs n s).done
    → both (next_glyphs n s).state ≡ both s
both_next n s opened =
    cond_both s.have_output _ _ (λ (o : Outcome). true ≡ o.done → both o.state ≡ both s)
    (λ e. cond_both (leb (length (s.out ++ take n s.input)) s.max_len) _ _
    (λ (o : Outcome). true ≡ o.done → both o.state ≡ both s)
    (λ _ done. ap (λ l. (s.out ++ take n s.input) ++ l) (ap (λ b. cond b (drop n s.input) s.input) e)
    ∙ append_assoc s.out (take n s.input) (drop n s.input)
    ∙ ap (λ l. s.out ++ l) (take-append-drop n s.input))
    (λ _ done. absurd (false≢true (sym done))))
    (λ e done. absurd (false≢true (sym e ∙ opened)))

pub numbers_put_behind : (n : ℕ) (g d : hb_glyph_info_t) (done : Bool) (s t u : State) (r : Result Bool AllocError)
    → s.have_output ≡ true → 0 < length s.input → d ≡ get_or s.input (place_of s 0) d → g.cluster ≡ d.cluster
    → Meets (next_glyphs n s) s (Ok done) t → done ≡ true → Meets (output_info g t) t r u → KeepsNumbers s u
numbers_put_behind n g d done s t u r opened some here is read good put =
    let same : both t ≡ both s = ap both read.1 ∙ both_next n s opened (sym good ∙ read.0) in
    let first : (at s.input 0).cluster ≡ g.cluster =
    ap (λ (h : hb_glyph_info_t). h.cluster)
    (get_or_default s.input 0 zero_glyph d some
    ∙ ap (λ b. get_or s.input (cond b 0 (s.idx + 0)) d) (sym opened) ∙ sym here)
    ∙ sym is in
    let stood : Stands g.cluster (both t) =
    subst (Stands g.cluster) (sym same) (stands_right g.cluster s.out s.input (0, some, first)) in
    numbers_then s t u
    (numbers_alike s t (ap (λ (x : State). x.cluster_level) read.1 ∙ cluster_level-next_glyphs n s)
    (subst (SameClusters (both s)) (sym same) (IsPermutation-refl (clusters (both s)))))
    (numbers_answer (output_info g t) t
    (numbers_limited (length (t.out ++ g ∷ [])) t (record t { out = t.out ++ g ∷ [] }) (numbers_put g t stood)) r u
    put)

-- what search closes by
pub ruleset numbered = (numbers_then, numbers_none, numbers_of_keeps, keeps_then, keeps_none, keeps_sides)
