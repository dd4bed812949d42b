-- Glyphs whose clusters are put in order: each is in the least cluster from its place on.
use Rattle.std.proofs.Common.{◌≡◌, ℕ, zero, suc, ◌+◌, ◌-◌, ◌<◌, ◌≤◌, min, true, List, [], ◌∷◌, ◌++◌, length, get_or}
use Rattle.std.proofs.Common.{take, drop, set, refl, sym, ap, ◌∙◌, subst, arith, length-take, length-drop}
use Rattle.std.proofs.lemmas.Bool.{eq-eqb, cond-true}
use Rattle.std.proofs.lemmas.List.{take-set-le, take-take, get_or-take, drop-set, drop_all, take_all, append-nil}
use Rattle.std.proofs.Math.Seq.{drop-cons}
use Rattle.rb_glyph.specs.declared.info.hb_glyph_info_t.{hb_glyph_info_t}
use Rattle.glyph_lists.specs.Clusters.{NeverFalls, clusters, least, occurs, with_cluster, zero_glyph}
use Rattle.glyph_lists.proofs.ClustersLemmas.{least-stands, least_is, occurs_at, occurs_place, length-clusters}
use Rattle.glyph_lists.proofs.MergesLemmas.{cluster-with_cluster}
use Rattle.glyph_laws.proofs.ReadingsLemmas.{at}
use Rattle.shaping_buffer.specs.State.{State}
use Rattle.shaping_buffer.specs.Lending.{with_input}
use Rattle.shaping_buffer.specs.ClusterStep.{both}
use Rattle.script_syllables.specs.KeepsNumbers.{KeepsNumbers}
use Rattle.ot_apply.specs.ClusterOrder.{least_from, in_front_of, rising}

-- ---- the least numbers from each place on

pub length-least_from : (cs : List ℕ) → length (least_from cs) ≡ length cs
unfolding least_from
length-least_from [] = refl
length-least_from (c ∷ cs) = ap suc (length-least_from cs)

-- the first of them is the least of all
get_or-least_from : (cs : List ℕ) → 0 < length cs → get_or (least_from cs) 0 0 ≡ least cs
unfolding least_from
get_or-least_from [] some = absurd (omega arith)
get_or-least_from (c ∷ cs) some = refl

least-cons : (c : ℕ) (cs : List ℕ) → 0 < length cs → least (c ∷ cs) ≡ min c (least cs)
unfolding least
least-cons c [] some = absurd (omega arith)
least-cons c (d ∷ cs) some = refl

pub never_falls-least_from : (cs : List ℕ) → NeverFalls (least_from cs)
unfolding least_from
never_falls-least_from [] i j le in_cs = absurd (omega arith)
never_falls-least_from (c ∷ cs) zero zero le in_cs = omega arith
never_falls-least_from (c ∷ cs) zero (suc j) le in_cs =
    let n = length-least_from cs in
    let some : 0 < length cs = omega arith in
    omega (
      arith,
      never_falls-least_from cs 0 j (omega arith) (omega arith),
      get_or-least_from cs some,
      least-cons c cs some,
    )
never_falls-least_from (c ∷ cs) (suc i) zero le in_cs = absurd (omega arith)
never_falls-least_from (c ∷ cs) (suc i) (suc j) le in_cs = never_falls-least_from cs i j (omega arith) (omega arith)

stands-least_from : (cs : List ℕ) (k : ℕ) → k < length (least_from cs)
    → (j : ℕ) × (j < length cs) × (get_or cs j 0 ≡ get_or (least_from cs) k 0)
unfolding least_from
stands-least_from [] k in_cs = absurd (omega arith)
stands-least_from (c ∷ cs) zero in_cs = least-stands (c ∷ cs) (omega arith)
stands-least_from (c ∷ cs) (suc k) in_cs =
    let w = stands-least_from cs k (omega arith) in
    (suc w.0, omega (arith, w.1), w.2)

pub occurs-least_from : (c : ℕ) (cs : List ℕ) → occurs c (least_from cs) ≡ true → occurs c cs ≡ true
occurs-least_from c cs on =
    let w = occurs_place c (least_from cs) on in
    let v = stands-least_from cs w.0 w.1 in
    occurs_at c cs v.0 v.1 (v.2 ∙ w.2)

pub least-least_from : (cs : List ℕ) → least (least_from cs) ≡ least cs
unfolding least_from
least-least_from [] = refl
least-least_from (c ∷ cs) =
    let n = length-least_from (c ∷ cs) in
    let head = get_or-least_from (c ∷ cs) (omega arith) in
    least_is (least_from (c ∷ cs)) 0 (least (c ∷ cs)) (omega arith) head
    (λ j in_cs. omega (arith, never_falls-least_from (c ∷ cs) 0 j (omega arith) in_cs, head))

-- ---- the glyphs

cluster-in_front_of : (g : hb_glyph_info_t) (l : List hb_glyph_info_t) → clusters (rising l) ≡ least_from (clusters l)
    → (in_front_of (rising l) g).cluster ≡ least (clusters (g ∷ l))
unfolding rising least least_from
cluster-in_front_of g [] same = refl
cluster-in_front_of g (h ∷ l) same =
    cluster-with_cluster _ _ g ∙ ap (λ cs. min g.cluster (get_or cs 0 0)) same

pub clusters-rising : (l : List hb_glyph_info_t) → clusters (rising l) ≡ least_from (clusters l)
unfolding rising least_from
clusters-rising [] = refl
clusters-rising (g ∷ l) =
    ap (λ c. c ∷ clusters (rising l)) (cluster-in_front_of g l (clusters-rising l))
    ∙ ap (λ cs. least (clusters (g ∷ l)) ∷ cs) (clusters-rising l)

-- glyphs whose clusters never fall stay
in_front_of-stays : (g : hb_glyph_info_t) (l : List hb_glyph_info_t) → NeverFalls (clusters (g ∷ l))
    → in_front_of l g ≡ g
unfolding with_cluster
in_front_of-stays g [] up = refl
in_front_of-stays g (h ∷ l) up =
    let le : g.cluster ≤ h.cluster = up 0 1 (omega arith) (omega arith) in
    let e : g.cluster ≡ min g.cluster h.cluster = omega (arith, le) in
    cond-true _ _ _ (eq-eqb _ _ e)

pub length-rising : (l : List hb_glyph_info_t) → length (rising l) ≡ length l
length-rising l =
    sym (length-clusters (rising l)) ∙ ap length (clusters-rising l) ∙ length-least_from (clusters l) ∙ length-clusters l

pub rising_stays : (l : List hb_glyph_info_t) → NeverFalls (clusters l) → rising l ≡ l
unfolding rising
rising_stays [] up = refl
rising_stays (g ∷ l) up =
    let rest : rising l ≡ l = rising_stays l (λ i j le in_l. up (suc i) (suc j) (omega arith) (omega arith)) in
    ap (λ m. in_front_of m g ∷ m) rest ∙ ap (λ h. h ∷ l) (in_front_of-stays g l up)

-- ---- the walk from the last glyph to the first

-- from place k on the glyphs are put in order, and those before are as they were
pub record IsRaisedFrom (k : ℕ) (old now : List hb_glyph_info_t) : Type 0 where
  pub front : take k now ≡ take k old
  pub behind : drop k now ≡ rising (drop k old)

rising-short : (l : List hb_glyph_info_t) → length l ≤ 1 → rising l ≡ l
unfolding rising
rising-short [] few = refl
rising-short (g ∷ []) few = refl
rising-short (g ∷ h ∷ l) few = absurd (omega arith)

pub raised_none : (l : List hb_glyph_info_t) → IsRaisedFrom (length l - 1) l l
raised_none l = record {
  front = refl;
  behind = sym (rising-short (drop (length l - 1) l) (omega (arith, length-drop (length l - 1) l)));
}

pub raised_all : (k : ℕ) (old now : List hb_glyph_info_t) → k ≤ 0 → IsRaisedFrom k old now → now ≡ rising old
raised_all zero old now none r = r.behind
raised_all (suc k) old now none r = absurd (omega arith)

rising-cons : (g : hb_glyph_info_t) (l : List hb_glyph_info_t) → rising (g ∷ l) ≡ in_front_of (rising l) g ∷ rising l
unfolding rising
rising-cons g l = refl

-- the glyph before them is put in front of them
module _ (p k : ℕ) (old now : List hb_glyph_info_t) (next : k + 1 ≡ p) (in_now : p < length now)
    (r : IsRaisedFrom p old now) where
  abbrev pub raised : hb_glyph_info_t
  raised = with_cluster (min (at now k).cluster (at now p).cluster) (at now p).mask (at now k)

  in_old : k < length old
  in_old = omega (arith, ap length r.front, length-take p now, length-take p old)

  same : at old k ≡ at now k
  same =
      sym (get_or-take p old k zero_glyph (omega arith)) ∙ ap (λ l. at l k) (sym r.front)
      ∙ get_or-take p now k zero_glyph (omega arith)

  next2 : suc k ≡ p
  next2 = omega (arith, next)

  pub raised_more : IsRaisedFrom k old (set now k raised)
  raised_more = record {
    front = take-set-le k now k raised (omega arith) ∙ sym (take-take k p now (omega arith)) ∙ ap (take k) r.front
        ∙ take-take k p old (omega arith);
    behind = drop-set now k raised (omega arith)
        ∙ ap (λ i. raised ∷ drop i now) next
        ∙ ap (λ l. in_front_of l (at now k) ∷ drop p now) (sym (drop-cons now p zero_glyph in_now))
        ∙ ap (λ l. in_front_of l (at now k) ∷ l) r.behind
        ∙ ap (λ g. in_front_of (rising (drop p old)) g ∷ rising (drop p old)) (sym same)
        ∙ sym (rising-cons (at old k) (drop p old))
        ∙ ap (λ i. rising (at old k ∷ drop i old)) (sym next2)
        ∙ ap rising (sym (drop-cons old k zero_glyph in_old));
  }

-- ---- in a buffer

input_whole : (s : State) (ws : List hb_glyph_info_t) → length ws ≡ length s.input → (with_input s ws).input ≡ ws
input_whole s ws same =
    ap (λ (z : List hb_glyph_info_t). take (length s.input) (ws ++ z)) (drop_all (length ws) s.input (omega arith))
    ∙ ap (take (length s.input)) (append-nil ws) ∙ take_all (length s.input) ws (omega arith)

-- over a whole list
module _ (s : State) (gs now : List hb_glyph_info_t) (was : now ≡ s.input)
    (is : clusters gs ≡ least_from (clusters now)) where
  written : clusters (with_input s gs).input ≡ least_from (clusters s.input)
  written =
      let same : clusters gs ≡ least_from (clusters s.input) = is ∙ ap (λ l. least_from (clusters l)) was in
      let n : length gs ≡ length s.input =
      sym (length-clusters gs) ∙ ap length same ∙ length-least_from (clusters s.input) ∙ length-clusters s.input in
      ap clusters (input_whole s gs n) ∙ same

  module _ (none : s.out ≡ []) where
    here : clusters (both s) ≡ clusters s.input
    here = ap (λ l. clusters (l ++ s.input)) none

    there : clusters (both (with_input s gs)) ≡ least_from (clusters s.input)
    there = ap (λ l. clusters (l ++ (with_input s gs).input)) none ∙ written

    pub rises_written : NeverFalls (clusters (both (with_input s gs)))
    rises_written = subst NeverFalls (sym there) (never_falls-least_from (clusters s.input))

    pub numbers_written : KeepsNumbers s (with_input s gs)
    numbers_written = record {
      level = refl;
      numbers = λ c on. subst (λ cs. occurs c cs ≡ true) (sym here)
          (occurs-least_from c (clusters s.input) (subst (λ cs. occurs c cs ≡ true) there on));
      least = λ any some. ap least there ∙ least-least_from (clusters s.input) ∙ sym (ap least here);
    }
