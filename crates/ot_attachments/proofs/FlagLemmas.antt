-- Glyph flags change masks alone, and take no bit away: the calls of a buffer with no output open.
use Rattle.std.proofs.Common.{◌≡◌, ℕ, zero, suc, ◌-◌, ◌/◌, ◌≤◌, ◌++◌, Bool, true, false, List, [], ◌∷◌, length, map, take, drop, get_or, not, eqb}
use Rattle.std.proofs.Common.{bit_or, cond, refl, sym, subst, ap, ◌∙◌, arith}
use Rattle.std.specs.Prelude.{Some, ⊤}
use Rattle.std.specs.Int.{bit_at}
use Rattle.std.specs.List.{prefix_len, suffix_len}
use Rattle.std.proofs.lemmas.Bool.{cond_both}
use Rattle.std.proofs.lemmas.Nat.{or_shr}
use Rattle.std.proofs.lemmas.Nat.Bits.{bit_at-lt, bit_at-zero, bit_at_or, same_from_bits}
use Rattle.rb_glyph.specs.declared.info.hb_glyph_info_t.{hb_glyph_info_t}
use Rattle.rb_glyph.specs.declared.position.GlyphPosition.{GlyphPosition}
use Rattle.rb_glyph.specs.declared.glyph_flag.TheConstants.{UNSAFE_TO_CONCAT}
use Rattle.rb_glyph.specs.declared.flag_sets.TheConstants.BufferFlags.{PRODUCE_UNSAFE_TO_CONCAT}
use Rattle.glyph_lists.specs.declared.glyph_flags.TheConstants.{BREAK_BITS}
use Rattle.glyph_lists.specs.Clusters.{clusters, least}
use Rattle.glyph_lists.specs.Marks.{with_glyph_flags, mark, mark_others, mark_part, end_mark, ends}
use Rattle.glyph_lists.specs.Parts.{part, on_part, map_range, is_short}
use Rattle.glyph_lists.specs.Scans.{scan_of}
use Rattle.glyph_lists.proofs.PartsLemmas.{append-part}
use Rattle.shaping_buffer.specs.KeepsClusters.{KeepsClusters}
use Rattle.shaping_buffer.proofs.ClosedKeepsLemmas.{keeps_sides}
use Rattle.shaping_buffer.specs.State.{State}
use Rattle.shaping_buffer.specs.Lending.{with_positions}
use Rattle.shaping_buffer.specs.ClusterStep.{any_order, asks, both_place, range_end, unsafe_to_break, unsafe_to_concat, scan, flag_all, with_both}
use Rattle.ot_attachments.specs.Flags.{without_flags, untouched, KeepsBits}

-- ---- lists of which each glyph is another's, or that with more flags

abbrev Each : (hb_glyph_info_t → hb_glyph_info_t → Type 0) → List hb_glyph_info_t → List hb_glyph_info_t → Type 0
Each R [] [] = ⊤
Each R [] (y ∷ ys) = ⊥
Each R (x ∷ xs) [] = ⊥
Each R (x ∷ xs) (y ∷ ys) = R x y × Each R xs ys

module _ (R : hb_glyph_info_t → hb_glyph_info_t → Type 0) (same : (g : hb_glyph_info_t) → R g g) where
  each_same : (xs : List hb_glyph_info_t) → Each R xs xs
  each_same [] = tt
  each_same (x ∷ xs) = (same x, each_same xs)

  each_map : (f : hb_glyph_info_t → hb_glyph_info_t) → ((g : hb_glyph_info_t) → R g (f g)) → (xs : List hb_glyph_info_t)
      → Each R xs (map f xs)
  each_map f is [] = tt
  each_map f is (x ∷ xs) = (is x, each_map f is xs)

  each_append : (xs ys zs ws : List hb_glyph_info_t) → Each R xs ys → Each R zs ws → Each R (xs ++ zs) (ys ++ ws)
  each_append [] [] zs ws e f = f
  each_append [] (y ∷ ys) zs ws e f = absurd e
  each_append (x ∷ xs) [] zs ws e f = absurd e
  each_append (x ∷ xs) (y ∷ ys) zs ws e f = (e.0, each_append xs ys zs ws e.1 f)

  each_part : (l new : List hb_glyph_info_t) (p q : ℕ) → p ≤ q → Each R (part l p q) new
      → Each R l (take p l ++ new ++ drop q l)
  each_part l new p q up e =
      subst (λ xs. Each R xs (take p l ++ new ++ drop q l)) (append-part l p q up)
      (each_append (take p l ++ part l p q) (take p l ++ new) (drop q l) (drop q l)
      (each_append (take p l) (take p l) (part l p q) new (each_same (take p l)) e) (each_same (drop q l)))

  module _ (bits : ℕ) (flags : (g : hb_glyph_info_t) → R g (with_glyph_flags bits g)) where
    each_marked : (xs : List hb_glyph_info_t) → Each R xs (map (with_glyph_flags bits) xs)
    each_marked xs = each_map (with_glyph_flags bits) flags xs

    each_mark_others : (m : ℕ) (r : List hb_glyph_info_t) → Each R r (mark_others bits m r)
    each_mark_others m r =
        each_map (λ g. cond (eqb g.cluster m) g (with_glyph_flags bits g))
        (λ g. cond_both (eqb g.cluster m) g (with_glyph_flags bits g) (R g) (λ _. same g) (λ _. flags g)) r

    each_range : (r : List hb_glyph_info_t) (p q : ℕ) → p ≤ q → Each R r (map_range (with_glyph_flags bits) r p q)
    each_range r p q up = each_part r (map (with_glyph_flags bits) (part r p q)) p q up (each_marked (part r p q))

    each_mark_part : (m : ℕ) (r : List hb_glyph_info_t) → Each R r (mark_part bits m r)
    unfolding mark_part
    each_mark_part m r =
        let cs = clusters r in
        let p : ℕ → Bool = λ c. not (eqb c m) in
        cond_both (eqb (get_or cs 0 0) m) _ _ (Each R r)
        (λ _. each_range r (length r - suffix_len p cs) (length r) (omega arith))
        (λ _. cond_both (eqb (get_or cs (length r - 1) 0) m) _ _ (Each R r)
        (λ _. each_range r 0 (prefix_len p cs) (omega arith)) (λ _. each_mark_others m r))

    each_scan_of : (any : Bool) (r : List hb_glyph_info_t) → Each R r (scan_of any bits r)
    unfolding scan_of mark end_mark
    each_scan_of true r = each_mark_others (least (clusters r)) r
    each_scan_of false r = each_mark_part (least (ends (clusters r))) r

    each_scan : (any : Bool) (l : List hb_glyph_info_t) (p q : ℕ) → p ≤ q → Each R l (on_part (scan_of any bits) l p q)
    each_scan any l p q up = each_part l (scan_of any bits (part l p q)) p q up (each_scan_of any (part l p q))

-- ---- what flags leave as it is

abbrev AreAlike : hb_glyph_info_t → hb_glyph_info_t → Type 0
AreAlike x y = without_flags y ≡ without_flags x

abbrev Keeps : hb_glyph_info_t → hb_glyph_info_t → Type 0
Keeps x y = (bit : ℕ) → bit_at x.mask bit ≡ 1 → bit_at y.mask bit ≡ 1

bit_or_none : (m : ℕ) → bit_or m 0 ≡ m
bit_or_none m = same_from_bits (bit_or m 0) m (λ i. omega (arith, bit_at_or m 0 i, bit_at-zero i))

alike : (bits : ℕ) → bits / 4 ≡ 0 → (g : hb_glyph_info_t) → AreAlike g (with_glyph_flags bits g)
unfolding without_flags with_glyph_flags
alike bits low g = ap (λ m. record g { mask = m }) (or_shr g.mask bits 2 ∙ ap (bit_or (g.mask / 4)) low ∙ bit_or_none (g.mask / 4))

keeping : (bits : ℕ) (g : hb_glyph_info_t) → Keeps g (with_glyph_flags bits g)
unfolding with_glyph_flags
keeping bits g bit has = omega (arith, bit_at_or g.mask bits bit, bit_at-lt bits bit)

map-alike : (xs ys : List hb_glyph_info_t) → Each AreAlike xs ys → map without_flags ys ≡ map without_flags xs
map-alike [] [] e = refl
map-alike [] (y ∷ ys) e = absurd e
map-alike (x ∷ xs) [] e = absurd e
map-alike (x ∷ xs) (y ∷ ys) e =
    ap (λ g. g ∷ map without_flags ys) e.0 ∙ ap (λ l. without_flags x ∷ l) (map-alike xs ys e.1)

keeps_at : (xs ys : List hb_glyph_info_t) → Each Keeps xs ys → KeepsBits xs ys
keeps_at [] [] e k bit has = has
keeps_at [] (y ∷ ys) e k bit has = absurd e
keeps_at (x ∷ xs) [] e k bit has = absurd e
keeps_at (x ∷ xs) (y ∷ ys) e zero bit has = e.0 bit has
keeps_at (x ∷ xs) (y ∷ ys) e (suc k) bit has = keeps_at xs ys e.1 k bit has

-- ---- calls

-- what a call does to the list, with no output open
in_list : (s : State) (f : List hb_glyph_info_t → List hb_glyph_info_t) (P : List hb_glyph_info_t → Type 0) → s.out ≡ []
    → P (f s.input) → P (drop (length s.out) (f (s.out ++ s.input)))
in_list s f P none is = subst (λ (o : List hb_glyph_info_t). P (drop (length o) (f (o ++ s.input)))) (sym none) is

untouched-both : (s : State) (l : List hb_glyph_info_t) → s.out ≡ []
    → map without_flags (drop (length s.out) l) ≡ map without_flags s.input → untouched (with_both l s) ≡ untouched s
unfolding untouched
untouched-both s l none same =
    let nothing : take (length s.out) l ≡ s.out =
    subst (λ (o : List hb_glyph_info_t). take (length o) l ≡ o) (sym none) refl in
    ap (λ (o : List hb_glyph_info_t). record (untouched s) { out = o; input = map without_flags (drop (length s.out) l) }) nothing
    ∙ ap (λ (i : List hb_glyph_info_t). record (untouched s) { input = i }) same

untouched-scan : (s : State) (any : Bool) (bits p q : ℕ) → bits / 4 ≡ 0 → s.out ≡ [] → p ≤ q
    → untouched (scan any bits p q s) ≡ untouched s
unfolding untouched
untouched-scan s any bits p q low none up =
    untouched-both s (on_part (scan_of any bits) (s.out ++ s.input) p q) none
    (in_list s (λ l. on_part (scan_of any bits) l p q) (λ l. map without_flags l ≡ map without_flags s.input) none
    (map-alike s.input _ (each_scan AreAlike (λ g. refl) bits (alike bits low) any s.input p q up)))

untouched-flag_all : (s : State) (bits p q : ℕ) → bits / 4 ≡ 0 → s.out ≡ [] → p ≤ q
    → untouched (flag_all bits p q s) ≡ untouched s
unfolding untouched
untouched-flag_all s bits p q low none up =
    untouched-both s (map_range (with_glyph_flags bits) (s.out ++ s.input) p q) none
    (in_list s (λ l. map_range (with_glyph_flags bits) l p q) (λ l. map without_flags l ≡ map without_flags s.input) none
    (map-alike s.input _ (each_range AreAlike (λ g. refl) bits (alike bits low) s.input p q up)))

keeps-scan : (s : State) (any : Bool) (bits p q : ℕ) → s.out ≡ [] → p ≤ q → KeepsBits s.input (scan any bits p q s).input
keeps-scan s any bits p q none up =
    in_list s (λ l. on_part (scan_of any bits) l p q) (KeepsBits s.input) none
    (keeps_at s.input _ (each_scan Keeps (λ g bit has. has) bits (keeping bits) any s.input p q up))

keeps-flag_all : (s : State) (bits p q : ℕ) → s.out ≡ [] → p ≤ q → KeepsBits s.input (flag_all bits p q s).input
keeps-flag_all s bits p q none up =
    in_list s (λ l. map_range (with_glyph_flags bits) l p q) (KeepsBits s.input) none
    (keeps_at s.input _ (each_range Keeps (λ g bit has. has) bits (keeping bits) s.input p q up))

pub untouched_unsafe_to_break : (start end : ℕ) (s : State) → s.out ≡ [] → start ≤ range_end (Some end) s
    → untouched (unsafe_to_break (Some start) (Some end) s) ≡ untouched s
untouched_unsafe_to_break start end s none up =
    cond_both (is_short start (range_end (Some end) s)) s
    (scan (any_order s) BREAK_BITS (both_place s start) (both_place s (range_end (Some end) s)) s)
    (λ (t : State). untouched t ≡ untouched s) (λ _. refl)
    (λ _. untouched-scan s (any_order s) BREAK_BITS (both_place s start) (both_place s (range_end (Some end) s)) refl none
    (omega arith))

pub untouched_unsafe_to_concat : (start end : ℕ) (s : State) → s.out ≡ [] → start ≤ range_end (Some end) s
    → untouched (unsafe_to_concat (Some start) (Some end) s) ≡ untouched s
untouched_unsafe_to_concat start end s none up =
    cond_both (asks PRODUCE_UNSAFE_TO_CONCAT s)
    (flag_all UNSAFE_TO_CONCAT (both_place s start) (both_place s (range_end (Some end) s)) s) s
    (λ (t : State). untouched t ≡ untouched s)
    (λ _. untouched-flag_all s UNSAFE_TO_CONCAT (both_place s start) (both_place s (range_end (Some end) s)) refl none
    (omega arith))
    (λ _. refl)

pub unsafe_to_break_keeps : (start end : ℕ) (s : State) → s.out ≡ [] → start ≤ range_end (Some end) s
    → KeepsBits s.input (unsafe_to_break (Some start) (Some end) s).input
unsafe_to_break_keeps start end s none up =
    cond_both (is_short start (range_end (Some end) s)) s
    (scan (any_order s) BREAK_BITS (both_place s start) (both_place s (range_end (Some end) s)) s)
    (λ (t : State). KeepsBits s.input t.input) (λ _ k bit has. has)
    (λ _. keeps-scan s (any_order s) BREAK_BITS (both_place s start) (both_place s (range_end (Some end) s)) none
    (omega arith))

pub unsafe_to_concat_keeps : (start end : ℕ) (s : State) → s.out ≡ [] → start ≤ range_end (Some end) s
    → KeepsBits s.input (unsafe_to_concat (Some start) (Some end) s).input
unsafe_to_concat_keeps start end s none up =
    cond_both (asks PRODUCE_UNSAFE_TO_CONCAT s)
    (flag_all UNSAFE_TO_CONCAT (both_place s start) (both_place s (range_end (Some end) s)) s) s
    (λ (t : State). KeepsBits s.input t.input)
    (λ _. keeps-flag_all s UNSAFE_TO_CONCAT (both_place s start) (both_place s (range_end (Some end) s)) none (omega arith))
    (λ _ k bit has. has)

-- positions that are written
pub untouched_with_positions : (s : State) (ps : List GlyphPosition) → untouched (with_positions s ps) ≡ untouched s
unfolding untouched
untouched_with_positions s ps = refl

clusters_bare : (l : List hb_glyph_info_t) → clusters (map without_flags l) ≡ clusters l
unfolding without_flags
clusters_bare [] = refl
clusters_bare (g ∷ l) = ap (λ cs. g.cluster ∷ cs) (clusters_bare l)

-- what leaves all else as it is keeps the clusters
pub keeps_untouched : (s t : State) → untouched t ≡ untouched s → KeepsClusters s t
unfolding untouched
keeps_untouched s t same =
    keeps_sides s t (ap (λ (u : State). u.cluster_level) same) (ap (λ (u : State). clusters u.out) same)
    (sym (clusters_bare t.input) ∙ ap (λ (u : State). clusters u.input) same ∙ clusters_bare s.input)

-- with no output open as well
pub keeps_by : (s t : State) → s.out ≡ [] → t.out ≡ [] → untouched t ≡ untouched s → KeepsClusters s t
keeps_by s t old new same = keeps_untouched s t same
