-- A scan of two parts, from what is scanned on either side.
use Rattle.std.proofs.Common.{◌≡◌, ℕ, ◌+◌, ◌-◌, ◌≤◌, inl, inr, Bool, true, false, List, [], ◌++◌, ap, sym, refl, ◌∙◌}
use Rattle.std.proofs.Common.{take, drop, length, length-append, length-drop, length-take, min, not, arith, eqb}
use Rattle.std.proofs.Common.{append_assoc}
use Rattle.std.specs.List.{prefix_len, suffix_len}
use Rattle.std.proofs.lemmas.Bool.{cond_both, cases_lt}
use Rattle.std.proofs.lemmas.List.{append-nil, drop-drop, length-map, drop_all, take_all, take_rest, take_at, drop_at}
use Rattle.std.proofs.lemmas.List.{take-append-le, drop-append-le}
use Rattle.std.proofs.Math.Seq.{take-append-add, drop-append-add}
use Rattle.std.specs.Prelude.{slice_index}
use borrow.Rule.Slice.PartMut.{put_mid}
use Rattle.rb_glyph.specs.declared.info.hb_glyph_info_t.{hb_glyph_info_t}
use Rattle.glyph_lists.specs.Parts.{part, on_part}
use Rattle.glyph_lists.specs.Clusters.{clusters, least}
use Rattle.glyph_lists.specs.Marks.{with_glyph_flags, mark, mark_part, end_mark, ends, ends_least}
use Rattle.glyph_lists.specs.Scans.{scan_of, scan_least, part_scan, two_part_scan}
use Rattle.glyph_lists.proofs.PartsLemmas.{length-map_range}
use Rattle.glyph_lists.proofs.ScanEndsLemmas.{mark_part-nothing}
use Rattle.glyph_lists.proofs.SidesLemmas.{on_part-past, cut_out, cut_input}

-- ---- one part

-- the scan of no glyph
pub part_scan-none : (any_order : Bool) (bits m : ℕ) → part_scan any_order bits m [] ≡ []
part_scan-none true bits m = refl
part_scan-none false bits m = mark_part-nothing bits m [] refl

length-mark_part : (bits m : ℕ) (r : List hb_glyph_info_t) → length (mark_part bits m r) ≡ length r
unfolding mark_part
length-mark_part bits m r =
    let cs = clusters r in
    let p : ℕ → Bool = λ c. not (eqb c m) in
    let Q : List hb_glyph_info_t → Type 0 = λ x. length x ≡ length r in
    cond_both (eqb (slice_index cs 0) m) _ _ Q
    (λ _. length-map_range (with_glyph_flags bits) r (length r - suffix_len p cs) (length r) (omega arith))
    (λ _. cond_both (eqb (slice_index cs (length r - 1)) m) _ _ Q
    (λ _. length-map_range (with_glyph_flags bits) r 0 (prefix_len p cs) (omega arith))
    (λ _. length-map r _))

pub length-part_scan : (any_order : Bool) (bits m : ℕ) (r : List hb_glyph_info_t)
    → length (part_scan any_order bits m r) ≡ length r
length-part_scan true bits m r = length-map r _
length-part_scan false bits m r = length-mark_part bits m r

-- where the first part is empty, it is the scan of one
pub two_part_scan-none : (any_order : Bool) (bits : ℕ) (r : List hb_glyph_info_t)
    → two_part_scan any_order bits 0 r ≡ scan_of any_order bits r
unfolding scan_of two_part_scan mark end_mark ends_least least ends
two_part_scan-none true bits r = refl
two_part_scan-none false bits r = ap (λ xs. xs ++ mark_part bits (least (ends (clusters r))) r)
    (mark_part-nothing bits (least (ends (clusters r))) [] refl)

-- ---- the end of a list

-- what stands from place p on, in words of a slice that begins at the end where p is past it
module _ {X : Type 0} (xs : List X) (p : ℕ) where
  abbrev start : ℕ
  start = min p (length xs)

  pub slice_end : part xs start (length xs) ≡ drop p xs
  slice_end = take_rest xs start ∙ elim (cases_lt p (length xs)) [
    | inl lt ↦ let e : start ≡ p = omega arith in ap (λ k. drop k xs) e
    | inr ge ↦ drop_all start xs (omega arith) ∙ sym (drop_all p xs ge)
  ]

  before_slice : take start xs ≡ take p xs
  before_slice = elim (cases_lt p (length xs)) [
    | inl lt ↦ let e : start ≡ p = omega arith in ap (λ k. take k xs) e
    | inr ge ↦ take_all start xs (omega arith) ∙ sym (take_all p xs ge)
  ]

  pub on_slice_end : (g : List X → List X) → on_part g xs start (length xs) ≡ take p xs ++ g (drop p xs)
  on_slice_end g =
      ap (λ ys. take start xs ++ g (part xs start (length xs)) ++ ys) (drop_all (length xs) xs (omega arith))
      ∙ append-nil (take start xs ++ g (part xs start (length xs)))
      ∙ ap (λ ys. take start xs ++ g ys) slice_end
      ∙ ap (λ ys. ys ++ g (drop p xs)) before_slice

-- a slice that was written
put_mid-part : {X : Type 0} (g : List X → List X) (xs : List X) (a b : ℕ) → a ≤ b
    → put_mid a (b - a) xs (g (part xs a b)) ≡ on_part g xs a b
put_mid-part g xs a b up =
    let e : a + (b - a) ≡ b = omega arith in
    sym (append_assoc (take a xs) (g (part xs a b)) (drop (b - a) (drop a xs)))
    ∙ ap (λ ys. take a xs ++ g (part xs a b) ++ ys) (drop-drop (b - a) a xs ∙ ap (λ k. drop k xs) e)

-- ---- two parts

module _ (any_order : Bool) (bits : ℕ) where
  -- part by part, by the least cluster of both
  by_parts : (a b : List hb_glyph_info_t) (k : ℕ) → length a ≡ k
      → two_part_scan any_order bits k (a ++ b) ≡ part_scan any_order bits (scan_least any_order a b) a
      ++ part_scan any_order bits (scan_least any_order a b) b
  unfolding two_part_scan
  by_parts a b k e =
      let F : List hb_glyph_info_t → List hb_glyph_info_t → List hb_glyph_info_t =
      λ xs ys. part_scan any_order bits (scan_least any_order xs ys) xs
      ++ part_scan any_order bits (scan_least any_order xs ys) ys in
      ap (λ xs. F xs (drop k (a ++ b))) (take_at a b k e) ∙ ap (F a) (drop_at a b k e)

  module _ (out rest : List hb_glyph_info_t) (p q : ℕ) (past : length out ≤ q) (up : p ≤ q) where
    -- what of the range lies on either side, and what is made of a part
    abbrev in_out : List hb_glyph_info_t
    in_out = drop p out

    abbrev in_rest : List hb_glyph_info_t
    in_rest = part rest (p - length out) (q - length out)

    abbrev scanned_part : List hb_glyph_info_t → List hb_glyph_info_t
    scanned_part = part_scan any_order bits (scan_least any_order in_out in_rest)

    from_out : p ≤ length out → on_part (two_part_scan any_order bits (length out - p)) (out ++ rest) p q
        ≡ (take p out ++ scanned_part in_out) ++ on_part scanned_part rest (p - length out) (q - length out)
    from_out h =
        let z : p - length out ≡ 0 = omega arith in
        let w : q - length out - (p - length out) ≡ q - length out = omega arith in
        let n : length in_out ≡ length out - p = length-drop p out in
        let e : length in_out + (q - length out) ≡ q - p = omega arith in
        let e2 : length out + (q - length out) ≡ q = omega arith in
        let whole : take (q - length out) rest ≡ in_rest =
        ap (λ k. take k rest) (sym w) ∙ ap (λ k. take (q - length out - (p - length out)) (drop k rest)) (sym z) in
        let is : part (out ++ rest) p q ≡ in_out ++ in_rest =
        ap (take (q - p)) (drop-append-le p out rest h) ∙ ap (λ k. take k (in_out ++ rest)) (sym e)
        ∙ take-append-add in_out rest (q - length out) ∙ ap (λ xs. in_out ++ xs) whole in
        let behind : drop q (out ++ rest) ≡ drop (q - length out) rest =
        ap (λ k. drop k (out ++ rest)) (sym e2) ∙ drop-append-add out rest (q - length out) in
        ap (λ xs. xs ++ two_part_scan any_order bits (length out - p) (part (out ++ rest) p q) ++ drop q (out ++ rest))
        (take-append-le p out rest h)
        ∙ ap (λ xs. take p out ++ two_part_scan any_order bits (length out - p) xs ++ drop q (out ++ rest)) is
        ∙ ap (λ xs. take p out ++ xs ++ drop q (out ++ rest)) (by_parts in_out in_rest (length out - p) n)
        ∙ ap (λ xs. take p out ++ (scanned_part in_out ++ scanned_part in_rest) ++ xs) behind
        ∙ ap (λ xs. xs ++ drop (q - length out) rest)
        (sym (append_assoc (take p out) (scanned_part in_out) (scanned_part in_rest)))
        ∙ append_assoc (take p out ++ scanned_part in_out) (scanned_part in_rest) (drop (q - length out) rest)
        ∙ ap (λ xs. (take p out ++ scanned_part in_out) ++ (xs ++ scanned_part in_rest ++ drop (q - length out) rest))
        (sym (ap (λ k. take k rest) z))

    from_rest : length out ≤ p → on_part (two_part_scan any_order bits (length out - p)) (out ++ rest) p q
        ≡ (take p out ++ scanned_part in_out) ++ on_part scanned_part rest (p - length out) (q - length out)
    from_rest h =
        let z : length out - p ≡ 0 = omega arith in
        let a = p - length out in
        let b = q - length out in
        let G : List hb_glyph_info_t → List hb_glyph_info_t → List hb_glyph_info_t =
        λ xs. part_scan any_order bits (scan_least any_order xs in_rest) in
        on_part-past (two_part_scan any_order bits (length out - p)) out rest p q h up
        ∙ ap (λ k. out ++ on_part (two_part_scan any_order bits k) rest a b) z
        ∙ ap (λ xs. out ++ (take a rest ++ xs ++ drop b rest))
        (by_parts [] in_rest 0 refl ∙ ap (λ xs. xs ++ G [] in_rest)
        (part_scan-none any_order bits (scan_least any_order [] in_rest)))
        ∙ ap (λ xs. xs ++ on_part (G []) rest a b)
        (sym (ap (λ xs. out ++ xs) (part_scan-none any_order bits (scan_least any_order [] in_rest))
        ∙ append-nil out))
        ∙ ap (λ xs. (xs ++ G [] []) ++ on_part (G []) rest a b) (sym (take_all p out h))
        ∙ ap (λ xs. (take p out ++ G xs xs) ++ on_part (G xs) rest a b) (sym (drop_all p out h))

    two_sides : on_part (two_part_scan any_order bits (length out - p)) (out ++ rest) p q
        ≡ (take p out ++ scanned_part in_out) ++ on_part scanned_part rest (p - length out) (q - length out)
    two_sides = elim (cases_lt p (length out)) [
      | inl lt ↦ from_out (omega arith)
      | inr ge ↦ from_rest ge
    ]

    as_long : length (take p out ++ scanned_part in_out) ≡ length out
    as_long =
        let n = length-part_scan any_order bits (scan_least any_order in_out in_rest) in_out in
        omega (arith, length-append (take p out) (scanned_part in_out), length-take p out, length-drop p out)

    scanned_out : take p out ++ scanned_part in_out
        ≡ take (length out) (on_part (two_part_scan any_order bits (length out - p)) (out ++ rest) p q)
    scanned_out = cut_out out (take p out ++ scanned_part in_out)
        (on_part scanned_part rest (p - length out) (q - length out)) _ as_long two_sides

    scanned_input : on_part scanned_part rest (p - length out) (q - length out)
        ≡ drop (length out) (on_part (two_part_scan any_order bits (length out - p)) (out ++ rest) p q)
    scanned_input = cut_input out (take p out ++ scanned_part in_out)
        (on_part scanned_part rest (p - length out) (q - length out)) _ as_long two_sides

    -- the two slices that a scan writes
    module _ (seam from to : ℕ) (es : seam ≡ min p (length out)) (ef : from ≡ p - length out) (et : to ≡ q - length out)
        (ys : List hb_glyph_info_t) where
      abbrev m : ℕ
      m = scan_least any_order (part out seam (length out)) (part rest from to)

      least_is : m ≡ scan_least any_order in_out in_rest
      least_is =
          ap (λ k. scan_least any_order (part out k (length out)) (part rest from to)) es
          ∙ ap (λ xs. scan_least any_order xs (part rest from to)) (slice_end out p)
          ∙ ap (λ k. scan_least any_order in_out (part rest k to)) ef
          ∙ ap (λ k. scan_least any_order in_out (part rest (p - length out) k)) et

      pub slice_scanned_out : ys ≡ part_scan any_order bits m (part out seam (length out))
          → put_mid seam (length out - seam) out ys
          ≡ take (length out) (on_part (two_part_scan any_order bits (length out - p)) (out ++ rest) p q)
      slice_scanned_out e =
          ap (put_mid seam (length out - seam) out) e
          ∙ put_mid-part (part_scan any_order bits m) out seam (length out) (omega arith)
          ∙ ap (λ k. on_part (part_scan any_order bits m) out k (length out)) es
          ∙ on_slice_end out p (part_scan any_order bits m)
          ∙ ap (λ k. take p out ++ part_scan any_order bits k in_out) least_is ∙ scanned_out

      pub slice_scanned_input : ys ≡ part_scan any_order bits m (part rest from to)
          → put_mid from (to - from) rest ys
          ≡ drop (length out) (on_part (two_part_scan any_order bits (length out - p)) (out ++ rest) p q)
      slice_scanned_input e =
          ap (put_mid from (to - from) rest) e ∙ put_mid-part (part_scan any_order bits m) rest from to (omega arith)
          ∙ ap (λ k. on_part (part_scan any_order bits m) rest k to) ef
          ∙ ap (λ k. on_part (part_scan any_order bits m) rest (p - length out) k) et
          ∙ ap (λ k. on_part (part_scan any_order bits k) rest (p - length out) (q - length out)) least_is
          ∙ scanned_input

pub ruleset slices_scanned = (slice_scanned_out, slice_scanned_input)
