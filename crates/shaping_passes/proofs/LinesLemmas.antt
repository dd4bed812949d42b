-- The lines of a text, from a place on.
use Rattle.std.proofs.Common.{◌≡◌, ℕ, zero, suc, ◌+◌, ◌-◌, ◌*◌, ◌<◌, ◌≤◌, Bool, true, false, List, [], ◌∷◌, ◌++◌, ◌&&◌}
use Rattle.std.proofs.Common.{length, take, drop, get_or, cond, ltb, refl, sym, ap, ◌∙◌, subst, arith}
use Rattle.std.proofs.lemmas.Bool.{cond_both, cond-true, cond-false, lt-ltb, le-ltb}
use Rattle.std.proofs.lemmas.Bool.Decides.{nat_tests}
use Rattle.std.proofs.Common.{w32, to_z, of_z, ◌^◌}
use Rattle.std.specs.Int.{w128}
use Rattle.std.specs.Prelude.{ℤ, pos, negsuc, ◌+ℤ◌, nat_abs, FitsSigned, if◌then◌else◌}
use Rattle.std.proofs.lemmas.Int.{ints, to_z-of_z}
use Rattle.std.proofs.lemmas.List.{drop_more, drop-drop, append_assoc, append-nil}
use Rattle.std.proofs.Math.Seq.{take-add}
use Rattle.std.specs.List.{list_all}
use Rattle.rb_glyph.specs.Rows.{rise}
use Rattle.rb_glyph.proofs.Bisection.{both}
use Rattle.rb_glyph.specs.declared.info.hb_glyph_info_t.{hb_glyph_info_t}
use Rattle.rb_glyph.specs.declared.position.GlyphPosition.{GlyphPosition}
use Rattle.shaping_buffer.specs.Positions.{zero_position}
use Rattle.shaping_passes.specs.Lines.{may_end, ends_from, all_ends, advance_of, width_of, is_within, widths_after}
use Rattle.shaping_passes.specs.Lines.{lines_from, line_ends}

-- ---- widths

add_assoc : (a b c : ℤ) → (a +ℤ b) +ℤ c ≡ a +ℤ (b +ℤ c)
add_assoc a b c = omega (arith, ints)

advance_of-append : (xs ys : List GlyphPosition) → advance_of (xs ++ ys) ≡ advance_of xs +ℤ advance_of ys
advance_of-append [] ys = omega (arith, ints)
advance_of-append (p ∷ xs) ys =
    ap (λ z. p.x_advance +ℤ z) (advance_of-append xs ys) ∙ sym (add_assoc p.x_advance (advance_of xs) (advance_of ys))

-- two parts of a line, one after the other
pub add-width_of : (ps : List GlyphPosition) (a b c : ℕ) → a ≤ b → b ≤ c
    → width_of ps a b +ℤ width_of ps b c ≡ width_of ps a c
add-width_of ps a b c ab bc =
    let n : a + (b - a) ≡ b = omega arith in
    let m : (b - a) + (c - b) ≡ c - a = omega arith in
    sym (ap (λ k. advance_of (take k (drop a ps))) (sym m)
    ∙ ap advance_of (take-add (b - a) (c - b) (drop a ps))
    ∙ ap (λ l. advance_of (take (b - a) (drop a ps) ++ take (c - b) l)) (drop-drop (b - a) a ps ∙ ap (λ k. drop k ps) n)
    ∙ advance_of-append (take (b - a) (drop a ps)) (take (c - b) (drop b ps)))

pub width_of-none : (ps : List GlyphPosition) (a : ℕ) → width_of ps a a ≡ pos 0
width_of-none ps a = let n : a - a ≡ 0 = omega arith in rw n refl

pub width_of-one : (ps : List GlyphPosition) (a : ℕ) (d : GlyphPosition) → a < length ps
    → width_of ps a (a + 1) ≡ (get_or ps a d).x_advance
width_of-one ps a d some =
    let n : (a + 1) - a ≡ 1 = omega arith in
    ap (λ k. advance_of (take k (drop a ps))) n
    ∙ ap (λ l. advance_of (take 1 l)) (drop_more ps a d some)
    ∙ zero_right (get_or ps a d).x_advance where
      zero_right : (z : ℤ) → z +ℤ pos 0 ≡ z
      zero_right z = omega (arith, ints)

-- ---- ends

-- the ends of the lines that are left, where the line from the start has come to this end and the next place at which it
-- could end is not before k + 1
abbrev pub ends_left : List hb_glyph_info_t → List GlyphPosition → List ℤ → ℕ → ℕ → ℕ → List ℕ
ends_left l ps widths start end k =
    let later = ends_from l (k + 1) (length l - k) in
    lines_from ps widths start (if ltb start end then end ∷ later else later)

later : List hb_glyph_info_t → ℕ → List ℕ
later l k = ends_from l (k + 1) (length l - k)

module _ (l : List hb_glyph_info_t) (k : ℕ) (some : k < length l) where
  later_by : later l k ≡ cond (may_end l (k + 1)) ((k + 1) ∷ later l (k + 1)) (later l (k + 1))
  unfolding later
  later_by = let n : length l - k ≡ suc (length l - (k + 1)) = omega arith in ap (λ m. ends_from l (k + 1) m) n

  later_here : may_end l (k + 1) ≡ true → later l k ≡ (k + 1) ∷ later l (k + 1)
  later_here e = later_by ∙ cond-true (may_end l (k + 1)) _ _ e

  later_past : may_end l (k + 1) ≡ false → later l k ≡ later l (k + 1)
  later_past e = later_by ∙ cond-false (may_end l (k + 1)) _ _ e

ends_left-lines_from : (l : List hb_glyph_info_t) (ps : List GlyphPosition) (ws : List ℤ) (start end k : ℕ)
    → ends_left l ps ws start end k ≡ lines_from ps ws start (cond (ltb start end) (end ∷ later l k) (later l k))
unfolding later
ends_left-lines_from l ps ws start end k = refl

module _ (l : List hb_glyph_info_t) (ps : List GlyphPosition) (ws : List ℤ) (start end k : ℕ) (some : k < length l) where
  -- no line may end behind the glyph
  pub none_ends : may_end l (k + 1) ≡ false → ends_left l ps ws start end k ≡ ends_left l ps ws start end (k + 1)
  none_ends e =
      ends_left-lines_from l ps ws start end k
      ∙ ap (λ m. lines_from ps ws start (cond (ltb start end) (end ∷ m) m)) (later_past l k some e)
      ∙ sym (ends_left-lines_from l ps ws start end (k + 1))

  here : start ≤ k → ends_left l ps ws start (k + 1) (k + 1) ≡ lines_from ps ws start ((k + 1) ∷ later l (k + 1))
  here before =
      let more : ltb start (k + 1) ≡ true = grind (arith, nat_tests) in
      ends_left-lines_from l ps ws start (k + 1) (k + 1)
      ∙ ap (lines_from ps ws start) (cond-true (ltb start (k + 1)) _ _ more)

  -- the line goes on to here
  pub goes_on : may_end l (k + 1) ≡ true → start ≤ k
      → (start < end → is_within (width_of ps start (k + 1)) ws ≡ true)
      → ends_left l ps ws start end k ≡ ends_left l ps ws start (k + 1) (k + 1)
  goes_on e before fits =
      ends_left-lines_from l ps ws start end k
      ∙ ap (λ m. lines_from ps ws start (cond (ltb start end) (end ∷ m) m)) (later_here l k some e)
      ∙ cond_both (ltb start end) (end ∷ (k + 1) ∷ later l (k + 1)) ((k + 1) ∷ later l (k + 1))
      (λ m. lines_from ps ws start m ≡ lines_from ps ws start ((k + 1) ∷ later l (k + 1)))
      (λ less. cond-true (is_within (width_of ps start (k + 1)) ws) _ _ (fits (grind (arith, nat_tests))))
      (λ none. refl)
      ∙ sym (here before)

  -- the line has ended, and the next one goes on to here
  pub ended : may_end l (k + 1) ≡ true → start < end → end ≤ k → is_within (width_of ps start (k + 1)) ws ≡ false
      → ends_left l ps ws start end k ≡ end ∷ ends_left l ps (widths_after ws) end (k + 1) (k + 1)
  ended e less before wide =
      let is_less : ltb start end ≡ true = grind (arith, nat_tests) in
      let more : ltb end (k + 1) ≡ true = grind (arith, nat_tests) in
      ends_left-lines_from l ps ws start end k
      ∙ ap (λ m. lines_from ps ws start (cond (ltb start end) (end ∷ m) m)) (later_here l k some e)
      ∙ ap (lines_from ps ws start) (cond-true (ltb start end) _ _ is_less)
      ∙ cond-false (is_within (width_of ps start (k + 1)) ws) _ _ wide
      ∙ ap (λ m. end ∷ m) (sym (ends_left-lines_from l ps (widths_after ws) end (k + 1) (k + 1)
      ∙ ap (lines_from ps (widths_after ws) end) (cond-true (ltb end (k + 1)) _ _ more)))

-- no glyph is left
pub ends_left-none : (l : List hb_glyph_info_t) (ps : List GlyphPosition) (ws : List ℤ) (start end : ℕ)
    → ends_left l ps ws start end (length l) ≡ (if ltb start end then end ∷ [] else [])
ends_left-none l ps ws start end =
    let n : length l - length l ≡ 0 = omega arith in
    ap (λ m. lines_from ps ws start (cond (ltb start end) (end ∷ ends_from l (length l + 1) m) (ends_from l (length l + 1) m)))
    n
    ∙ cond_both (ltb start end) (end ∷ []) [] (λ m. lines_from ps ws start m ≡ m) (λ e. refl) (λ e. refl)

-- ---- laws of the ends

and_true : (b c : Bool) → b ≡ true → c ≡ true → (b && c) ≡ true
and_true true c e f = f
and_true false c e f = cc

module _ (p : ℕ → Bool) where
  lines_all : (ps : List GlyphPosition) (ws : List ℤ) (start : ℕ) (ends : List ℕ) → list_all p ends ≡ true
      → list_all p (lines_from ps ws start ends) ≡ true
  lines_all ps ws start [] all = all
  lines_all ps ws start (end ∷ []) all = all
  lines_all ps ws start (end ∷ next ∷ ends) all =
      cond_both (is_within (width_of ps start next) ws) _ _ (λ (x : List ℕ). list_all p x ≡ true)
      (λ _. lines_all ps ws start (next ∷ ends) (both _ _ all).1)
      (λ _. and_true _ _ (both _ _ all).0 (lines_all ps (widths_after ws) end (next ∷ ends) (both _ _ all).1))

all_may_end : (l : List hb_glyph_info_t) (k n : ℕ) → list_all (may_end l) (ends_from l k n) ≡ true
all_may_end l k zero = refl
all_may_end l k (suc n) =
    cond_both (may_end l k) _ _ (λ (x : List ℕ). list_all (may_end l) x ≡ true)
    (λ e. and_true _ _ e (all_may_end l (k + 1) n))
    (λ _. all_may_end l (k + 1) n)

pub lines_may_end : (l : List hb_glyph_info_t) (ps : List GlyphPosition) (ws : List ℤ)
    → list_all (may_end l) (line_ends l ps ws) ≡ true
lines_may_end l ps ws = lines_all (may_end l) ps ws 0 (all_ends l) (all_may_end l 1 (length l))

less : (a b : ℕ) → a < b → ltb a b ≡ true
less a b h = grind (arith, nat_tests)

ends_rise : (l : List hb_glyph_info_t) (a k n : ℕ) → a < k → rise ltb (a ∷ ends_from l k n) ≡ true
ends_rise l a k zero a_k = refl
ends_rise l a k (suc n) a_k =
    cond_both (may_end l k) _ _ (λ (x : List ℕ). rise ltb (a ∷ x) ≡ true)
    (λ _. and_true _ _ (less a k a_k) (ends_rise l k (k + 1) n (omega arith)))
    (λ _. ends_rise l a (k + 1) n (omega arith))

lines_rise_from : (ps : List GlyphPosition) (ws : List ℤ) (start a : ℕ) (ends : List ℕ) → rise ltb (a ∷ ends) ≡ true
    → rise ltb (a ∷ lines_from ps ws start ends) ≡ true
lines_rise_from ps ws start a [] up = up
lines_rise_from ps ws start a (end ∷ []) up = up
lines_rise_from ps ws start a (end ∷ next ∷ ends) up =
    let first = both (ltb a end) _ up in
    let second = both (ltb end next) _ first.1 in
    let far : ltb a next ≡ true = less a next (joined a end next first.0 second.0) in
    cond_both (is_within (width_of ps start next) ws) _ _ (λ (x : List ℕ). rise ltb (a ∷ x) ≡ true)
    (λ _. lines_rise_from ps ws start a (next ∷ ends) (and_true _ _ far second.1))
    (λ _. and_true _ _ first.0 (lines_rise_from ps (widths_after ws) end end (next ∷ ends) first.1)) where
      joined : (a b c : ℕ) → ltb a b ≡ true → ltb b c ≡ true → a < c
      joined a b c p q = grind (arith, nat_tests)

rise_tail : (a : ℕ) (l : List ℕ) → rise ltb (a ∷ l) ≡ true → rise ltb l ≡ true
rise_tail a [] up = refl
rise_tail a (b ∷ l) up = (both (ltb a b) _ up).1

pub lines_rise : (l : List hb_glyph_info_t) (ps : List GlyphPosition) (ws : List ℤ)
    → rise ltb (line_ends l ps ws) ≡ true
lines_rise l ps ws =
    rise_tail 0 (line_ends l ps ws)
    (lines_rise_from ps ws 0 0 (all_ends l) (ends_rise l 0 1 (length l) (omega arith)))

-- ---- how large a width is

pub abs-add : (a b : ℤ) → nat_abs (a +ℤ b) ≤ nat_abs a + nat_abs b
abs-add a b = grind (arith, ints)

pub abs-fits : (z : ℤ) → FitsSigned w32 z → nat_abs z ≤ 2 ^ 31
abs-fits (pos n) f = let m = f.sfits in omega arith
abs-fits (negsuc n) f = let m = f.sfits in omega arith

pub fits-abs : (z : ℤ) → nat_abs z < 2 ^ 100 → FitsSigned w128 z
fits-abs (pos n) small = record { sfits = omega arith }
fits-abs (negsuc n) small = record { sfits = omega arith }

-- a part of a line, and one glyph more
pub width_of-more : (ps : List GlyphPosition) (a k : ℕ) → a ≤ k → k < length ps
    → width_of ps a (k + 1) ≡ width_of ps a k +ℤ (get_or ps k zero_position).x_advance
width_of-more ps a k before some =
    sym (add-width_of ps a k (k + 1) before (omega arith))
    ∙ ap (λ z. width_of ps a k +ℤ z) (width_of-one ps k zero_position some)

-- ---- the step of the walk

-- two parts of a line, so many glyphs each, fit the sum that is computed
pub sum-fits : (a b : ℤ) (n m : ℕ) → nat_abs a ≤ n * 2 ^ 31 → nat_abs b ≤ m * 2 ^ 31 → n + m < 2 ^ 66
    → FitsSigned w128 (a +ℤ b)
sum-fits a b n m p q small = fits-abs (a +ℤ b) (omega (arith, abs-add a b))

-- the advance of one glyph more
pub record OneMore (old xa computed : ℤ) (n : ℕ) : Type 0 where
  pub is : computed ≡ old +ℤ xa
  pub bound : nat_abs computed ≤ (n + 1) * 2 ^ 31

pub one_more : (old x xa : ℤ) (n : ℕ) → FitsSigned w128 x → FitsSigned w32 xa → x ≡ to_z w32 (of_z w32 xa)
    → nat_abs old ≤ n * 2 ^ 31 → n < 2 ^ 65
    → OneMore old xa (to_z w128 (of_z w128 (old +ℤ to_z w128 (of_z w128 x)))) n
one_more old x xa n fx fa e bound few =
    let same : to_z w128 (of_z w128 x) ≡ xa = to_z-of_z w128 x fx ∙ e ∙ to_z-of_z w32 xa fa in
    let small = abs-fits xa fa in
    let fits = sum-fits old xa n 1 bound (omega arith) (omega arith) in
    let all : to_z w128 (of_z w128 (old +ℤ to_z w128 (of_z w128 x))) ≡ old +ℤ xa =
    ap (λ z. to_z w128 (of_z w128 (old +ℤ z))) same ∙ to_z-of_z w128 (old +ℤ xa) fits in
    record { is = all; bound = omega (arith, ap nat_abs all, abs-add old xa) }

-- The walk has come to place k: a line from `start` has come to `end`, and a piece stands behind it, each so wide. These
-- ends and those of the lines that are left are all.
pub record Walked (l : List hb_glyph_info_t) (ps : List GlyphPosition) (all : List ℕ) (k start end : ℕ) (ends : List ℕ)
    (ws : List ℤ) (t p : ℤ) : Type 0 where
  pub order : start ≤ end
  pub behind : end ≤ k
  pub taken : t ≡ width_of ps start end
  pub piece : p ≡ width_of ps end k
  pub taken_bound : nat_abs t ≤ (end - start) * 2 ^ 31
  pub piece_bound : nat_abs p ≤ (k - end) * 2 ^ 31
  pub whole : ends ++ ends_left l ps ws start end k ≡ all

-- a line of this start has come to `end`, and goes on behind the glyph at place k
pub record Joined (l : List hb_glyph_info_t) (ps : List GlyphPosition) (all : List ℕ) (k end start : ℕ)
    (ends : List ℕ) (ws : List ℤ) (t : ℤ) : Type 0 where
  pub order : start ≤ end
  pub taken : t ≡ width_of ps start end
  pub bound : nat_abs t ≤ (end - start) * 2 ^ 31
  pub whole : ends ++ ends_left l ps ws start (k + 1) (k + 1) ≡ all

-- there is a glyph at place k, and so large is its advance as it is read
pub record IsNext (l : List hb_glyph_info_t) (ps : List GlyphPosition) (k : ℕ) (x : ℤ) : Type 0 where
  pub some : k < length l
  pub long : length l ≡ length ps
  pub few : k < 2 ^ 64
  pub fits : FitsSigned w128 x
  pub advance_fits : FitsSigned w32 (get_or ps k zero_position).x_advance
  pub is : x ≡ to_z w32 (of_z w32 (get_or ps k zero_position).x_advance)

module _ {l : List hb_glyph_info_t} {ps : List GlyphPosition} {all : List ℕ} {k start end : ℕ} {ends : List ℕ}
    {ws : List ℤ} {t p x : ℤ} (w : Walked l ps all k start end ends ws t p) (g : IsNext l ps k x) where
  abbrev more : ℤ
  more = to_z w128 (of_z w128 (p +ℤ to_z w128 (of_z w128 x)))

  one : OneMore p (get_or ps k zero_position).x_advance more (k - end)
  one =
      one_more p x (get_or ps k zero_position).x_advance (k - end) g.fits g.advance_fits g.is w.piece_bound
      (omega (arith, g.few))

  piece_more : more ≡ width_of ps end (k + 1)
  piece_more =
      one.is ∙ ap (λ z. z +ℤ (get_or ps k zero_position).x_advance) w.piece
      ∙ sym (width_of-more ps end k w.behind (omega (arith, g.some, g.long)))

  small : nat_abs more ≤ (k + 1 - end) * 2 ^ 31
  small = omega (arith, one.bound, w.behind)

  -- no line may end behind the glyph
  pub walked_past : may_end l (k + 1) ≡ false → Walked l ps all (k + 1) start end ends ws t more
  walked_past none = record {
    order = w.order;
    behind = omega (arith, w.behind);
    taken = w.taken;
    piece = piece_more;
    taken_bound = w.taken_bound;
    piece_bound = small;
    whole = ap (λ x. ends ++ x) (sym (none_ends l ps ws start end k g.some none)) ∙ w.whole;
  }

  line_is : to_z w128 (of_z w128 (t +ℤ more)) ≡ width_of ps start (k + 1)
  line_is =
      to_z-of_z w128 (t +ℤ more)
      (sum-fits t more (end - start) (k + 1 - end) w.taken_bound small (omega (arith, w.order, w.behind, g.few)))
      ∙ ap (λ z. z +ℤ more) w.taken ∙ ap (λ z. width_of ps start end +ℤ z) piece_more
      ∙ add-width_of ps start end (k + 1) w.order (omega (arith, w.behind))

  -- the line goes on
  pub joined_on : may_end l (k + 1) ≡ true
      → (start < end → is_within (to_z w128 (of_z w128 (t +ℤ more))) ws ≡ true) → Joined l ps all k end start ends ws t
  joined_on may fits = record {
    order = w.order;
    taken = w.taken;
    bound = w.taken_bound;
    whole = ap (λ x. ends ++ x) (sym (goes_on l ps ws start end k g.some may (omega (arith, w.order, w.behind))
        (λ less. ap (λ z. is_within z ws) (sym line_is) ∙ fits less)))
        ∙ w.whole;
  }

  -- the line ends, and the next one begins
  pub joined_next : may_end l (k + 1) ≡ true → start < end → is_within (to_z w128 (of_z w128 (t +ℤ more))) ws ≡ false
      → Joined l ps all k end end (ends ++ end ∷ []) (widths_after ws) (pos 0)
  joined_next may less wide = record {
    order = omega arith;
    taken = sym (width_of-none ps end);
    bound = omega arith;
    whole = append_assoc ends (end ∷ []) (ends_left l ps (widths_after ws) end (k + 1) (k + 1))
        ∙ ap (λ x. ends ++ x) (sym (ended l ps ws start end k g.some may less w.behind
        (ap (λ z. is_within z ws) (sym line_is) ∙ wide)))
        ∙ w.whole;
  }

  -- the line takes the piece
  module _ {start2 : ℕ} {ends2 : List ℕ} {ws2 : List ℤ} {t2 : ℤ} (j : Joined l ps all k end start2 ends2 ws2 t2) where
    pub taken-fits : FitsSigned w128 (t2 +ℤ more)
    taken-fits =
        sum-fits t2 more (end - start2) (k + 1 - end) j.bound small (omega (arith, j.order, w.behind, g.few))

    pub walked_joined : Walked l ps all (k + 1) start2 (k + 1) ends2 ws2 (to_z w128 (of_z w128 (t2 +ℤ more))) (pos 0)
    walked_joined =
        let e = to_z-of_z w128 (t2 +ℤ more) taken-fits in
        record {
          order = omega (arith, j.order, w.behind);
          behind = omega arith;
          taken = e ∙ ap (λ z. z +ℤ more) j.taken ∙ ap (λ z. width_of ps start2 end +ℤ z) piece_more
              ∙ add-width_of ps start2 end (k + 1) j.order (omega (arith, w.behind));
          piece = sym (width_of-none ps (k + 1));
          taken_bound = omega (arith, ap nat_abs e, abs-add t2 more, j.bound, j.order, small, w.behind);
          piece_bound = omega arith;
          whole = j.whole;
        }

-- the same, by other names
pub joined_alike : {l : List hb_glyph_info_t} {ps : List GlyphPosition} {all : List ℕ} {k end start start2 : ℕ}
    {ends ends2 : List ℕ} {ws ws2 : List ℤ} {t t2 : ℤ} → start2 ≡ start → ends2 ≡ ends → ws2 ≡ ws → t2 ≡ t
    → Joined l ps all k end start ends ws t → Joined l ps all k end start2 ends2 ws2 t2
joined_alike {l = l} {ps = ps} {all = all} {k = k} {end = end} {start = start} {ends = ends} {ends2 = ends2} {ws = ws}
    {ws2 = ws2} {t2 = t2} e1 e2 e3 e4 j =
    subst (λ x. Joined l ps all k end x ends2 ws2 t2) (sym e1)
    (subst (λ x. Joined l ps all k end start x ws2 t2) (sym e2)
    (subst (λ x. Joined l ps all k end start ends x t2) (sym e3)
    (subst (λ x. Joined l ps all k end start ends ws x) (sym e4) j)))

-- no glyph is left
module _ {l : List hb_glyph_info_t} {ps : List GlyphPosition} {all : List ℕ} {k start end : ℕ} {ends : List ℕ}
    {ws : List ℤ} {t p : ℤ} (w : Walked l ps all k start end ends ws t p) (past : length l ≡ k) where
  left : ends ++ cond (ltb start end) (end ∷ []) [] ≡ all
  left =
      ap (λ x. ends ++ x) (sym (ends_left-none l ps ws start end) ∙ ap (ends_left l ps ws start end) past) ∙ w.whole

  pub last_line : start < end → ends ++ end ∷ [] ≡ all
  last_line less = ap (λ x. ends ++ x) (sym (cond-true _ (end ∷ []) [] (lt-ltb start end less))) ∙ left

  pub no_line : end ≤ start → ends ≡ all
  no_line none =
      sym (append-nil ends) ∙ ap (λ x. ends ++ x) (sym (cond-false _ (end ∷ []) [] (le-ltb start end none))) ∙ left
