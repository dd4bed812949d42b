-- The first glyphs of a list, written over.
use Rattle.std.proofs.Common.{◌≡◌, ℕ, ◌+◌, ◌-◌, ◌≤◌, ◌<◌, Bool, true, false, List, ◌++◌, length, take, drop, refl, sym}
use Rattle.std.proofs.Common.{ap, ◌∙◌, arith, length-append, length-drop, length-take, if◌then◌else◌}
use Rattle.std.proofs.Math.Seq.{take-append_seam, take-set-lt}
use Rattle.glyph_sides.proofs.ShiftLemmas.{drop_past}
use Rattle.std.proofs.Math.ListN.{set}
use Rattle.std.proofs.lemmas.List.{take-set-le, drop-set-lt, drop-set-lt, drop-drop, length-take-le}
use Rattle.std.specs.List.{length_refill}
use Rattle.std.specs.Global.{Vec}
use Rattle.rb_glyph.specs.declared.info.hb_glyph_info_t.{hb_glyph_info_t}
use Rattle.glyph_sides.specs.LendingLists.{refilled, with_front}

pub length_refilled : (xs ws : List hb_glyph_info_t) → length (refilled xs ws) ≡ length xs
length_refilled xs ws = sym (length_refill (length xs) xs ws refl)

module _ (v : Vec hb_glyph_info_t) (n : ℕ) (ws : List hb_glyph_info_t) (within : n ≤ length v.items) where
  abbrev front : List hb_glyph_info_t
  front = refilled (take n v.items) ws

  long : length front ≡ n
  long = length_refilled (take n v.items) ws ∙ length-take-le n v.items within

  pub front_items : (with_front v n ws).items ≡ front ++ drop n v.items
  front_items =
      let whole : List hb_glyph_info_t = front ++ drop (length front) v.items in
      let size : length whole ≡ length v.items =
      grind (arith, long, length-append front (drop (length front) v.items), length-drop (length front) v.items) in
      let fits : v.len ≡ length whole = v.ok.0 ∙ sym size in
      ap (λ k. take k (whole ++ drop (length whole) v.items)) fits
      ∙ take-append_seam whole (drop (length whole) v.items) ∙ ap (λ k. front ++ drop k v.items) long

  pub front_written : take n (with_front v n ws).items ≡ front
  front_written = ap (take n) front_items ∙ ap (λ k. take k (front ++ drop n v.items)) (sym long)
      ∙ take-append_seam front (drop n v.items)

  pub front_rest : (m : ℕ) → n ≤ m → drop m (with_front v n ws).items ≡ drop m v.items
  front_rest m after =
      ap (drop m) front_items ∙ drop_past m front (drop n v.items) (grind (arith, long))
      ∙ drop-drop (m - length front) n v.items
      ∙ (let e : n + (m - length front) ≡ m = grind (arith, long) in ap (λ k. drop k v.items) e)

pub items-with_front_none : (v : Vec hb_glyph_info_t) (ws : List hb_glyph_info_t) → (with_front v 0 ws).items ≡ v.items
items-with_front_none v ws = front_items v 0 ws (grind arith)

-- what is left to read, where the first were written over
pub if-with_front : (is : Bool) (v : Vec hb_glyph_info_t) (n m : ℕ) (ws : List hb_glyph_info_t) → n ≤ length v.items
    → n ≤ m → (is ≡ false → n ≡ 0)
    → (if is then drop m (with_front v n ws).items else (with_front v n ws).items)
    ≡ (if is then drop m v.items else v.items)
if-with_front true v n m ws within after none = front_rest v n ws within m after
if-with_front false v n m ws within after none =
    ap (λ k. (with_front v k ws).items) (none refl) ∙ items-with_front_none v ws

-- what was put out, where a glyph at the cursor or after it is written
pub if-set : {X : Type 0} (is : Bool) (ys xs : List X) (n i : ℕ) (x : X) → (is ≡ false → n ≤ i)
    → (if is then ys else take n (set xs i x)) ≡ (if is then ys else take n xs)
if-set true ys xs n i x h = refl
if-set false ys xs n i x h = take-set-le n xs i x (h refl)

-- the last glyph that was put out in place, written
module _ {X : Type 0} (separate : Bool) (ys xs : List X) (n : ℕ) (x : X) (in_place : separate ≡ false)
    (some : 0 < length (if separate then ys else take n xs)) where
  abbrev last : ℕ
  last = length (if separate then ys else take n xs) - 1

  pub last_written : take n (set xs last x) ≡ set (take n xs) last x
  last_written = take-set-lt n xs last x (grind (arith, in_place, some, length-take n xs))

  pub last_input : (is : Bool) (m : ℕ) → n ≤ m → (is ≡ false → n ≡ 0)
      → (if is then drop m (set xs last x) else set xs last x) ≡ (if is then drop m xs else xs)
  last_input true m after none = drop-set-lt m xs last x (grind (arith, in_place, some, length-take n xs))
  last_input false m after none = absurd (grind (arith, none refl, in_place, some, length-take n xs))

-- so many were put out in place
pub length_placed : {X : Type 0} (is : Bool) (ys xs : List X) (n : ℕ) → is ≡ false → n ≤ length xs
    → length (if is then ys else take n xs) ≡ n
length_placed true ys xs n h within = cc
length_placed false ys xs n h within = length-take-le n xs within
