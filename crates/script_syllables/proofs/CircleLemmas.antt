-- Why the circles that are put out are those of the text.
use Rattle.std.proofs.Common.{◌≡◌, ℕ, suc, ◌+◌, ◌-◌, ◌<◌, ◌≤◌, Bool, true, false, not, ◌&&◌, ◌==◌, List, [], ◌∷◌, ◌++◌, length, take, drop}
use Rattle.std.proofs.Common.{get_or, cond, leb, Some, Result, Ok, Err, IfOk, refl, sym, ap, subst, ◌∙◌, inl, inr, arith}
use Rattle.std.proofs.Common.{append_assoc, length-drop, eq-eqb}
use Rattle.std.proofs.lemmas.Bool.{cases_Bool, cond-true, cond-false, cond_both, false≢true}
use Rattle.std.proofs.lemmas.List.{nil_from_length}
use Rattle.std.specs.List.{prefix_len}
use Rattle.std.specs.declared.alloc.AllocError.{AllocError}
use Rattle.rb_glyph.specs.declared.info.hb_glyph_info_t.{hb_glyph_info_t}
use Rattle.shaping_buffer.specs.State.{State, len, lookahead_len, place_of}
use Rattle.shaping_buffer.specs.ClusterStep.{both}
use Rattle.shaping_buffer.specs.Step.{Outcome, Meets, next_glyph, next_glyphs, output_info}
use Rattle.script_syllables.specs.Circle.{circle_at, begins_broken, is_reph, circled, with_circles, circle_behind}
use Rattle.script_syllables.specs.Circle.{first_circled, HasSides, IsRead}
use Rattle.script_syllables.specs.Item.{syllable, syllable_kind}
use Rattle.script_syllables.specs.declared.dotted_circle.Circle.{Circle}

-- ---- the text

add-one_more : (n : ℕ) → 1 + n ≡ suc n
add-one_more n = omega arith

-- an item that begins no broken syllable
with_circles-next : (c : Circle) (last : ℕ) (g : hb_glyph_info_t) (gs : List hb_glyph_info_t) → begins_broken c last g ≡ false
    → with_circles c last (g ∷ gs) ≡ g ∷ with_circles c last gs
with_circles-next c last g gs other = cond-false _ _ _ other

append-next : (c : Circle) (last : ℕ) (l : List hb_glyph_info_t) (d : hb_glyph_info_t) → 0 < length l
    → begins_broken c last (get_or l 0 d) ≡ false → take 1 l ++ with_circles c last (drop 1 l) ≡ with_circles c last l
append-next c last [] d some other = absurd (omega (arith, some))
append-next c last (g ∷ gs) d some other = sym (with_circles-next c last g gs other)

-- one of a syllable that has its circle
begins_broken-again : (c : Circle) (g : hb_glyph_info_t) → begins_broken c (syllable g) g ≡ false
begins_broken-again c g =
    ap (λ (b : Bool). not b && (syllable_kind g == c.kind.broken)) (eq-eqb (syllable g) (syllable g) refl)

-- a circle that waits stands behind the rephs
circled-waiting : (c : Circle) (number : ℕ) (o : hb_glyph_info_t) (gs : List hb_glyph_info_t)
    → circled c number (Some o) gs
    ≡ take (prefix_len (is_reph c.kind.repha number) gs) gs
    ++ o ∷ with_circles c number (drop (prefix_len (is_reph c.kind.repha number) gs) gs)
circled-waiting c number o [] = refl
circled-waiting c number o (g ∷ gs) =
    let parted = λ (k : ℕ). take k (g ∷ gs) ++ o ∷ with_circles c number (drop k (g ∷ gs)) in
    elim (cases_Bool (is_reph c.kind.repha number g)) [
      | inl reph ↦
          let more : prefix_len (is_reph c.kind.repha number) (g ∷ gs) ≡ suc (prefix_len (is_reph c.kind.repha number) gs) =
          cond-true _ _ _ reph ∙ add-one_more _ in
          cond-true _ _ _ reph ∙ ap (λ (l : List hb_glyph_info_t). g ∷ l) (circled-waiting c number o gs)
          ∙ sym (ap parted more)
      | inr other ↦
          let none : prefix_len (is_reph c.kind.repha number) (g ∷ gs) ≡ 0 = cond-false _ _ _ other in
          cond-false _ _ _ other ∙ sym (ap parted none)
    ]

-- the first item of a broken syllable
with_circles-begun : (c : Circle) (last : ℕ) (g : hb_glyph_info_t) (gs : List hb_glyph_info_t) → begins_broken c last g ≡ true
    → with_circles c last (g ∷ gs) ≡ first_circled c (g ∷ gs)
with_circles-begun c last g gs first =
    let parted = λ (k : ℕ). take k (g ∷ gs) ++ circle_at c g ∷ with_circles c (syllable g) (drop k (g ∷ gs)) in
    elim (cases_Bool (is_reph c.kind.repha (syllable g) g)) [
      | inl reph ↦
          let more : prefix_len (is_reph c.kind.repha (syllable g)) (g ∷ gs) ≡ suc (prefix_len (is_reph c.kind.repha (syllable g)) gs) =
          cond-true _ _ _ reph ∙ add-one_more _ in
          cond-true _ _ _ first ∙ cond-true _ _ _ reph
          ∙ ap (λ (l : List hb_glyph_info_t). g ∷ l) (circled-waiting c (syllable g) (circle_at c g) gs)
          ∙ sym (ap parted more)
      | inr other ↦
          let none : prefix_len (is_reph c.kind.repha (syllable g)) (g ∷ gs) ≡ 0 = cond-false _ _ _ other in
          cond-true _ _ _ first ∙ cond-false _ _ _ other
          ∙ ap (λ (l : List hb_glyph_info_t). circle_at c g ∷ l)
          (sym (with_circles-next c (syllable g) g gs (begins_broken-again c g)))
          ∙ sym (ap parted none)
    ]

with_circles-broken : (c : Circle) (last : ℕ) (l : List hb_glyph_info_t) (d : hb_glyph_info_t) → 0 < length l
    → begins_broken c last (get_or l 0 d) ≡ true → with_circles c last l ≡ first_circled c l
with_circles-broken c last [] d some first = absurd (omega (arith, some))
with_circles-broken c last (g ∷ gs) d some first = with_circles-begun c last g gs first

-- its rephs and its circle are put out
append-first_circled : (c : Circle) (out l : List hb_glyph_info_t) (n number : ℕ) (d : hb_glyph_info_t) → 0 < length l
    → number ≡ syllable (get_or l 0 d) → n ≡ prefix_len (is_reph c.kind.repha number) l
    → (out ++ circle_behind c n l) ++ with_circles c number (drop n l) ≡ out ++ first_circled c l
append-first_circled c out [] n number d some own is = absurd (omega (arith, some))
append-first_circled c out (g ∷ gs) n number d some own is =
    let parted = λ (s k : ℕ). take k (g ∷ gs) ++ circle_at c g ∷ with_circles c s (drop k (g ∷ gs)) in
    append_assoc out (take n (g ∷ gs) ++ circle_at c g ∷ []) (with_circles c number (drop n (g ∷ gs)))
    ∙ ap (λ (l : List hb_glyph_info_t). out ++ l)
    (append_assoc (take n (g ∷ gs)) (circle_at c g ∷ []) (with_circles c number (drop n (g ∷ gs)))
    ∙ ap (parted number) is
    ∙ ap (λ (s : ℕ). parted s (prefix_len (is_reph c.kind.repha s) (g ∷ gs))) own)

circle_behind-first : (c : Circle) (n : ℕ) (l : List hb_glyph_info_t) (d : hb_glyph_info_t) → 0 < length l → d ≡ get_or l 0 d
    → circle_behind c n l ≡ take n l ++ circle_at c d ∷ []
circle_behind-first c n [] d some is = absurd (omega (arith, some))
circle_behind-first c n (g ∷ gs) d some is = ap (λ (x : hb_glyph_info_t). take n (g ∷ gs) ++ circle_at c x ∷ []) (sym is)

-- ---- the calls

next_sides : (n : ℕ) (s : State) → s.have_output ≡ true → true ≡ (next_glyphs n s).done
    → HasSides (s.out ++ take n s.input) (drop n s.input) (next_glyphs n s).state
next_sides n s opened =
    let Put : Outcome → Type 0 = λ o. true ≡ o.done → HasSides (s.out ++ take n s.input) (drop n s.input) o.state in
    cond_both s.have_output _ _ Put
    (λ e. cond_both (leb (length (s.out ++ take n s.input)) s.max_len) _ _ Put
    (λ _ done. record { out = refl; input = ap (λ (b : Bool). cond b (drop n s.input) s.input) e })
    (λ _ done. absurd (false≢true (sym done))))
    (λ e done. absurd (false≢true (sym e ∙ opened)))

put_sides : (g : hb_glyph_info_t) (s : State) → true ≡ (output_info g s).done
    → HasSides (s.out ++ g ∷ []) s.input (output_info g s).state
put_sides g s =
    let Put : Outcome → Type 0 = λ o. true ≡ o.done → HasSides (s.out ++ g ∷ []) s.input o.state in
    cond_both (leb (length (s.out ++ g ∷ [])) s.max_len) _ _ Put
    (λ _ done. record { out = refl; input = refl }) (λ _ done. absurd (false≢true (sym done)))

-- how much there is, and how much is left
pub len-opened : (s : State) → s.have_output ≡ true → len s ≡ s.idx + length s.input
len-opened s opened = ap (λ (b : Bool). cond b (s.idx + length s.input) (length s.input)) opened

pub lookahead_len-opened : (s : State) → s.have_output ≡ true → lookahead_len s ≡ length s.input
lookahead_len-opened s opened = ap (λ (n : ℕ). n - s.idx) (len-opened s opened) ∙ omega arith

-- items that were read
pub read_sides : (n : ℕ) (done : Bool) (s t : State) → s.have_output ≡ true → Meets (next_glyphs n s) s (Ok done) t → done ≡ true
    → HasSides (s.out ++ take n s.input) (drop n s.input) t
read_sides n done s t opened read good =
    subst (HasSides (s.out ++ take n s.input) (drop n s.input)) (sym read.1) (next_sides n s opened (sym good ∙ read.0))

-- the glyph at the cursor
pub at_cursor : (s : State) (d : hb_glyph_info_t) → s.have_output ≡ true → d ≡ get_or s.input (place_of s 0) d
    → d ≡ get_or s.input 0 d
at_cursor s d opened here = here ∙ ap (λ (b : Bool). get_or s.input (cond b 0 (s.idx + 0)) d) opened

-- rephs, and a circle behind them
pub put_behind : (c : Circle) (n : ℕ) (g d : hb_glyph_info_t) (done : Bool) (s t u : State) (r : Result Bool AllocError)
    → s.have_output ≡ true → 0 < length s.input → d ≡ get_or s.input (place_of s 0) d → g ≡ circle_at c d
    → Meets (next_glyphs n s) s (Ok done) t → done ≡ true → Meets (output_info g t) t r u
    → IfOk r (λ ok. ok ≡ true → HasSides (s.out ++ circle_behind c n s.input) (drop n s.input) u)
put_behind c n g d done s t u (Err e) opened some here is read good put = tt
put_behind c n g d done s t u (Ok ok) opened some here is read good put = λ yes.
    let before : HasSides (s.out ++ take n s.input) (drop n s.input) t = read_sides n done s t opened read good in
    let after : HasSides (t.out ++ g ∷ []) t.input u =
    subst (HasSides (t.out ++ g ∷ []) t.input) (sym put.1) (put_sides g t (sym yes ∙ put.0)) in
    record {
      out = after.out ∙ ap (λ (l : List hb_glyph_info_t). l ++ g ∷ []) before.out
          ∙ append_assoc s.out (take n s.input) (g ∷ [])
          ∙ ap (λ (l : List hb_glyph_info_t). s.out ++ l)
          (ap (λ (x : hb_glyph_info_t). take n s.input ++ x ∷ []) is
          ∙ sym (circle_behind-first c n s.input d some (at_cursor s d opened here)));
      input = after.input ∙ before.input;
    }

-- an item that begins no broken syllable is read
pub read_other : (c : Circle) (last : ℕ) (d : hb_glyph_info_t) (done : Bool) (s t : State) → s.have_output ≡ true
    → 0 < length s.input → d ≡ get_or s.input (place_of s 0) d → begins_broken c last d ≡ false
    → Meets (next_glyph s) s (Ok done) t → done ≡ true → IsRead c (with_circles c last s.input) s last t
read_other c last d done s t opened some here other read good =
    let sides : HasSides (s.out ++ take 1 s.input) (drop 1 s.input) t = read_sides 1 done s t opened read good in
    let head : begins_broken c last (get_or s.input 0 d) ≡ false =
    ap (begins_broken c last) (sym (at_cursor s d opened here)) ∙ other in
    record {
      is = ap (λ (l : List hb_glyph_info_t). l ++ with_circles c last t.input) sides.out
          ∙ ap (λ (l : List hb_glyph_info_t). (s.out ++ take 1 s.input) ++ with_circles c last l) sides.input
          ∙ append_assoc s.out (take 1 s.input) (with_circles c last (drop 1 s.input))
          ∙ ap (λ (l : List hb_glyph_info_t). s.out ++ l) (append-next c last s.input d some head);
      fewer = omega (arith, ap length sides.input, length-drop 1 s.input, some);
    }

-- the rephs of a broken syllable are read
pub read_rephs : (c : Circle) (n number : ℕ) (d : hb_glyph_info_t) (s t : State) → s.have_output ≡ true
    → 0 < length s.input → d ≡ get_or s.input (place_of s 0) d → number ≡ syllable d
    → n ≡ prefix_len (is_reph c.kind.repha number) s.input
    → HasSides (s.out ++ circle_behind c n s.input) (drop n s.input) t → 0 < n
    → IsRead c (first_circled c s.input) s number t
read_rephs c n number d s t opened some here own is sides more = record {
  is = ap (λ (l : List hb_glyph_info_t). l ++ with_circles c number t.input) sides.out
      ∙ ap (λ (l : List hb_glyph_info_t). (s.out ++ circle_behind c n s.input) ++ with_circles c number l) sides.input
      ∙ append-first_circled c s.out s.input n number d some (own ∙ ap syllable (at_cursor s d opened here)) is;
  fewer = omega (arith, ap length sides.input, length-drop n s.input, some, more);
}

-- where it has none, its first item is still there
pub some_ahead : (n : ℕ) (gs : List hb_glyph_info_t) (s t : State) → t.have_output ≡ true → 0 < length s.input
    → HasSides gs (drop n s.input) t → n ≡ 0 → 0 < lookahead_len t
some_ahead n gs s t opened some sides none =
    let long = ap length (sides.input ∙ ap (λ (k : ℕ). drop k s.input) none) in
    omega (arith, long, lookahead_len-opened t opened, some)

-- and is read
pub read_first : (c : Circle) (n number : ℕ) (d : hb_glyph_info_t) (done : Bool) (s t u : State) → s.have_output ≡ true
    → t.have_output ≡ true → 0 < length s.input → d ≡ get_or s.input (place_of s 0) d → number ≡ syllable d
    → n ≡ prefix_len (is_reph c.kind.repha number) s.input
    → HasSides (s.out ++ circle_behind c n s.input) (drop n s.input) t → n ≡ 0
    → Meets (next_glyph t) t (Ok done) u → done ≡ true → IsRead c (first_circled c s.input) s number u
read_first c n number d done s t u opened held some here own is sides none read good =
    let after : HasSides (t.out ++ take 1 t.input) (drop 1 t.input) u = read_sides 1 done t u held read good in
    let left : t.input ≡ s.input = sides.input ∙ ap (λ (k : ℕ). drop k s.input) none in
    let some_left : 0 < length t.input = omega (arith, ap length left, some) in
    let head : number ≡ syllable (get_or t.input 0 d) =
    own ∙ ap syllable (at_cursor s d opened here ∙ ap (λ (l : List hb_glyph_info_t). get_or l 0 d) (sym left)) in
    let again : begins_broken c number (get_or t.input 0 d) ≡ false =
    ap (λ (k : ℕ). begins_broken c k (get_or t.input 0 d)) head ∙ begins_broken-again c (get_or t.input 0 d) in
    record {
      is = ap (λ (l : List hb_glyph_info_t). l ++ with_circles c number u.input) after.out
          ∙ ap (λ (l : List hb_glyph_info_t). (t.out ++ take 1 t.input) ++ with_circles c number l) after.input
          ∙ append_assoc t.out (take 1 t.input) (with_circles c number (drop 1 t.input))
          ∙ ap (λ (l : List hb_glyph_info_t). t.out ++ l) (append-next c number t.input d some_left again)
          ∙ ap (λ (l : List hb_glyph_info_t). l ++ with_circles c number t.input) sides.out
          ∙ ap (λ (l : List hb_glyph_info_t). (s.out ++ circle_behind c n s.input) ++ with_circles c number l) sides.input
          ∙ append-first_circled c s.out s.input n number d some (own ∙ ap syllable (at_cursor s d opened here)) is;
      fewer = omega (arith, ap length after.input, length-drop 1 t.input, ap length left, some);
    }

-- what a broken syllable becomes is what the text does
pub with_circles-at : (c : Circle) (last : ℕ) (d : hb_glyph_info_t) (s : State) → s.have_output ≡ true
    → 0 < length s.input → d ≡ get_or s.input (place_of s 0) d → begins_broken c last d ≡ true
    → with_circles c last s.input ≡ first_circled c s.input
with_circles-at c last d s opened some here first =
    with_circles-broken c last s.input d some (ap (begins_broken c last) (sym (at_cursor s d opened here)) ∙ first)

-- ---- the walk

pub walk_more : (c : Circle) (last next turn count : ℕ) (text : List hb_glyph_info_t) (s t : State)
    → s.out ++ with_circles c last s.input ≡ text → length s.input + turn ≤ count
    → IsRead c (with_circles c last s.input) s next t
    → (t.out ++ with_circles c next t.input ≡ text) × (length t.input + (turn + 1) ≤ count)
walk_more c last next turn count text s t is left read = (read.is ∙ is, omega (arith, left, read.fewer))

pub both-walked : (c : Circle) (last : ℕ) (text : List hb_glyph_info_t) (s : State) → length s.input ≡ 0
    → s.out ++ with_circles c last s.input ≡ text → both s ≡ text
both-walked c last text s none is =
    let nothing : s.input ≡ [] = nil_from_length s.input none in
    ap (λ (l : List hb_glyph_info_t). s.out ++ l) nothing
    ∙ sym (ap (λ (l : List hb_glyph_info_t). s.out ++ with_circles c last l) nothing) ∙ is
