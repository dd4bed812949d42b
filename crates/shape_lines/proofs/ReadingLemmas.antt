-- The lines of what is seen of a text, which is read run by run, each up to a line feed.
use Rattle.std.proofs.Common.{ℕ, suc, ◌≡◌, ◌+◌, ◌-◌, ◌<◌, ◌==◌, List, [], ◌∷◌, ◌++◌, length, take, Bool, true, false}
use Rattle.std.proofs.Common.{Option, None, Some, refl, sym, ap, subst, ◌∙◌, arith, rules, append_assoc, append-nil}
use Rattle.std.proofs.Common.{drop, slice_index, if◌then◌else◌, nat_lt, ◌&&◌, ◌||◌}
use Rattle.std.proofs.Common.{inl, inr}
use Rattle.std.specs.Prelude.{⊤, ◌⊎◌}
use Rattle.std.specs.List.{list_any}
use Rattle.std.proofs.lemmas.List.{length-drop, take_more}
use Rattle.std.proofs.Math.Seq.{take-length, take-append_seam}
use Rattle.std.proofs.lemmas.Bool.Decides.{nat_tests}
use Rattle.std.specs.Io.BufRead.{take_through, drop_through, ends_with_byte}
use Rattle.shape_lines.specs.declared.reading.Reading.{Reading}
use Rattle.shape_lines.specs.declared.reading.Reading.TheVariants.{Whole, Strings}
use Rattle.shape_lines.specs.Lines.{lines_of, with_first, TakesLine}
use Rattle.shape_lines.specs.Reading.{AddsRun, held, room, seen}

-- ---- line feeds

-- no line feed is among bytes
abbrev NoFeed : List ℕ → Type 0
NoFeed [] = ⊤
NoFeed (b ∷ bytes) = ((b == 10) ≡ false) × NoFeed bytes

-- or one at the end alone
abbrev IsRun : List ℕ → Type 0
IsRun bytes = NoFeed bytes ⊎ ((line : List ℕ) × NoFeed line × (bytes ≡ line ++ 10 ∷ []))

is_feed : (b : ℕ) → (b == 10) ≡ true → b ≡ 10
is_feed b e = grind (arith, nat_tests, e)

no_feed-append : (xs ys : List ℕ) → NoFeed xs → NoFeed ys → NoFeed (xs ++ ys)
no_feed-append [] ys p q = q
no_feed-append (x ∷ xs) ys p q = (p.0, no_feed-append xs ys p.1 q)

no_feed-end : (xs : List ℕ) → NoFeed (xs ++ 10 ∷ []) → ⊥
no_feed-end [] p = let bad : (10 == 10) ≡ false = p.0 in cc
no_feed-end (x ∷ xs) p = no_feed-end xs p.1

run-append : (xs ys : List ℕ) → NoFeed xs → IsRun ys → IsRun (xs ++ ys)
run-append xs ys p (inl q) = inl (no_feed-append xs ys p q)
run-append xs ys p (inr q) =
    inr (xs ++ q.0, no_feed-append xs q.0 p q.1, ap (λ l. xs ++ l) q.2 ∙ sym (append_assoc xs q.0 (10 ∷ [])))

-- a byte that is no line feed before a run, if it is seen
run-cons : (hides : Bool) (b : ℕ) (bytes : List ℕ) → (b == 10) ≡ false → IsRun bytes → IsRun (if hides then bytes else b ∷ bytes)
run-cons true b bytes f p = p
run-cons false b bytes f p = run-append (b ∷ []) bytes (f, tt) p

run-feed : (hides : Bool) (b : ℕ) → b ≡ 10 → IsRun (if hides then [] else b ∷ [])
run-feed true b e = inl tt
run-feed false b e = inr ([], tt, ap (λ n. n ∷ []) e)

ends_with_byte-cons : (b : ℕ) (text : List ℕ) → 0 < length text → ends_with_byte 10 (b ∷ text) ≡ ends_with_byte 10 text
ends_with_byte-cons b [] h = absurd (omega (arith, h))
ends_with_byte-cons b (c ∷ rest) h =
    let longer : nat_lt 0 (length (b ∷ c ∷ rest)) ≡ true = grind (arith, nat_tests) in
    let shorter : nat_lt 0 (length (c ∷ rest)) ≡ true = grind (arith, nat_tests) in
    let last : length (b ∷ c ∷ rest) - 1 ≡ suc (length (c ∷ rest) - 1) = omega arith in
    ap (λ v. v && (slice_index (b ∷ c ∷ rest) (length (b ∷ c ∷ rest) - 1) == 10)) (longer ∙ sym shorter)
    ∙ ap (λ n. nat_lt 0 (length (c ∷ rest)) && (slice_index (b ∷ c ∷ rest) n == 10)) last

some-end : (xs : List ℕ) → 0 < length (xs ++ 10 ∷ [])
some-end [] = omega arith
some-end (x ∷ xs) = omega arith

ends-feed : (xs : List ℕ) → ends_with_byte 10 (xs ++ 10 ∷ []) ≡ true
ends-feed [] = refl
ends-feed (x ∷ xs) = ends_with_byte-cons x (xs ++ 10 ∷ []) (some-end xs) ∙ ends-feed xs

without_end : (text : List ℕ) → ends_with_byte 10 text ≡ true → text ≡ take (length text - 1) text ++ 10 ∷ []
without_end [] h = cc
without_end (b ∷ bytes) h =
    let all = b ∷ bytes in
    let last : slice_index all (length all - 1) ≡ 10 = search (rules, h) in
    let below : length all - 1 < length all = omega arith in
    let count : length all - 1 + 1 ≡ length all = omega arith in
    sym (take-length all) ∙ ap (λ n. take n all) (sym count) ∙ take_more all (length all - 1) 0 below
    ∙ ap (λ n. take (length all - 1) all ++ n ∷ []) last

-- a run that does not end with a line feed has none
run-open : (bytes : List ℕ) → IsRun bytes → ends_with_byte 10 bytes ≡ false → NoFeed bytes
run-open bytes (inl p) e = p
run-open bytes (inr p) e =
    let bad : true ≡ false = sym (ends-feed p.0) ∙ ap (ends_with_byte 10) (sym p.2) ∙ e in cc

-- one that does has none before
run-ended : (bytes : List ℕ) → IsRun bytes → ends_with_byte 10 bytes ≡ true → NoFeed (take (length bytes - 1) bytes)
run-ended bytes (inl p) e = absurd (no_feed-end _ (subst NoFeed (without_end bytes e) p))
run-ended bytes (inr p) e = subst (λ l. NoFeed (take (length l - 1) l)) (sym p.2) (subst NoFeed (sym cut) p.1)
  where
    count : (xs : List ℕ) → length (xs ++ 10 ∷ []) - 1 ≡ length xs
    count [] = refl
    count (x ∷ xs) =
        let some : 0 < length (xs ++ 10 ∷ []) = some-end xs in
        let h : length (xs ++ 10 ∷ []) - 1 ≡ length xs = count xs in omega (arith, some, h)

    cut : take (length (p.0 ++ 10 ∷ []) - 1) (p.0 ++ 10 ∷ []) ≡ p.0
    cut = ap (λ n. take n (p.0 ++ 10 ∷ [])) (count p.0) ∙ take-append_seam p.0 (10 ∷ [])

-- ---- what is seen, byte by byte

-- all that stands from a place on
pub take-drop : (start : ℕ) (bytes : List ℕ) → take (length bytes - start) (drop start bytes) ≡ drop start bytes
take-drop start bytes = ap (λ n. take n (drop start bytes)) (sym (length-drop start bytes)) ∙ take-length (drop start bytes)

-- bytes of which none is 0 are seen
pub held-whole : (bytes : List ℕ) (left : ℕ) → list_any (λ y. y == 0) bytes ≡ false → held left false bytes ≡ bytes
held-whole [] left e = refl
held-whole (b ∷ bytes) left e = cases (b == 0) refl (λ l n. held-whole bytes l n)
  where
    same : (v : Bool) → (if v then false else false) ≡ false
    same true = refl
    same false = refl

    cases : (v : Bool) → (b == 0) ≡ v
        → ((left : ℕ) → list_any (λ y. y == 0) bytes ≡ false → held left false bytes ≡ bytes)
        → held left false (b ∷ bytes) ≡ b ∷ bytes
    cases true f ih = let bad : true ≡ false = sym (ap (λ v. v || list_any (λ y. y == 0) bytes) f) ∙ e in cc
    cases false f ih =
        let none : list_any (λ y. y == 0) bytes ≡ false = sym (ap (λ v. v || list_any (λ y. y == 0) bytes) f) ∙ e in
        let ends = (b == 10) || nat_lt left 2 in
        let room_left = if ends then room else left - 1 in
        rw f (ap (λ l. b ∷ l) (subst (λ h. held room_left h bytes ≡ bytes) (sym (same ends)) (ih room_left none)))

-- ---- lines

lines_of-ended : (line more : List ℕ) → NoFeed line → lines_of (line ++ 10 ∷ more) ≡ line ∷ lines_of more
lines_of-ended [] more p = refl
lines_of-ended (b ∷ bytes) more p = rw (p.0) (ap (with_first b) (lines_of-ended bytes more p.1))

lines_of-last : (b : ℕ) (bytes : List ℕ) → NoFeed (b ∷ bytes) → lines_of (b ∷ bytes) ≡ (b ∷ bytes) ∷ []
lines_of-last b [] p = rw (p.0) refl
lines_of-last b (c ∷ bytes) p = rw (p.0) (ap (with_first b) (lines_of-last c bytes p.1))

-- ---- what is seen of a run, and behind it

cut-cons : (hides : Bool) (b : ℕ) (all run rest : List ℕ) → all ≡ run ++ rest
    → (if hides then all else b ∷ all) ≡ (if hides then run else b ∷ run) ++ rest
cut-cons true b all run rest e = e
cut-cons false b all run rest e = ap (λ l. b ∷ l) e

-- a byte that is no line feed, and what stands behind it
held-next : (left : ℕ) (hides : Bool) (b : ℕ) (bytes : List ℕ) → (b == 10) ≡ false
    → held left hides (b ∷ bytes)
    ≡ (if hides || (b == 0) then
    held (if nat_lt left 2 then room else left - 1) (if nat_lt left 2 then false else hides || (b == 0)) bytes
    else b
    ∷ held (if nat_lt left 2 then room else left - 1) (if nat_lt left 2 then false else hides || (b == 0)) bytes)
held-next left hides b bytes f = rw f refl

held-cut : (text : List ℕ) (left : ℕ) (hides : Bool)
    → held left hides text ≡ held left hides (take_through 10 text) ++ held room false (drop_through 10 text)
held-cut [] left hides = refl
held-cut (b ∷ bytes) left hides = cases (b == 10) refl (held-cut bytes)
  where
    cases : (v : Bool) → (b == 10) ≡ v
        → ((left : ℕ) (hides : Bool)
        → held left hides bytes ≡ held left hides (take_through 10 bytes) ++ held room false (drop_through 10 bytes))
        → held left hides (b ∷ bytes)
        ≡ held left hides (take_through 10 (b ∷ bytes)) ++ held room false (drop_through 10 (b ∷ bytes))
    cases true f ih = rw f (cut-cons (hides || (b == 0)) b (held room false bytes) [] (held room false bytes) refl)
    cases false f ih =
        let room_left = if nat_lt left 2 then room else left - 1 in
        let hides_on = if nat_lt left 2 then false else hides || (b == 0) in
        let behind = held room false (drop_through 10 bytes) in
        let taken : take_through 10 (b ∷ bytes) ≡ b ∷ take_through 10 bytes = rw f refl in
        let dropped : drop_through 10 (b ∷ bytes) ≡ drop_through 10 bytes = rw f refl in
        held-next left hides b bytes f
        ∙ cut-cons (hides || (b == 0)) b (held room_left hides_on bytes) (held room_left hides_on (take_through 10 bytes)) behind
        (ih room_left hides_on)
        ∙ ap (λ l. l ++ behind) (sym (held-next left hides b (take_through 10 bytes) f))
        ∙ ap (λ l. held left hides l ++ behind) (sym taken)
        ∙ ap (λ l. held left hides (take_through 10 (b ∷ bytes)) ++ held room false l) (sym dropped)

held-run : (text : List ℕ) (left : ℕ) (hides : Bool) → IsRun (held left hides (take_through 10 text))
held-run [] left hides = inl tt
held-run (b ∷ bytes) left hides = cases (b == 10) refl (held-run bytes)
  where
    cases : (v : Bool) → (b == 10) ≡ v → ((left : ℕ) (hides : Bool) → IsRun (held left hides (take_through 10 bytes)))
        → IsRun (held left hides (take_through 10 (b ∷ bytes)))
    cases true f ih = rw f (run-feed (hides || (b == 0)) b (is_feed b f))
    cases false f ih = rw f (run-cons (hides || (b == 0)) b _ f (ih _ _))

whole-cut : (text : List ℕ) → text ≡ take_through 10 text ++ drop_through 10 text
whole-cut [] = refl
whole-cut (b ∷ bytes) = cases (b == 10) refl (whole-cut bytes)
  where
    cases : (v : Bool) → (b == 10) ≡ v → bytes ≡ take_through 10 bytes ++ drop_through 10 bytes
        → b ∷ bytes ≡ take_through 10 (b ∷ bytes) ++ drop_through 10 (b ∷ bytes)
    cases true f ih = rw f refl
    cases false f ih = rw f (ap (λ l. b ∷ l) ih)

whole-run : (text : List ℕ) → IsRun (take_through 10 text)
whole-run [] = inl tt
whole-run (b ∷ bytes) = cases (b == 10) refl (whole-run bytes)
  where
    cases : (v : Bool) → (b == 10) ≡ v → IsRun (take_through 10 bytes) → IsRun (take_through 10 (b ∷ bytes))
    cases true f ih = rw f (run-feed false b (is_feed b f))
    cases false f ih = rw f (run-cons false b _ f ih)

seen-cut : (reading : Reading) (text : List ℕ)
    → seen reading text ≡ seen reading (take_through 10 text) ++ seen reading (drop_through 10 text)
seen-cut Whole text = whole-cut text
seen-cut Strings text = held-cut text room false

seen-run : (reading : Reading) (text : List ℕ) → IsRun (seen reading (take_through 10 text))
seen-run Whole text = whole-run text
seen-run Strings text = held-run text room false

seen-none : (reading : Reading) → seen reading [] ≡ []
seen-none Whole = refl
seen-none Strings = refl

-- ---- a line is read, run by run

-- so much of the line was read, and not its end
abbrev pub ReadSoFar : Reading → Option (List ℕ) → Option (List ℕ) → List ℕ → Type 0
ReadSoFar reading None now line = ⊤
ReadSoFar reading (Some text) None line = ⊥
ReadSoFar reading (Some text) (Some rest) line = NoFeed line × (seen reading text ≡ line ++ seen reading rest)

-- what is seen of the text is what was read and the rest
seen-all : (reading : Reading) (text middle rest line longer : List ℕ) → seen reading text ≡ line ++ seen reading middle
    → rest ≡ drop_through 10 middle → longer ≡ line ++ seen reading (take_through 10 middle)
    → seen reading text ≡ longer ++ seen reading rest
seen-all reading text middle rest line longer e r l =
    e ∙ ap (λ s. line ++ s) (seen-cut reading middle)
    ∙ sym (append_assoc line (seen reading (take_through 10 middle)) (seen reading (drop_through 10 middle)))
    ∙ ap (λ s. s ++ seen reading (drop_through 10 middle)) (sym l) ∙ ap (λ s. longer ++ seen reading s) (sym r)

-- the line goes on
pub read-more : (reading : Reading) (a b c : Option (List ℕ)) (line longer : List ℕ) → ReadSoFar reading a b line
    → AddsRun reading true b c line longer → ends_with_byte 10 longer ≡ false → ReadSoFar reading a c longer
read-more reading None b c line longer p r e = tt
read-more reading (Some text) None c line longer p r e = absurd p
read-more reading (Some text) (Some middle) None line longer p r e = absurd r
read-more reading (Some text) (Some middle) (Some rest) line longer p r e = (
  run-open longer
      (subst IsRun (sym r.1) (run-append line (seen reading (take_through 10 middle)) p.0 (seen-run reading middle))) e,
  seen-all reading text middle rest line longer p.1 r.0 r.1,
)

-- the line ends
pub read-end : (reading : Reading) (a b c : Option (List ℕ)) (line longer : List ℕ) → ReadSoFar reading a b line
    → AddsRun reading true b c line longer → ends_with_byte 10 longer ≡ true
    → TakesLine reading true a c (take (length longer - 1) longer)
read-end reading None b c line longer p r e = tt
read-end reading (Some text) None c line longer p r e = absurd p
read-end reading (Some text) (Some middle) None line longer p r e = absurd r
read-end reading (Some text) (Some middle) (Some rest) line longer p r e =
    let whole = take (length longer - 1) longer in
    let is_run : IsRun longer =
    subst IsRun (sym r.1) (run-append line (seen reading (take_through 10 middle)) p.0 (seen-run reading middle)) in
    ap lines_of (seen-all reading text middle rest line longer p.1 r.0 r.1
    ∙ ap (λ s. s ++ seen reading rest) (without_end longer e) ∙ append_assoc whole (10 ∷ []) (seen reading rest))
    ∙ lines_of-ended whole (seen reading rest) (run-ended longer is_run e)

-- the text ends
pub read-last : (reading : Reading) (a b c : Option (List ℕ)) (line same : List ℕ) (found : Bool) → ReadSoFar reading a b line
    → AddsRun reading false b c line same → found ≡ nat_lt 0 (length same) → TakesLine reading found a c same
read-last reading None b c line same found p r e = tt
read-last reading (Some text) None c line same found p r e = absurd p
read-last reading (Some text) (Some middle) None line same found p r e = absurd r
read-last reading (Some text) (Some middle) (Some rest) line same found p r e =
    subst (λ s. found ≡ nat_lt 0 (length s) → TakesLine reading found (Some text) (Some rest) s) (sym r.2)
    (λ v. subst (λ w. TakesLine reading w (Some text) (Some rest) line) (sym v) (last line p.0 all)) e
  where
    all : seen reading text ≡ line
    all = p.1 ∙ ap (λ s. line ++ seen reading s) r.0 ∙ ap (λ s. line ++ s) (seen-none reading) ∙ append-nil line

    last : (line : List ℕ) → NoFeed line → seen reading text ≡ line
        → TakesLine reading (nat_lt 0 (length line)) (Some text) (Some rest) line
    last [] n q = (q, r.1)
    last (b ∷ bytes) n q =
        let some : nat_lt 0 (length (b ∷ bytes)) ≡ true = grind (arith, nat_tests) in
        subst (λ w. TakesLine reading w (Some text) (Some rest) (b ∷ bytes)) (sym some)
        (ap lines_of q ∙ lines_of-last b bytes n
        ∙ ap (λ s. (b ∷ bytes) ∷ lines_of s) (sym (seen-none reading) ∙ ap (seen reading) (sym r.1)))
