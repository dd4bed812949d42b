-- A glyph's text with what follows it is read one way, and so is the text of a list of glyphs.
use Rattle.std.proofs.Common.{◌≡◌, ℕ, ◌+◌, ◌^◌, ◌<◌, ◌≤◌, Bool, true, false, cond, List, [], ◌∷◌, ◌++◌, length, map}
use Rattle.std.proofs.Common.{drop, refl, ap, sym, ◌∙◌, arith, append_assoc}
use Rattle.std.specs.Prelude.{⊤, ℤ, pos, ◌==◌, ◌≢◌, ◌&&◌, bit_and, nat_abs}
use Rattle.std.specs.Fmt.{decimal, signed_decimal}
use Rattle.std.specs.List.{All, join_with_byte}
use Rattle.std.specs.Ordering.{int_eq}
use Rattle.std.proofs.lemmas.Fmt.{decimal_nonempty}
use Rattle.std.proofs.lemmas.List.{append-nil, length-append}
use Rattle.std.proofs.lemmas.List.Elements.{All-head, All-tail}
use Rattle.std.proofs.lemmas.Nat.{and_le_r}
use Rattle.rb_glyph.specs.declared.glyph_flag.TheConstants.{DEFINED}
use Rattle.rb_glyph.specs.declared.info.hb_glyph_info_t.{hb_glyph_info_t}
use Rattle.rb_glyph.specs.declared.position.GlyphPosition.{GlyphPosition}
use Rattle.glyph_text.specs.Text.{Font, glyph_text, glyph_texts, glyphs_text}
use Rattle.glyph_text.specs.TextReading.{Told, numbers_and_flags, told_of, FitsItsFields}
use Rattle.glyph_text.proofs.ReadingLemmas.{is_digit, Stops, NotFirst, decimal_read, signed_read, optional_read}

abbrev pub Glyph : Type 0
Glyph = hb_glyph_info_t × GlyphPosition

-- ---- what may follow

-- nothing, or a bar
abbrev Ends : List ℕ → Type 0
Ends [] = ⊤
Ends (c ∷ cs) = c ≡ 124

Stops-ends : (r : List ℕ) → Ends r → Stops r
Stops-ends [] e = tt
Stops-ends (c ∷ cs) e = rw e refl

NotFirst-ends : (b : ℕ) (r : List ℕ) → 124 ≢ b → Ends r → NotFirst b r
NotFirst-ends b [] n e = tt
NotFirst-ends b (c ∷ cs) n e = λ f. n (sym e ∙ f)

Stops-optional : (absent : Bool) (b : ℕ) (t r : List ℕ) → is_digit b ≡ false → Stops r
    → Stops (cond absent [] (b ∷ t) ++ r)
Stops-optional true b t r d h = h
Stops-optional false b t r d h = d

NotFirst-optional : (absent : Bool) (a b : ℕ) (t r : List ℕ) → b ≢ a → NotFirst a r
    → NotFirst a (cond absent [] (b ∷ t) ++ r)
NotFirst-optional true a b t r n h = h
NotFirst-optional false a b t r n h = n

-- ---- the values at which a part is absent

int_eq-zero : (z : ℤ) → int_eq z (pos 0) ≡ true → z ≡ pos 0
int_eq-zero z e = grind arith

both_zero : (z : ℤ × ℤ) → (int_eq z.0 (pos 0) && int_eq z.1 (pos 0)) ≡ true → z ≡ (pos 0, pos 0)
both_zero z e = grind (arith, int_eq-zero)

nat_eq-zero : (n : ℕ) → (n == 0) ≡ true → n ≡ 0
nat_eq-zero n e = grind arith

-- ---- the parts

abbrev point_text : ℤ × ℤ → List ℕ
point_text z = signed_decimal z.0 ++ 44 ∷ signed_decimal z.1

point_read : (y z : ℤ × ℤ) (r s : List ℕ) → nat_abs y.0 ≤ 2 ^ 31 → nat_abs y.1 ≤ 2 ^ 31 → nat_abs z.0 ≤ 2 ^ 31
    → nat_abs z.1 ≤ 2 ^ 31 → Stops r → Stops s
    → point_text y ++ r ≡ point_text z ++ s → (y ≡ z) × (r ≡ s)
point_read y z r s f0 f1 g0 g1 h k e =
    let first = signed_read y.0 z.0 (44 ∷ signed_decimal y.1 ++ r) (44 ∷ signed_decimal z.1 ++ s) f0 g0 refl refl
    (sym (append_assoc (signed_decimal y.0) (44 ∷ signed_decimal y.1) r) ∙ e
    ∙ append_assoc (signed_decimal z.0) (44 ∷ signed_decimal z.1) s) in
    let second = signed_read y.1 z.1 r s f1 g1 h k (ap (drop 1) first.1) in
    (ap (λ x. (x, y.1)) first.0 ∙ ap (λ x. (z.0, x)) second.0, second.1)

-- a glyph's text, one part after another
append-spread : (id cluster offset x y flags r : List ℕ)
    → (id ++ 61 ∷ cluster ++ (offset ++ (43 ∷ x ++ y)) ++ flags ++ []) ++ r
    ≡ id ++ 61 ∷ (cluster ++ (offset ++ 43 ∷ (x ++ (y ++ (flags ++ r)))))
append-spread id cluster offset x y flags r =
    let position = offset ++ (43 ∷ x ++ y) in
    ap (λ l. l ++ r) (append-nil (id ++ 61 ∷ cluster ++ position ++ flags))
    ∙ append_assoc (id ++ 61 ∷ cluster ++ position) flags r
    ∙ append_assoc (id ++ 61 ∷ cluster) position (flags ++ r)
    ∙ append_assoc id (61 ∷ cluster) (position ++ (flags ++ r))
    ∙ ap (λ l. id ++ 61 ∷ (cluster ++ l)) (append_assoc offset (43 ∷ x ++ y) (flags ++ r)
    ∙ ap (λ l. offset ++ l) (append_assoc (43 ∷ x) y (flags ++ r)))

abbrev offset_part : Glyph → List ℕ
offset_part g =
    cond (int_eq g.1.x_offset (pos 0) && int_eq g.1.y_offset (pos 0)) [] (64 ∷ point_text (g.1.x_offset, g.1.y_offset))

abbrev y_part : Glyph → List ℕ
y_part g = cond (int_eq g.1.y_advance (pos 0)) [] (44 ∷ signed_decimal g.1.y_advance)

abbrev flags_part : Glyph → List ℕ
flags_part g = cond (bit_and g.0.mask DEFINED == 0) [] (35 ∷ decimal (bit_and g.0.mask DEFINED))

abbrev parts : Glyph → List ℕ → List ℕ
parts g r = decimal g.0.glyph_id ++ 61 ∷ (decimal g.0.cluster
    ++ (offset_part g ++ 43 ∷ (signed_decimal g.1.x_advance ++ (y_part g ++ (flags_part g ++ r)))))

append-glyph_text : (font : Font) (earlier : List GlyphPosition) (g : Glyph) (r : List ℕ)
    → glyph_text font numbers_and_flags earlier g ++ r ≡ parts g r
append-glyph_text font earlier g r =
    append-spread (decimal g.0.glyph_id) (decimal g.0.cluster) (offset_part g) (signed_decimal g.1.x_advance) (y_part g)
    (flags_part g) r

told_of-equal : (a b : Glyph) → a.0.glyph_id ≡ b.0.glyph_id → a.0.cluster ≡ b.0.cluster → a.1.x_offset ≡ b.1.x_offset
    → a.1.y_offset ≡ b.1.y_offset
    → a.1.x_advance ≡ b.1.x_advance → a.1.y_advance ≡ b.1.y_advance
    → bit_and a.0.mask DEFINED ≡ bit_and b.0.mask DEFINED → told_of a ≡ told_of b
told_of-equal a b id cluster x_offset y_offset x_advance y_advance flags =
    rw id (rw cluster (rw x_offset (rw y_offset (rw x_advance (rw y_advance (rw flags refl))))))

glyph_flags_small : (g : Glyph) → bit_and g.0.mask DEFINED < 2 ^ 64
glyph_flags_small g = omega (arith, and_le_r g.0.mask DEFINED)

glyph_read : (a b : Glyph) (r s : List ℕ) → FitsItsFields a → FitsItsFields b → Ends r → Ends s → parts a r ≡ parts b s
    → (told_of a ≡ told_of b) × (r ≡ s)
glyph_read a b r s f g h k e =
    let flags_a = flags_part a ++ r in
    let flags_b = flags_part b ++ s in
    let y_a = y_part a ++ flags_a in
    let y_b = y_part b ++ flags_b in
    let flags_stop_a : Stops flags_a = Stops-optional _ 35 _ r refl (Stops-ends r h) in
    let flags_stop_b : Stops flags_b = Stops-optional _ 35 _ s refl (Stops-ends s k) in
    let y_stop_a : Stops y_a = Stops-optional _ 44 _ flags_a refl flags_stop_a in
    let y_stop_b : Stops y_b = Stops-optional _ 44 _ flags_b refl flags_stop_b in
    let rest_a = 43 ∷ (signed_decimal a.1.x_advance ++ y_a) in
    let rest_b = 43 ∷ (signed_decimal b.1.x_advance ++ y_b) in
    let id = decimal_read a.0.glyph_id b.0.glyph_id (61 ∷ (decimal a.0.cluster ++ (offset_part a ++ rest_a)))
    (61 ∷ (decimal b.0.cluster ++ (offset_part b ++ rest_b)))
    (omega (arith, f.glyph_id)) (omega (arith, g.glyph_id)) refl refl e in
    let cluster = decimal_read a.0.cluster b.0.cluster (offset_part a ++ rest_a) (offset_part b ++ rest_b)
    (omega (arith, f.cluster)) (omega (arith, g.cluster)) (Stops-optional _ 64 _ rest_a refl refl)
    (Stops-optional _ 64 _ rest_b refl refl) (ap (drop 1) id.1) in
    let offset = optional_read (λ (z : ℤ × ℤ). int_eq z.0 (pos 0) && int_eq z.1 (pos 0)) point_text (pos 0, pos 0)
    (a.1.x_offset, a.1.y_offset) (b.1.x_offset, b.1.y_offset) 64 rest_a rest_b
    both_zero (λ x. absurd (omega (arith, x))) (λ x. absurd (omega (arith, x)))
    (point_read (a.1.x_offset, a.1.y_offset) (b.1.x_offset, b.1.y_offset) rest_a rest_b f.x_offset f.y_offset g.x_offset
    g.y_offset refl refl) cluster.1 in
    let x = signed_read a.1.x_advance b.1.x_advance y_a y_b f.x_advance g.x_advance y_stop_a y_stop_b
    (ap (drop 1) offset.1) in
    let y = optional_read (λ (z : ℤ). int_eq z (pos 0)) signed_decimal (pos 0) a.1.y_advance b.1.y_advance 44 flags_a
    flags_b
    int_eq-zero (NotFirst-optional _ 44 35 _ r (λ x. absurd (omega (arith, x)))
    (NotFirst-ends 44 r (λ x. absurd (omega (arith, x))) h))
    (NotFirst-optional _ 44 35 _ s (λ x. absurd (omega (arith, x)))
    (NotFirst-ends 44 s (λ x. absurd (omega (arith, x))) k))
    (signed_read a.1.y_advance b.1.y_advance flags_a flags_b f.y_advance g.y_advance flags_stop_a flags_stop_b) x.1 in
    let flags = optional_read (λ (n : ℕ). n == 0) decimal 0 (bit_and a.0.mask DEFINED) (bit_and b.0.mask DEFINED) 35 r s
    nat_eq-zero (NotFirst-ends 35 r (λ x. absurd (omega (arith, x))) h)
    (NotFirst-ends 35 s (λ x. absurd (omega (arith, x))) k)
    (decimal_read (bit_and a.0.mask DEFINED) (bit_and b.0.mask DEFINED) r s (glyph_flags_small a) (glyph_flags_small b)
    (Stops-ends r h) (Stops-ends s k)) y.1 in (
      told_of-equal a b id.0 cluster.0 (ap (λ (z : ℤ × ℤ). z.0) offset.0) (ap (λ (z : ℤ × ℤ). z.1) offset.0) x.0 y.0
          flags.0,
      flags.1,
    )

-- ---- the list

-- what stands after a piece
abbrev after_piece : List (List ℕ) → List ℕ
after_piece [] = []
after_piece (x ∷ xs) = 124 ∷ join_with_byte 124 (x ∷ xs)

join_with_byte-cons : (x : List ℕ) (xs : List (List ℕ)) → join_with_byte 124 (x ∷ xs) ≡ x ++ after_piece xs
join_with_byte-cons x [] = sym (append-nil x)
join_with_byte-cons x (y ∷ xs) = refl

Ends-after_piece : (xs : List (List ℕ)) → Ends (after_piece xs)
Ends-after_piece [] = tt
Ends-after_piece (x ∷ xs) = refl

join_with_byte-after_piece : (xs ys : List (List ℕ)) → after_piece xs ≡ after_piece ys
    → join_with_byte 124 xs ≡ join_with_byte 124 ys
join_with_byte-after_piece [] [] e = refl
join_with_byte-after_piece [] (y ∷ ys) e = absurd (omega (arith, ap length e))
join_with_byte-after_piece (x ∷ xs) [] e = absurd (omega (arith, ap length e))
join_with_byte-after_piece (x ∷ xs) (y ∷ ys) e = ap (drop 1) e

not_empty : (g : Glyph) (r : List ℕ) → FitsItsFields g → 0 < length (parts g r)
not_empty g r f =
    let rest = 61 ∷ (decimal g.0.cluster
    ++ (offset_part g ++ 43 ∷ (signed_decimal g.1.x_advance ++ (y_part g ++ (flags_part g ++ r))))) in
    let long : length (parts g r) ≡ length (decimal g.0.glyph_id) + length rest =
    length-append (decimal g.0.glyph_id) rest in
    omega (arith, long, decimal_nonempty g.0.glyph_id (omega (arith, f.glyph_id)))

-- the text of a glyph and those after it
join_with_byte-glyph_texts : (font : Font) (earlier : List GlyphPosition) (g : Glyph) (gs : List Glyph)
    → join_with_byte 124 (glyph_texts font numbers_and_flags earlier (g ∷ gs))
    ≡ parts g (after_piece (glyph_texts font numbers_and_flags (earlier ++ g.1 ∷ []) gs))
join_with_byte-glyph_texts font earlier g gs =
    let later = glyph_texts font numbers_and_flags (earlier ++ g.1 ∷ []) gs in
    join_with_byte-cons (glyph_text font numbers_and_flags earlier g) later
    ∙ append-glyph_text font earlier g (after_piece later)

map-told_of_texts : (font other : Font) (p q : List GlyphPosition) (xs ys : List Glyph) → All FitsItsFields xs
    → All FitsItsFields ys
    → join_with_byte 124 (glyph_texts font numbers_and_flags p xs)
    ≡ join_with_byte 124 (glyph_texts other numbers_and_flags q ys) → map told_of xs ≡ map told_of ys
map-told_of_texts font other p q [] [] f g e = refl
map-told_of_texts font other p q [] (b ∷ ys) f g e =
    absurd (omega (
      arith,
      ap length (e ∙ join_with_byte-glyph_texts other q b ys),
      not_empty b (after_piece (glyph_texts other numbers_and_flags (q ++ b.1 ∷ []) ys))
          (All-head FitsItsFields b ys g),
    ))
map-told_of_texts font other p q (a ∷ xs) [] f g e =
    absurd (omega (
      arith,
      ap length (sym e ∙ join_with_byte-glyph_texts font p a xs),
      not_empty a (after_piece (glyph_texts font numbers_and_flags (p ++ a.1 ∷ []) xs))
          (All-head FitsItsFields a xs f),
    ))
map-told_of_texts font other p q (a ∷ xs) (b ∷ ys) f g e =
    let later_a = glyph_texts font numbers_and_flags (p ++ a.1 ∷ []) xs in
    let later_b = glyph_texts other numbers_and_flags (q ++ b.1 ∷ []) ys in
    let first = glyph_read a b (after_piece later_a) (after_piece later_b) (All-head FitsItsFields a xs f)
    (All-head FitsItsFields b ys g) (Ends-after_piece later_a) (Ends-after_piece later_b)
    (sym (join_with_byte-glyph_texts font p a xs) ∙ e ∙ join_with_byte-glyph_texts other q b ys) in
    ap (λ t. t ∷ map told_of xs) first.0
    ∙ ap (λ l. told_of b ∷ l) (map-told_of_texts font other (p ++ a.1 ∷ []) (q ++ b.1 ∷ []) xs ys
    (All-tail FitsItsFields a xs f) (All-tail FitsItsFields b ys g)
    (join_with_byte-after_piece later_a later_b first.1))

pub map-told_of_equal_texts : (font other : Font) (xs ys : List Glyph) → All FitsItsFields xs → All FitsItsFields ys
    → glyphs_text font numbers_and_flags xs ≡ glyphs_text other numbers_and_flags ys → map told_of xs ≡ map told_of ys
map-told_of_equal_texts font other xs ys f g e = map-told_of_texts font other [] [] xs ys f g e

-- ---- what is not read

-- the text of what is told of a glyph
abbrev text_of_told : Told → List ℕ
text_of_told t =
    decimal t.glyph_id ++ 61 ∷ decimal t.cluster
    ++ (cond (int_eq t.x_offset (pos 0) && int_eq t.y_offset (pos 0)) [] (64 ∷ point_text (t.x_offset, t.y_offset))
    ++ (43 ∷ signed_decimal t.x_advance ++ cond (int_eq t.y_advance (pos 0)) [] (44 ∷ signed_decimal t.y_advance)))
    ++ cond (t.glyph_flags == 0) [] (35 ∷ decimal t.glyph_flags)
    ++ []

glyph_texts-told : (font : Font) (earlier : List GlyphPosition) (gs : List Glyph)
    → glyph_texts font numbers_and_flags earlier gs ≡ map text_of_told (map told_of gs)
glyph_texts-told font earlier [] = refl
glyph_texts-told font earlier (g ∷ gs) =
    ap (λ l. text_of_told (told_of g) ∷ l) (glyph_texts-told font (earlier ++ g.1 ∷ []) gs)

pub glyphs_text-equal : (font other : Font) (xs ys : List Glyph) → map told_of xs ≡ map told_of ys
    → glyphs_text font numbers_and_flags xs ≡ glyphs_text other numbers_and_flags ys
glyphs_text-equal font other xs ys e =
    ap (join_with_byte 124) (glyph_texts-told font [] xs ∙ ap (map text_of_told) e ∙ sym (glyph_texts-told other [] ys))
