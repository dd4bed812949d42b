-- One more glyph, at the end of the written text.
use Rattle.std.proofs.Common.{◌≡◌, ℕ, zero, suc, ◌+◌, ◌*◌, ◌<◌, ◌≤◌, cond, List, [], ◌∷◌, ◌++◌, length, take, map}
use Rattle.std.proofs.Common.{get_or, refl, ap, sym, ◌∙◌, arith, append_assoc}
use Rattle.std.proofs.lemmas.List.{take_more, length-take-le, take_all, append-nil}
use Rattle.std.proofs.lemmas.Slice.Zip.{get_or-zip, length-zip}
use Rattle.std.specs.Prelude.{ℤ, pos, ◌+ℤ◌, nat_abs, Bool, true, false}
use Rattle.std.specs.List.{zip, join_with_byte}
use Rattle.rb_glyph.specs.declared.flag_sets.SerializeFlags.{SerializeFlags}
use Rattle.rb_glyph.specs.declared.flag_sets.TheConstants.SerializeFlags.{NO_POSITIONS, NO_ADVANCES}
use Rattle.rb_glyph.specs.declared.info.hb_glyph_info_t.{hb_glyph_info_t}
use Rattle.rb_glyph.specs.declared.position.GlyphPosition.{GlyphPosition}
use Rattle.glyph_text.specs.declared.parts.Pen.{Pen}
use Rattle.glyph_text.specs.Text.{Font, has, glyph_text, glyph_texts, glyphs_text, x_advances, y_advances}
use Rattle.glyph_text.specs.Text.{bar_before, offset_text, advance_text, position_text}

-- what stands for a glyph and for a position where there is none
abbrev pub no_glyph : hb_glyph_info_t
no_glyph = record { glyph_id = 0; mask = 0; cluster = 0; var1 = 0; var2 = 0 }

abbrev pub no_position : GlyphPosition
no_position = record { x_advance = pos 0; y_advance = pos 0; x_offset = pos 0; y_offset = pos 0; var = 0 }

-- the glyphs before i are written, and under `NO_ADVANCES` their advances are summed
pub record Written (font : Font) (flags : SerializeFlags) (infos : List hb_glyph_info_t)
    (positions : List GlyphPosition) (i : ℕ) (text : List ℕ) (pen : Pen) : Type 0 where
  pub written : text ≡ glyphs_text font flags (take i (zip infos positions))
  pub x : has flags NO_ADVANCES ≡ true → pen.x ≡ x_advances (take i positions)
  pub y : has flags NO_ADVANCES ≡ true → pen.y ≡ y_advances (take i positions)
  pub x_near : nat_abs pen.x ≤ i * 2147483648
  pub y_near : nat_abs pen.y ≤ i * 2147483648

-- a bar and the five pieces of a glyph, one after another
pub pieces_more : (old headed placed flagged now bar name cluster position flags extents : List ℕ)
    → headed ≡ old ++ bar ++ name ++ cluster → placed ≡ headed ++ position → flagged ≡ placed ++ flags
    → now ≡ flagged ++ extents
    → now ≡ (old ++ bar) ++ (name ++ cluster ++ position ++ flags ++ extents)
pieces_more old headed placed flagged now bar name cluster position flags extents h p f e =
    let a = old ++ bar in
    e ∙ ap (λ l. l ++ extents) (f ∙ ap (λ l. l ++ flags) (p ∙ ap (λ l. l ++ position) h))
    ∙ ap (λ l. ((l ++ position) ++ flags) ++ extents) (append_assoc a name cluster)
    ∙ ap (λ l. (l ++ flags) ++ extents) (append_assoc a (name ++ cluster) position)
    ∙ ap (λ l. l ++ extents) (append_assoc a (name ++ cluster ++ position) flags)
    ∙ append_assoc a (name ++ cluster ++ position ++ flags) extents

cond-chosen : (b : Bool) (f : ℤ → ℤ → List ℕ) (other : List ℕ) (x y u v : ℤ) → (b ≡ true → x ≡ u) → (b ≡ true → y ≡ v)
    → cond b (f x y) other ≡ cond b (f u v) other
cond-chosen true f other x y u v e g = ap (λ x. f x y) (e refl) ∙ ap (λ y. f u y) (g refl)
cond-chosen false f other x y u v e g = refl

-- the sums of the advances are written only under `NO_ADVANCES`
pub position_text-same : (flags : SerializeFlags) (x y u v : ℤ) (p : GlyphPosition)
    → (has flags NO_ADVANCES ≡ true → x ≡ u)
    → (has flags NO_ADVANCES ≡ true → y ≡ v)
    → position_text flags x y p ≡ position_text flags u v p
position_text-same flags x y u v p e g =
    ap (λ text. cond (has flags NO_POSITIONS) [] text)
    (cond-chosen (has flags NO_ADVANCES) (λ x y. offset_text (x +ℤ p.x_offset) (y +ℤ p.y_offset))
    (offset_text p.x_offset p.y_offset ++ advance_text p.x_advance p.y_advance) x y u v e g)

join_with_byte-more : (x : List ℕ) (xs : List (List ℕ)) (piece : List ℕ)
    → join_with_byte 124 ((x ∷ xs) ++ piece ∷ []) ≡ (join_with_byte 124 (x ∷ xs) ++ 124 ∷ []) ++ piece
join_with_byte-more x [] piece = sym (append_assoc x (124 ∷ []) piece)
join_with_byte-more x (y ∷ xs) piece =
    let rest = join_with_byte 124 (y ∷ xs) in
    ap (λ l. x ++ 124 ∷ l) (join_with_byte-more y xs piece)
    ∙ sym (append_assoc x (124 ∷ (rest ++ 124 ∷ [])) piece)
    ∙ ap (λ l. l ++ piece) (sym (append_assoc x (124 ∷ rest) (124 ∷ [])))

-- the pieces before i, a bar, and the piece at i
pub join_with_byte-push : (pieces : List (List ℕ)) (i : ℕ) (piece : List ℕ) → length pieces ≡ i
    → join_with_byte 124 (pieces ++ piece ∷ []) ≡ (join_with_byte 124 pieces ++ bar_before i) ++ piece
join_with_byte-push [] zero piece n = refl
join_with_byte-push [] (suc i) piece n = absurd (omega arith)
join_with_byte-push (x ∷ xs) zero piece n = absurd (omega arith)
join_with_byte-push (x ∷ xs) (suc i) piece n = join_with_byte-more x xs piece

pub glyph_texts-push : (font : Font) (flags : SerializeFlags) (earlier : List GlyphPosition)
    (gs : List (hb_glyph_info_t × GlyphPosition)) (g : hb_glyph_info_t × GlyphPosition)
    → glyph_texts font flags earlier (gs ++ g ∷ []) ≡ glyph_texts font flags earlier gs
    ++ glyph_text font flags (earlier ++ map (λ g. g.1) gs) g ∷ []
glyph_texts-push font flags earlier [] g = ap (λ ps. glyph_text font flags ps g ∷ []) (sym (append-nil earlier))
glyph_texts-push font flags earlier (h ∷ gs) g =
    ap (λ l. glyph_text font flags earlier h ∷ l)
    (glyph_texts-push font flags (earlier ++ h.1 ∷ []) gs g
    ∙ ap (λ ps. glyph_texts font flags (earlier ++ h.1 ∷ []) gs ++ glyph_text font flags ps g ∷ [])
    (append_assoc earlier (h.1 ∷ []) (map (λ g. g.1) gs)))

pub length-glyph_texts : (font : Font) (flags : SerializeFlags) (earlier : List GlyphPosition)
    (gs : List (hb_glyph_info_t × GlyphPosition)) → length (glyph_texts font flags earlier gs) ≡ length gs
length-glyph_texts font flags earlier [] = refl
length-glyph_texts font flags earlier (g ∷ gs) = ap suc (length-glyph_texts font flags (earlier ++ g.1 ∷ []) gs)

-- the positions of the first glyphs
map-positions_take : (infos : List hb_glyph_info_t) (positions : List GlyphPosition) (i : ℕ)
    → length positions ≡ length infos → i ≤ length infos
    → map (λ g. g.1) (take i (zip infos positions)) ≡ take i positions
map-positions_take infos positions zero n h = refl
map-positions_take [] [] (suc i) n h = refl
map-positions_take [] (p ∷ ps) (suc i) n h = absurd (omega arith)
map-positions_take (g ∷ gs) [] (suc i) n h = absurd (omega arith)
map-positions_take (g ∷ gs) (p ∷ ps) (suc i) n h =
    ap (λ l. p ∷ l) (map-positions_take gs ps i (omega arith) (omega arith))

pub glyphs_text-more : (font : Font) (flags : SerializeFlags) (infos : List hb_glyph_info_t)
    (positions : List GlyphPosition)
    (i : ℕ) (d : hb_glyph_info_t) (e : GlyphPosition) → i < length infos → length positions ≡ length infos
    → glyphs_text font flags (take (i + 1) (zip infos positions))
    ≡ (glyphs_text font flags (take i (zip infos positions)) ++ bar_before i)
    ++ glyph_text font flags (take i positions) (get_or infos i d, get_or positions i e)
glyphs_text-more font flags infos positions i d e h n =
    let gs = zip infos positions in
    let zipped : i < length gs = omega (arith, length-zip infos positions) in
    let g = get_or gs i (d, e) in
    let front = take i gs in
    ap (glyphs_text font flags) (take_more gs i (d, e) zipped)
    ∙ ap (join_with_byte 124) (glyph_texts-push font flags [] front g)
    ∙ join_with_byte-push (glyph_texts font flags [] front) i (glyph_text font flags (map (λ g. g.1) front) g)
    (length-glyph_texts font flags [] front ∙ length-take-le i gs (omega (arith, zipped)))
    ∙ ap (λ ps. (glyphs_text font flags front ++ bar_before i) ++ glyph_text font flags ps g)
    (map-positions_take infos positions i n (omega arith))
    ∙ ap (λ p. (glyphs_text font flags front ++ bar_before i) ++ glyph_text font flags (take i positions) p)
    (get_or-zip infos positions i (d, e) h (omega arith))

pub glyphs_text_all : (font : Font) (flags : SerializeFlags) (infos : List hb_glyph_info_t)
    (positions : List GlyphPosition)
    (i : ℕ) → length infos ≤ i
    → glyphs_text font flags (take i (zip infos positions)) ≡ glyphs_text font flags (zip infos positions)
glyphs_text_all font flags infos positions i h =
    ap (glyphs_text font flags) (take_all i (zip infos positions) (omega (arith, length-zip infos positions)))
