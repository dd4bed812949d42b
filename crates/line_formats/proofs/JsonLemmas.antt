-- One more object, at the end of what is written.
use Rattle.std.proofs.Common.{◌≡◌, ℕ, zero, suc, ◌+◌, ◌*◌, ◌<◌, ◌≤◌, List, [], ◌∷◌, ◌++◌, length, drop, get_or}
use Rattle.std.proofs.Common.{ap, sym, ◌∙◌, refl, arith, append_assoc, append-nil, add-one, drop-cons}
use Rattle.std.proofs.lemmas.Slice.Zip.{get_or-zip, length-zip}
use Rattle.std.specs.Prelude.{ℤ, pos, nat_abs}
use Rattle.std.specs.List.{zip}
use Rattle.rb_glyph.specs.declared.flag_sets.SerializeFlags.{SerializeFlags}
use Rattle.rb_glyph.specs.declared.info.hb_glyph_info_t.{hb_glyph_info_t}
use Rattle.rb_glyph.specs.declared.position.GlyphPosition.{GlyphPosition}
use Rattle.glyph_text.specs.declared.parts.Pen.{Pen}
use Rattle.glyph_text.specs.Text.{Font, moved}
use Rattle.line_formats.specs.Json.{comma_before, object, objects_from, glyphs_json}

-- what stands for a glyph and for a position where there is none
abbrev pub no_glyph : hb_glyph_info_t
no_glyph = record { glyph_id = 0; mask = 0; cluster = 0; var1 = 0; var2 = 0 }

abbrev pub no_position : GlyphPosition
no_position = record { x_advance = pos 0; y_advance = pos 0; x_offset = pos 0; y_offset = pos 0; var = 0 }

-- the objects of the glyphs before i are written, and those that are left come behind them
pub record Written (font : Font) (flags : SerializeFlags) (infos : List hb_glyph_info_t)
    (positions : List GlyphPosition) (i : ℕ) (text : List ℕ) (pen : Pen) : Type 0 where
  pub left : text ++ objects_from font flags i pen.x pen.y (drop i (zip infos positions))
      ≡ glyphs_json font flags (zip infos positions)
  pub x_near : nat_abs pen.x ≤ i * 2147483648
  pub y_near : nat_abs pen.y ≤ i * 2147483648

-- nothing is left behind the end
pub drop_all : {A : Type 0} (i : ℕ) (l : List A) → length l ≤ i → drop i l ≡ []
drop_all zero [] h = refl
drop_all (suc i) [] h = refl
drop_all zero (x ∷ xs) h = absurd (omega arith)
drop_all (suc i) (x ∷ xs) h = drop_all i xs (omega arith)

-- the pieces of an object, one after another
pub pieces : (old headed placed now comma name cluster place advance flags extents close : List ℕ)
    → headed ≡ old ++ comma ++ name ++ cluster → placed ≡ headed ++ place ++ advance
    → now ≡ placed ++ flags ++ extents ++ close
    → now ≡ old ++ (comma ++ (name ++ cluster ++ (place ++ advance) ++ (flags ++ extents ++ close)))
pieces old headed placed now comma name cluster place advance flags extents close h p e =
    let a = old ++ comma in
    let head = name ++ cluster in
    let middle = place ++ advance in
    let tail = flags ++ extents ++ close in
    let headed_is : headed ≡ a ++ head = h ∙ append_assoc a name cluster in
    let placed_is : placed ≡ headed ++ middle = p ∙ append_assoc headed place advance in
    let now_is : now ≡ placed ++ tail =
    e ∙ ap (λ l. l ++ close) (append_assoc placed flags extents) ∙ append_assoc placed (flags ++ extents) close in
    now_is ∙ ap (λ l. l ++ tail) (placed_is ∙ ap (λ l. l ++ middle) headed_is)
    ∙ ap (λ l. l ++ tail) (append_assoc a head middle) ∙ append_assoc a (head ++ middle) tail
    ∙ append_assoc old comma (head ++ middle ++ tail)

-- the first of the objects that are left
pub objects_from-first : (font : Font) (flags : SerializeFlags) (infos : List hb_glyph_info_t)
    (positions : List GlyphPosition) (i : ℕ) (x y : ℤ) (d : hb_glyph_info_t) (e : GlyphPosition)
    → i < length infos → length positions ≡ length infos
    → objects_from font flags i x y (drop i (zip infos positions))
    ≡ (comma_before i ++ object font flags x y (get_or infos i d, get_or positions i e))
    ++ objects_from font flags (i + 1) (moved flags x (get_or positions i e).x_advance)
    (moved flags y (get_or positions i e).y_advance) (drop (i + 1) (zip infos positions))
objects_from-first font flags infos positions i x y d e h n =
    let gs = zip infos positions in
    let p = get_or positions i e in
    let zipped : i < length gs = omega (arith, length-zip infos positions) in
    ap (objects_from font flags i x y)
    (drop-cons gs i (d, e) zipped
    ∙ ap (λ g. g ∷ drop (suc i) gs) (get_or-zip infos positions i (d, e) h (omega arith)))
    ∙ ap (λ k. (comma_before i ++ object font flags x y (get_or infos i d, p))
    ++ objects_from font flags k (moved flags x p.x_advance) (moved flags y p.y_advance) (drop k gs)) (sym (add-one i))

-- one object more
pub glyphs_json-more : (font : Font) (flags : SerializeFlags) (infos : List hb_glyph_info_t)
    (positions : List GlyphPosition) (i : ℕ) (text now : List ℕ) (x y u v : ℤ) (d : hb_glyph_info_t) (e : GlyphPosition)
    → i < length infos → length positions ≡ length infos
    → text ++ objects_from font flags i x y (drop i (zip infos positions)) ≡ glyphs_json font flags (zip infos positions)
    → now ≡ text ++ (comma_before i ++ object font flags x y (get_or infos i d, get_or positions i e))
    → u ≡ moved flags x (get_or positions i e).x_advance → v ≡ moved flags y (get_or positions i e).y_advance
    → now ++ objects_from font flags (i + 1) u v (drop (i + 1) (zip infos positions))
    ≡ glyphs_json font flags (zip infos positions)
glyphs_json-more font flags infos positions i text now x y u v d e h n old is u_is v_is =
    let gs = zip infos positions in
    let p = get_or positions i e in
    let piece = comma_before i ++ object font flags x y (get_or infos i d, p) in
    let rest = objects_from font flags (i + 1) (moved flags x p.x_advance) (moved flags y p.y_advance) (drop (i + 1) gs) in
    ap (λ u. now ++ objects_from font flags (i + 1) u v (drop (i + 1) gs)) u_is
    ∙ ap (λ v. now ++ objects_from font flags (i + 1) (moved flags x p.x_advance) v (drop (i + 1) gs)) v_is
    ∙ ap (λ l. l ++ rest) is ∙ append_assoc text piece rest
    ∙ ap (λ l. text ++ l) (sym (objects_from-first font flags infos positions i x y d e h n)) ∙ old

-- no object more
pub glyphs_json-all : (font : Font) (flags : SerializeFlags) (infos : List hb_glyph_info_t)
    (positions : List GlyphPosition) (i : ℕ) (text : List ℕ) (x y : ℤ) → length infos ≤ i
    → text ++ objects_from font flags i x y (drop i (zip infos positions)) ≡ glyphs_json font flags (zip infos positions)
    → text ≡ glyphs_json font flags (zip infos positions)
glyphs_json-all font flags infos positions i text x y h old =
    let gs = zip infos positions in
    sym (append-nil text)
    ∙ ap (λ l. text ++ objects_from font flags i x y l)
    (sym (drop_all i gs (omega (arith, length-zip infos positions)))) ∙ old

-- one member more
pub member-more : (old before now some name number : List ℕ) → before ≡ old ++ some → now ≡ before ++ (name ++ number)
    → now ≡ old ++ (some ++ name ++ number)
member-more old before now some name number b e =
    e ∙ ap (λ l. l ++ (name ++ number)) b ∙ append_assoc old some (name ++ number)
    ∙ ap (λ l. old ++ l) (sym (append_assoc some name number))
