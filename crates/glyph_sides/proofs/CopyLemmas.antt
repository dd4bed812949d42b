-- Copies that are written over a list, one after the other.
use Rattle.std.proofs.Common.{◌≡◌, ℕ, suc, ◌+◌, ◌<◌, ◌≤◌, List, [], ◌∷◌, ◌++◌, take, drop, length, get_or, refl, sym}
use Rattle.std.proofs.Common.{ap, ◌∙◌, arith, append_assoc, add-one}
use Rattle.std.proofs.Math.ListN.{set}
use Rattle.std.proofs.Math.Seq.{drop-cons}
use Rattle.std.proofs.lemmas.List.{length-take-le, length-map, take_more, map-append}
use Rattle.rb_glyph.specs.declared.info.hb_glyph_info_t.{hb_glyph_info_t}
use Rattle.glyph_lists.specs.Replacement.{copies}

-- the glyph under another id
abbrev pub with_id : ℕ → hb_glyph_info_t → hb_glyph_info_t
with_id id g = record g { glyph_id = id }

pub copies-take : (g : hb_glyph_info_t) (ids : List ℕ) (i d : ℕ) → i < length ids
    → copies g (take (i + 1) ids) ≡ copies g (take i ids) ++ with_id (get_or ids i d) g ∷ []
copies-take g ids i d h =
    ap (copies g) (take_more ids i d h) ∙ map-append (λ id. with_id id g) (take i ids) (get_or ids i d ∷ [])

set_at : {X : Type 0} (front rest : List X) (y a : X) → set (front ++ y ∷ rest) (length front) a ≡ front ++ a ∷ rest
set_at [] rest y a = refl
set_at (x ∷ front) rest y a = ap (λ l. x ∷ l) (set_at front rest y a)

-- what was written, and then one more, and the rest as before
set_next : {X : Type 0} (front before : List X) (n : ℕ) (a d : X) → length front ≡ n → n < length before
    → set (front ++ drop n before) n a ≡ (front ++ a ∷ []) ++ drop (n + 1) before
set_next front before n a d long h =
    ap (λ l. set (front ++ l) n a) (drop-cons before n d h)
    ∙ ap (λ k. set (front ++ get_or before n d ∷ drop (suc n) before) k a) (sym long)
    ∙ set_at front (drop (suc n) before) (get_or before n d) a
    ∙ sym (append_assoc front (a ∷ []) (drop (suc n) before))
    ∙ ap (λ k. (front ++ a ∷ []) ++ drop k before) (sym (add-one n))

pub set_copies : (x : hb_glyph_info_t) (ids : List ℕ) (old : List hb_glyph_info_t) (i d : ℕ) → i < length ids
    → length ids ≤ length old
    → set (copies x (take i ids) ++ drop i old) i (with_id (get_or ids i d) x)
    ≡ copies x (take (i + 1) ids) ++ drop (i + 1) old
set_copies x ids old i d h within =
    let long : length (copies x (take i ids)) ≡ i =
    omega (arith, length-map (take i ids) (λ g. with_id g x), length-take-le i ids (omega arith)) in
    set_next (copies x (take i ids)) old i (with_id (get_or ids i d) x) x long (omega arith)
    ∙ ap (λ l. l ++ drop (i + 1) old) (sym (copies-take x ids i d h))
