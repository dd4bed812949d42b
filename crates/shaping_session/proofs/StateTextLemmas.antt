-- One more glyph, at the end of the printed list.
use Rattle.std.proofs.Common.{◌≡◌, ℕ, zero, suc, ◌+◌, ◌<◌, List, [], ◌∷◌, ◌++◌, length, take, map, get_or, refl, ap}
use Rattle.std.proofs.Common.{sym, ◌∙◌, arith, append_assoc}
use Rattle.std.proofs.lemmas.List.{take_more, map-append, length-take-le, length-map}
use Rattle.std.specs.List.{join_with_byte}
use Rattle.shaping_session.specs.StateText.{space_before}

join_with_byte-more : (x : List ℕ) (xs : List (List ℕ)) (piece : List ℕ)
    → join_with_byte 32 ((x ∷ xs) ++ piece ∷ []) ≡ (join_with_byte 32 (x ∷ xs) ++ 32 ∷ []) ++ piece
join_with_byte-more x [] piece = sym (append_assoc x (32 ∷ []) piece)
join_with_byte-more x (y ∷ xs) piece =
    let rest = join_with_byte 32 (y ∷ xs) in
    ap (λ l. x ++ 32 ∷ l) (join_with_byte-more y xs piece)
    ∙ sym (append_assoc x (32 ∷ (rest ++ 32 ∷ [])) piece)
    ∙ ap (λ l. l ++ piece) (sym (append_assoc x (32 ∷ rest) (32 ∷ [])))

-- the pieces before i, a space, and the piece at i
join_with_byte-push : (pieces : List (List ℕ)) (i : ℕ) (piece : List ℕ) → length pieces ≡ i
    → join_with_byte 32 (pieces ++ piece ∷ []) ≡ (join_with_byte 32 pieces ++ space_before i) ++ piece
join_with_byte-push [] zero piece n = refl
join_with_byte-push [] (suc i) piece n = absurd (omega arith)
join_with_byte-push (x ∷ xs) zero piece n = absurd (omega arith)
join_with_byte-push (x ∷ xs) (suc i) piece n = join_with_byte-more x xs piece

pub join_with_byte-one_more : {A : Type 0} (f : A → List ℕ) (xs : List A) (i : ℕ) (d : A) → i < length xs
    → join_with_byte 32 (map f (take (i + 1) xs)) ≡ (join_with_byte 32 (map f (take i xs)) ++ space_before i)
    ++ f (get_or xs i d)
join_with_byte-one_more f xs i d h =
    ap (λ l. join_with_byte 32 (map f l)) (take_more xs i d h)
    ∙ ap (join_with_byte 32) (map-append f (take i xs) (get_or xs i d ∷ []))
    ∙ join_with_byte-push (map f (take i xs)) i (f (get_or xs i d))
    (length-map (take i xs) f ∙ length-take-le i xs (omega (arith, h)))
