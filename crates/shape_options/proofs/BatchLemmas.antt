-- The words among the parts of a line.
use Rattle.std.proofs.Common.{ℕ, ◌≡◌, ◌+◌, ◌-◌, ◌<◌, List, [], ◌∷◌, ◌++◌, length, drop, map, get_or, Bor, Bool, true, false}
use Rattle.std.proofs.Common.{sym, ap, ◌∙◌, arith, append_assoc, append-nil, add-one, if◌then◌else◌}
use Rattle.std.proofs.Math.Seq.{drop-cons}
use Rattle.std.proofs.lemmas.List.{length-map, length-drop}
use Rattle.shape_options.specs.Batch.{is_word, words_of}

append-one_word : (words later : List (List ℕ)) (part : List ℕ) (v : Bool)
    → (words ++ (if v then part ∷ [] else [])) ++ later ≡ words ++ (if v then part ∷ later else later)
append-one_word words later part true = append_assoc words (part ∷ []) later
append-one_word words later part false = ap (λ l. l ++ later) (append-nil words)

-- one part more
pub append-words_of : (start words words' : List (List ℕ)) (parts : List (Bor (List ℕ))) (i : ℕ) (d : Bor (List ℕ))
    → i < length parts → words ++ words_of (map (λ p. p.now) (drop i parts)) ≡ start
    → words' ≡ words
    ++ (if is_word (get_or parts i d).now (length parts - 1 - i) then (get_or parts i d).now ∷ [] else [])
    → words' ++ words_of (map (λ p. p.now) (drop (i + 1) parts)) ≡ start
append-words_of start words words' parts i d h so_far e =
    let part = (get_or parts i d).now in
    let rest = map (λ p. p.now) (drop (i + 1) parts) in
    let count : length parts - 1 - i ≡ length rest =
    let counted : length rest ≡ length parts - (i + 1) =
    length-map (drop (i + 1) parts) (λ p. p.now) ∙ length-drop (i + 1) parts in
    omega (arith, counted) in
    let first : drop i parts ≡ get_or parts i d ∷ drop (i + 1) parts = rw add-one (drop-cons parts i d h) in
    let cut : map (λ p. p.now) (drop i parts) ≡ part ∷ rest = ap (map (λ p. p.now)) first in
    ap (λ l. l ++ words_of rest) (e ∙ ap (λ n. words ++ (if is_word part n then part ∷ [] else [])) count)
    ∙ append-one_word words (words_of rest) part (is_word part (length rest))
    ∙ ap (λ l. words ++ words_of l) (sym cut) ∙ so_far
