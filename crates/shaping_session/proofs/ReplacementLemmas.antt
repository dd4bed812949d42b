-- A replacement by all of its ids, and ids that are taken one by one.
use Rattle.std.proofs.Common.{ℕ, suc, ◌≡◌, ◌<◌, ◌-◌, ◌+◌, List, [], ◌∷◌, ◌++◌, Some, None}
use Rattle.std.proofs.Common.{refl, ap, sym, ◌∙◌, arith, append_assoc}
use Rattle.shaping_session.specs.Commands.{Taken, id_before, ids_in}
use Rattle.shaping_session.specs.Words.{Rest, next_u32, past_first_word}

-- ids before others
abbrev pub ids_before : List ℕ → Taken (List ℕ) → Taken (List ℕ)
ids_before ids None = None
ids_before ids (Some (more, rest)) = Some (ids ++ more, rest)

ids_before-one : (ids : List ℕ) (id : ℕ) (taken : Taken (List ℕ))
    → ids_before ids (id_before (Some id) taken) ≡ ids_before (ids ++ id ∷ []) taken
ids_before-one ids id None = refl
ids_before-one ids id (Some (more, rest)) = ap (λ l. Some (l, rest)) (sym (append_assoc ids (id ∷ []) more))

-- one id more is taken
pub ids_before-one_more : (count i : ℕ) (rest : Rest) (ids : List ℕ) (id : ℕ) → i < count → next_u32 rest ≡ Some id
    → ids_before ids (ids_in (count - i) rest) ≡ ids_before (ids ++ id ∷ [])
    (ids_in (count - (i + 1)) (past_first_word rest))
ids_before-one_more count i rest ids id h e =
    let one : count - i ≡ suc (count - (i + 1)) = omega arith in
    ap (λ n. ids_before ids (ids_in n rest)) one
    ∙ ap (λ o. ids_before ids (id_before o (ids_in (count - (i + 1)) (past_first_word rest)))) e
    ∙ ids_before-one ids id (ids_in (count - (i + 1)) (past_first_word rest))

-- one id is missing
pub ids_in-missing : (count i : ℕ) (rest : Rest) → i < count → next_u32 rest ≡ None → ids_in (count - i) rest ≡ None
ids_in-missing count i rest h e =
    let one : count - i ≡ suc (count - (i + 1)) = omega arith in
    ap (λ n. ids_in n rest) one ∙ ap (λ o. id_before o (ids_in (count - (i + 1)) (past_first_word rest))) e
