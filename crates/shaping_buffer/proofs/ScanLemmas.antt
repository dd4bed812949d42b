-- A part of the input, seen from both sides as one list.
use Rattle.std.proofs.Common.{◌≡◌, ℕ, ◌+◌, ◌-◌, ◌≤◌, List, ◌++◌, length, take, drop, refl, sym, ap, ◌∙◌, arith}
use Rattle.glyph_lists.specs.Parts.{on_part}
use Rattle.glyph_lists.proofs.SidesLemmas.{on_part-past, cut_out, cut_input}

-- a part of the second of two lists leaves the first as it is
pub part_past_out : {X : Type 0} (g : List X → List X) (out ys : List X) (a b : ℕ) → a ≤ b
    → out ≡ take (length out) (on_part g (out ++ ys) (length out + a) (length out + b))
part_past_out g out ys a b up =
    cut_out out out _ _ refl (on_part-past g out ys (length out + a) (length out + b) (omega arith) (omega arith))

-- and of the second it is that part
pub on_part-in_input : {X : Type 0} (g : List X → List X) (out ys : List X) (a b : ℕ) → a ≤ b
    → on_part g ys a b ≡ drop (length out) (on_part g (out ++ ys) (length out + a) (length out + b))
on_part-in_input g out ys a b up =
    let n = length out in
    let na : n + a - n ≡ a = omega arith in
    let nb : n + b - n ≡ b = omega arith in
    ap (λ k. on_part g ys k b) (sym na) ∙ ap (on_part g ys (n + a - n)) (sym nb)
    ∙ cut_input out out _ _ refl (on_part-past g out ys (n + a) (n + b) (omega arith) (omega arith))

pub ruleset in_input = (part_past_out, on_part-in_input)
