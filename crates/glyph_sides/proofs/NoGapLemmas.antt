-- Where no place before the cursor stands free, the cursor alone moves.
use Rattle.std.proofs.Common.{◌≡◌, ℕ, ◌+◌, ◌-◌, ◌<◌, ◌≤◌, false, List, ◌++◌, length, take, drop, sym, ap, ◌∙◌, arith}
use Rattle.std.proofs.Math.Seq.{take-add}
use Rattle.std.proofs.lemmas.List.{take-append-drop, drop-append-le, length-take-le}
use Rattle.std.proofs.lemmas.Grind.{common_steps}
use Rattle.glyph_sides.specs.TwoLists as lists
use Rattle.glyph_sides.specs.TwoLists.{TwoLists, lookahead_len}
use Rattle.glyph_sides.specs.IsStored.{IsStored}
use Rattle.glyph_sides.specs.contracts.sides.Sides.{the_view}
use Rattle.glyph_sides.specs.declared.sides.Sides.TheInside.{Inside}

take-put_already : {X : Type 0} (xs : List X) (gap cursor count : ℕ) → gap ≡ 0
    → take (cursor + count - gap) xs ≡ take (cursor - gap) xs ++ take count (drop cursor xs)
take-put_already xs gap cursor count none =
    let end : cursor + count - gap ≡ cursor + count = omega (arith, none) in
    let start : cursor ≡ cursor - gap = omega (arith, none) in
    ap (λ k. take k xs) end ∙ take-add cursor count xs ∙ ap (λ k. take k xs ++ take count (drop cursor xs)) start

drop-left_already : {X : Type 0} (xs : List X) (i cursor : ℕ) → i ≤ cursor → cursor ≤ length xs
    → drop i xs ≡ drop i (take cursor xs) ++ drop cursor xs
drop-left_already xs i cursor before within =
    ap (drop i) (sym (take-append-drop cursor xs))
    ∙ drop-append-le i (take cursor xs) (drop cursor xs) (omega (arith, before, length-take-le cursor xs within))

module _ (b : Inside) (s : TwoLists) (stored : IsStored b) (is : the_view b ≡ s) (near : b.is_separate ≡ false)
    (none : b.gap ≡ 0) where
  pub next_moves : (n : ℕ) → n ≤ lookahead_len s → the_view (record b { cursor = b.cursor + n }) ≡ lists.next n s
  next_moves n within =
      let put = take-put_already b.info.items b.gap b.cursor n none in grind (arith, common_steps, put)

  pub rewind_moves : (i : ℕ) → i < length s.out → the_view (record b { cursor = i }) ≡ lists.rewind i s
  rewind_moves i within = grind (arith, common_steps, drop-left_already)

pub ruleset moves = (next_moves, rewind_moves)
