-- A replacement, in the words of the two sides.
use Rattle.std.proofs.Common.{◌≡◌, ℕ, ◌+◌, ◌≤◌, Bool, List, length, take, drop, arith}
use Rattle.std.proofs.Common.{length-append, length-take, length-drop, ap, ◌∙◌}
use Rattle.std.specs.Prelude.{slice_index_or, Result, Ok, Err, OnOk}
use Rattle.std.specs.declared.alloc.AllocError.{AllocError}
use Rattle.glyph_lists.specs.Clusters.{zero_glyph}
use Rattle.glyph_lists.specs.Deletion.{merge_or_mark}
use Rattle.glyph_lists.specs.Replacement.{copies}
use Rattle.glyph_lists.proofs.LengthsLemmas.{length-merge_or_mark}
use Rattle.glyph_sides.specs.TwoLists.{TwoLists, Makes, both, replaced}
use Rattle.glyph_lists.proofs.LengthsLemmas.{length_copies}

-- the out side becomes longer by the copies
pub length_replaced : (level : Bool) (n : ℕ) (ids : List ℕ) (s : TwoLists)
    → length (replaced level n ids s).out ≡ length s.out + length ids
length_replaced level n ids s =
    let l = merge_or_mark level (both s) (length s.out) (length s.out + n) 0 in
    let head = slice_index_or (drop (length s.out) l) 0 zero_glyph in
    omega (
      arith,
      length-append s.out s.input,
      length-merge_or_mark level (both s) (length s.out) (length s.out + n) 0,
      length-append (take (length s.out) l) (copies head ids),
      length_copies head ids,
      length-take (length s.out) l,
    )

-- the input becomes shorter by what is read
pub add-length_replaced : (level : Bool) (n : ℕ) (ids : List ℕ) (s : TwoLists) → n ≤ length s.input
    → length (replaced level n ids s).input + n ≡ length s.input
add-length_replaced level n ids s within =
    let l = merge_or_mark level (both s) (length s.out) (length s.out + n) 0 in
    omega (
      arith,
      length-append s.out s.input,
      length-merge_or_mark level (both s) (length s.out) (length s.out + n) 0,
      length-drop (length s.out) l,
      length-drop n (drop (length s.out) l),
    )

-- so it is where the replacement was done
pub done_out : {T : Type 0} (level : Bool) (n : ℕ) (ids : List ℕ) (s new : TwoLists) (r : Result T AllocError)
    → Makes (replaced level n ids s) s r new → OnOk r (length new.out ≡ length s.out + length ids)
done_out level n ids s new (Ok v) made = ap (λ (t : TwoLists). length t.out) made ∙ length_replaced level n ids s
done_out level n ids s new (Err e) made = tt

pub done_left : {T : Type 0} (level : Bool) (n : ℕ) (ids : List ℕ) (s new : TwoLists) (r : Result T AllocError)
    → n ≤ length s.input → Makes (replaced level n ids s) s r new → OnOk r (length new.input + n ≡ length s.input)
done_left level n ids s new (Ok v) within made =
    ap (λ (t : TwoLists). length t.input + n) made ∙ add-length_replaced level n ids s within
done_left level n ids s new (Err e) within made = tt

pub ruleset lengths = (done_out, done_left)
