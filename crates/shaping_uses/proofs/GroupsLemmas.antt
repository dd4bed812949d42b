-- Groups that are counted along a list.
use Rattle.std.proofs.Common.{◌≡◌, ℕ, ◌+◌, ◌<◌, ◌≤◌, List, length, drop, sym, ap, ◌∙◌, arith, length-drop}
use Rattle.std.proofs.lemmas.List.{drop-drop}
use Rattle.rb_glyph.specs.declared.info.hb_glyph_info_t.{hb_glyph_info_t}
use Rattle.glyph_lists.specs.Groups.{Test, first_group_len, group_end, group_lens}
use Rattle.glyph_lists.proofs.GroupsLemmas.{group_lens_first}

-- so many groups begin before `start`, and with those from there on they are all
abbrev pub IsCounted : Test → List hb_glyph_info_t → ℕ → ℕ → Type 0
IsCounted test l start count =
    (start ≤ length l) × (count ≤ start)
    × (count + length (group_lens test (drop start l)) ≡ length (group_lens test l))

pub one_counted : (test : Test) (l : List hb_glyph_info_t) (start count end : ℕ) → start < length l
    → IsCounted test l start count → end ≡ group_end test start l → start + 1 ≤ end → end ≤ length l
    → IsCounted test l end (count + 1)
one_counted test l start count end within before is after until =
    let rest = drop start l in
    let n = first_group_len test rest in
    let some : 0 < length rest = omega (arith, length-drop start l, within) in
    let one : length (group_lens test rest) ≡ 1 + length (group_lens test (drop n rest)) =
    ap length (group_lens_first test rest some) ∙ omega arith in
    let same : length (group_lens test (drop n rest)) ≡ length (group_lens test (drop end l)) =
    ap (λ r. length (group_lens test r)) (drop-drop n start l ∙ ap (λ k. drop k l) (sym is)) in
    (until, omega (arith, before.1, after), omega (arith, before.2, one, same))
