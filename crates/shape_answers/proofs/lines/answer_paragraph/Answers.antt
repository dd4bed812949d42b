use Rattle.std.proofs.Common.{◌≡◌, [], length, rules}
use Rattle.std.proofs.lemmas.List.{nil_from_length}
use Rattle.shape_answers.proofs.LineLemmas.{no_paragraph, one_paragraph, reads_all}
use Rattle.shape_answers.proofs.lines.answer_paragraph.Goals as goal

pub returns : goal.returns
returns g c =
    let some : c.keep_seen.new.bytes.items ≡ [] → ⊥ = search rules in
    one_paragraph _ _ _ _ _ _ _ _
    (reads_all _ _ _ _ c.read_to_end.new.buf.items _ _ c.new-text.ensures.items c.in-Ok.ensures.bytes c.in-Ok.ensures.end
    c.in-Ok.ensures.none_lost c.in_ok-keep_seen.ensures)
    some c.as_slice.ensures.value c.in_ok-is_shaped.ensures

pub returns-then-is_empty : goal.returns-then-is_empty
returns-then-is_empty g c =
    let count : length c.keep_seen.new.bytes.items ≡ 0 = search rules in
    let empty : c.keep_seen.new.bytes.items ≡ [] = nil_from_length _ count in
    no_paragraph _ _ _ _ _ _
    (reads_all _ _ _ _ c.read_to_end.new.buf.items _ _ c.new-text.ensures.items c.in-Ok.ensures.bytes c.in-Ok.ensures.end
    c.in-Ok.ensures.none_lost c.in_ok-keep_seen.ensures)
    empty
