use Rattle.std.proofs.Common.{Bool, List, ap, ◌∙◌}
use Rattle.std.specs.List.{list_any}
use Rattle.rb_glyph.specs.declared.info.hb_glyph_info_t.{hb_glyph_info_t}
use Rattle.shaping_buffer.specs.State.{State}
use Rattle.script_joining.specs.ArabicMarks.{all_recorded, is_multiplied, pieces_noted}
use Rattle.script_joining.proofs.arabic.stretching.record_pieces.Goals as goal

pub returns-clause-is : goal.returns-clause-is
returns-clause-is c =
    let s = c.args.buffer.now in
    c.note_pieces.ensures.is
    ∙ ap (λ (t : State). pieces_noted c.has_pieces-has_pieces.result t) c.record_in.ensures.is
    ∙ ap (λ (has : Bool). pieces_noted has (all_recorded s))
    (c.has_pieces-has_pieces.ensures ∙ ap (λ (xs : List hb_glyph_info_t). list_any is_multiplied xs) c.info.ensures)
