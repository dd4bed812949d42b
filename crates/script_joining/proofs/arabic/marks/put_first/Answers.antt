use Rattle.std.proofs.Common.{◌+◌, ◌-◌, ap, ◌∙◌}
use Rattle.shaping_buffer.specs.State.{State}
use Rattle.glyph_lists.specs.Parts.{map_range}
use Rattle.script_items.specs.Marks.{with_class}
use Rattle.script_items.specs.Moves.{moved}
use Rattle.script_joining.specs.ArabicMarks.{put_first}
use Rattle.script_joining.proofs.arabic.marks.put_first.Goals as goal

pub returns-clause-is : goal.returns-clause-is
unfolding put_first
returns-clause-is c =
    let start = c.args.start in
    let first = c.args.first in
    let last = c.args.last in
    let f = with_class c.args.class in
    c.set_classes.ensures.is
    ∙ ap (λ (t : State). record t { input = map_range f t.input start (start + (last - first)) }) c.move_back.ensures.is
    ∙ ap
    (λ (t : State). record t { input = map_range f (moved start first last t.input) start (start + (last - first)) })
    c.merge.ensures.is
