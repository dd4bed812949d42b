use Rattle.std.proofs.Common.{◌≡◌}
use Rattle.glyph_lists.proofs.MapLemmas.{mapped}
use Rattle.script_items.specs.Marks.{with_class}
use Rattle.script_joining.proofs.arabic.marks.set_class_of_all.Given as goal

abbrev pub invariant-loop-mark : goal.invariant-loop-mark
invariant-loop-mark l = l.marks ≡ mapped (with_class l.class) l.mark-index l.fn.marks
