use Rattle.std.proofs.Common.{◌≡◌}
use Rattle.glyph_lists.proofs.MapLemmas.{mapped}
use Rattle.script_joining.specs.Listed.{with_type}
use Rattle.script_joining.proofs.joining.forms.set_types.Given as goal

abbrev pub invariant-loop-info : goal.invariant-loop-info
invariant-loop-info l = l.infos ≡ mapped with_type l.info-index l.fn.infos
