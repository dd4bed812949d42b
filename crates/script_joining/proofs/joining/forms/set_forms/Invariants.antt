use Rattle.std.proofs.Common.{◌≡◌}
use Rattle.script_joining.specs.Joining.{with_forms}
use Rattle.script_joining.proofs.FormsLemmas.{formed}
use Rattle.script_joining.proofs.joining.forms.set_forms.Given as goal

abbrev pub invariant-loop-i : goal.invariant-loop-i
invariant-loop-i l = formed l.nearest l.i l.infos l.beyond ≡ with_forms l.fn.before l.fn.infos l.beyond
