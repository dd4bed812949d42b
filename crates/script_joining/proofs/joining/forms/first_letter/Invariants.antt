use Rattle.std.proofs.Common.{◌≡◌, drop}
use Rattle.script_joining.specs.Joining.{first_letter}
use Rattle.script_joining.proofs.joining.forms.first_letter.Given as goal

abbrev pub invariant-loop-info : goal.invariant-loop-info
invariant-loop-info l = first_letter (drop l.info-index l.infos) l.beyond ≡ first_letter l.infos l.beyond
