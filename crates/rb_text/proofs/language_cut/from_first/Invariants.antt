use Rattle.std.proofs.Common.{◌≡◌, length}
use Rattle.rb_text.specs.LanguageCut.{from_first}
use Rattle.rb_text.proofs.language_cut.from_first.Given as goal

abbrev pub invariant-loop-rest : goal.invariant-loop-rest
invariant-loop-rest l = from_first l.mark l.rest ≡ from_first l.mark l.text

abbrev pub decreases-loop-rest : goal.decreases-loop-rest
decreases-loop-rest l = length l.rest
