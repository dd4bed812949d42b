use Rattle.std.proofs.Common.{◌≡◌, ◌++◌, take, drop}
use Rattle.rb_text.specs.LanguageCut.{before_singleton, until_singleton}
use Rattle.ot_tags.proofs.subtags.before_singleton.Given as goal

abbrev pub invariant-loop-i : goal.invariant-loop-i
invariant-loop-i l = take l.i l.text ++ until_singleton (drop l.i l.text) ≡ before_singleton l.text
