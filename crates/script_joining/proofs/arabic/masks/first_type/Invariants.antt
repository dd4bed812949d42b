use Rattle.std.proofs.Common.{◌≡◌, drop}
use Rattle.script_joining.specs.Listed.{first_type}
use Rattle.script_joining.proofs.arabic.masks.first_type.Given as goal

abbrev pub invariant-loop-character : goal.invariant-loop-character
invariant-loop-character l = first_type (drop l.character-index l.characters) ≡ first_type l.characters
