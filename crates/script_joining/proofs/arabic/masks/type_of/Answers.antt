use Rattle.std.proofs.Common.{ap, ◌∙◌}
use Rattle.script_joining.specs.Listed.{joining_type, type_of}
use Rattle.script_joining.proofs.arabic.masks.type_of.Goals as goal

pub returns : goal.returns
unfolding type_of
returns c = c.joining_type.ensures ∙ ap (joining_type c.args.character) c.is_transparent.ensures
