use Rattle.std.proofs.Common.{ap}
use Rattle.ot_tags.specs.Registry.{registry, rows_of}
use Rattle.ot_tags.proofs.registry.registry.Goals as goal

pub returns : goal.returns
unfolding registry
returns c = ap rows_of c.as_bytes.ensures.value
