use Rattle.std.proofs.Common.{rules}
use Rattle.ot_gpos_tables.proofs.ValueLemmas.{moved-across}
use Rattle.ot_gpos_tables.proofs.values.advanced.Goals as goal

pub returns : goal.returns
returns c =
    λ base. moved-across base c.args.instance.now c.args.advance c.em_scale_x-length.result c.args.position
    (search rules) (search rules) (search rules) (search rules) (search rules)
