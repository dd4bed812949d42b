use Rattle.std.proofs.Common.{◌+◌, drop, nat_le}
use Rattle.ot_kern.proofs.KerningLemmas.{option_map_table}
use Rattle.ot_kern.proofs.kerning.subtable_of.Goals as goal

pub returns : goal.returns
returns c =
    let table = c.args.table.now in
    option_map_table table.is_apple (nat_le table.count (c.args.number + 1)) (drop c.args.at table.table.now) c.subtable_at.result
    c.subtable_at.ensures.length c.subtable_at.ensures.header c.subtable_at.ensures.bytes
