use Rattle.std.proofs.Common.{sym, subst}
use Rattle.shaping_buffer.specs.KeepsClusters.{KeepsClusters}
use Rattle.ot_positions.proofs.ClusterLemmas.{keeps_hidden}
use Rattle.ot_positions.proofs.ending.hide_all.Goals as goal

pub returns-clause-keeps : goal.returns-clause-keeps
returns-clause-keeps c =
    subst (KeepsClusters c.args.buffer.now) (sym c.hide_default_ignorables.ensures)
    (keeps_hidden c.args.buffer.now (c.out_len.ensures.closed c.requires.closed))
