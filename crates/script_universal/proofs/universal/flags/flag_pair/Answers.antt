use Rattle.std.proofs.Common.{◌∙◌}
use Rattle.script_universal.proofs.FlagsLemmas.{pair_kept, pair_outside, unsafe_to_break-pair}
use Rattle.script_universal.proofs.universal.flags.flag_pair.Goals as goal

pub returns-then-not-lie_within-clause-is : goal.returns-then-not-lie_within-clause-is
returns-then-not-lie_within-clause-is g c = λ test by.
    pair_outside test c.args.masks.now c.args.last.now c.args.own.now c.args.buffer.now c.lie_within.result c.len.result
    c.len.ensures.len c.lie_within.ensures c.if-not-lie_within.true

pub returns-then-not-are_parted-clause-is : goal.returns-then-not-are_parted-clause-is
returns-then-not-are_parted-clause-is g c = λ test by.
    pair_kept test c.args.masks.now c.args.last.now c.args.own.now c.args.buffer.now c.lie_within.result c.len.result
    c.len.ensures.len c.lie_within.ensures c.if-not-lie_within.false c.info.result.now c.info.ensures c.are_parted.result
    (c.are_parted.ensures test by) c.if-not-are_parted.true

pub returns-clause-is : goal.returns-clause-is
returns-clause-is g c = λ test by.
    c.unsafe_to_break.ensures.is
    ∙ unsafe_to_break-pair test c.args.masks.now c.args.last.now c.args.own.now c.args.buffer.now c.lie_within.result c.len.result
    c.len.ensures.len c.lie_within.ensures c.if-not-lie_within.false c.info.result.now c.info.ensures c.are_parted.result
    (c.are_parted.ensures test by) c.if-not-are_parted.false
