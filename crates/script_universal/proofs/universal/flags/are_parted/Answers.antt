use Rattle.script_universal.proofs.FlagsLemmas.{first_parted, second_parted}
use Rattle.script_universal.proofs.universal.flags.are_parted.Goals as goal

pub returns-then-is_one_parted : goal.returns-then-is_one_parted
returns-then-is_one_parted g c = λ test by.
    first_parted test c.args.masks.now c.args.infos.now c.args.last.now c.args.own.now c.form_before-before.result
    c.syllable.result.now c.is_one_parted.result c.form_before-before.ensures c.syllable.ensures
    (c.is_one_parted.ensures test by) c.if-is_one_parted.true

pub returns : goal.returns
returns g c = λ test by.
    second_parted test c.args.masks.now c.args.infos.now c.args.last.now c.args.own.now c.form_before-before.result
    c.syllable.result.now c.is_one_parted.result c.form_before-before.ensures c.syllable.ensures
    (c.is_one_parted.ensures test by) c.if-is_one_parted.false c.form_behind-behind.result c.syllable-2.result.now
    c.is_one_parted-2.result c.form_behind-behind.ensures c.syllable-2.ensures (c.is_one_parted-2.ensures test by)
