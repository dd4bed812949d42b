use Rattle.script_universal.proofs.universal.features.form_mask.Goals as goal

pub returns : goal.returns
returns c = (c.one_mask-mask.result, (c.one_mask-mask.ensures, c.unless_global.ensures))
