use Rattle.std.proofs.Common.{◌∙◌, sym, arith}
use Rattle.script_joining.proofs.FormsLemmas.{formed_step, formed_all}
use Rattle.script_joining.proofs.joining.forms.set_forms.Goals as goal

pub loop-i-preserved : goal.loop-i-preserved
loop-i-preserved c =
    formed_step c.loop-i.nearest c.args.beyond c.loop-i.infos c.loop-i.i _ _ _ _ _ _ (omega arith) c.kind-own.ensures
    c.form_at-form.ensures c.number.ensures c.set_shaper_byte.ensures c.or_beyond-nearest.ensures
    ∙ c.loop-i.invariant

pub returns : goal.returns
returns c = sym (formed_all c.loop-i.nearest c.args.beyond c.loop-i.infos c.loop-i.i (omega arith)) ∙ c.loop-i.invariant
