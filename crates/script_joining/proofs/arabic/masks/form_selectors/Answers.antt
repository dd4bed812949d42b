use Rattle.std.proofs.Common.{sym, ◌∙◌, arith}
use Rattle.script_joining.proofs.FormsLemmas.{append-formed_behind-all, append-formed_behind-first, append-formed_behind-more}
use Rattle.script_joining.proofs.arabic.masks.form_selectors.Goals as goal

pub loop-i-init : goal.loop-i-init
loop-i-init c = append-formed_behind-first c.args.infos.now

pub loop-i-preserved : goal.loop-i-preserved
loop-i-preserved c =
    append-formed_behind-more c.loop-i.infos c.form_selector.new.infos c.loop-i.i (omega arith) (omega arith) c.form_selector.ensures
    ∙ c.loop-i.invariant

pub returns : goal.returns
returns c = sym (append-formed_behind-all c.loop-i.infos c.loop-i.i (omega arith)) ∙ c.loop-i.invariant
