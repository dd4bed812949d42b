use Rattle.std.proofs.Common.{ap, ◌∙◌}
use Rattle.script_indic.specs.Base.{base_of}
use Rattle.script_indic.proofs.base.find_base.Goals as goal

pub returns : goal.returns
returns g c = λ test by. c.base_of.ensures ∙ ap (base_of c.args.syllable.now) (c.reph_length-reph.ensures test by)
