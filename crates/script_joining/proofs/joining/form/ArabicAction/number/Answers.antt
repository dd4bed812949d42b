use Rattle.std.proofs.Common.{◌≡◌, refl}
use denote.Enum.Declared.{tag_of}
use Rattle.script_joining.specs.Joining.{number_of_form}
use Rattle.script_joining.specs.contracts.joining.form.ArabicAction as own
use Rattle.script_joining.specs.declared.joining.form.ArabicAction.{ArabicAction}
use Rattle.script_joining.specs.declared.joining.form.ArabicAction.TheVariants.{Unformed, Isol, Fina, Fin2, Fin3, Medi, Med2, Init, StchFixed, StchRepeating}
use Rattle.script_joining.proofs.joining.form.ArabicAction.number.Goals as goal

tag_of-form : (x : ArabicAction) → tag_of own.the_type x ≡ number_of_form x
tag_of-form Unformed = refl
tag_of-form Isol = refl
tag_of-form Fina = refl
tag_of-form Fin2 = refl
tag_of-form Fin3 = refl
tag_of-form Medi = refl
tag_of-form Med2 = refl
tag_of-form Init = refl
tag_of-form StchFixed = refl
tag_of-form StchRepeating = refl

pub returns : goal.returns
returns c = tag_of-form c.args.self
