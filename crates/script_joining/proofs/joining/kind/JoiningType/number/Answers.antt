use Rattle.std.proofs.Common.{◌≡◌, refl}
use denote.Enum.Declared.{tag_of}
use Rattle.script_joining.specs.Joining.{number_of_type}
use Rattle.script_joining.specs.contracts.joining.kind.JoiningType as own
use Rattle.script_joining.specs.declared.joining.kind.JoiningType.{JoiningType}
use Rattle.script_joining.specs.declared.joining.kind.JoiningType.TheVariants.{NonJoining, Left, Right, Dual, Alaph, DalathRish, Transparent}
use Rattle.script_joining.proofs.joining.kind.JoiningType.number.Goals as goal

tag_of-type : (x : JoiningType) → tag_of own.the_type x ≡ number_of_type x
tag_of-type NonJoining = refl
tag_of-type Left = refl
tag_of-type Right = refl
tag_of-type Dual = refl
tag_of-type Alaph = refl
tag_of-type DalathRish = refl
tag_of-type Transparent = refl

pub returns : goal.returns
returns c = tag_of-type c.args.self
