use Rattle.std.proofs.Common.{◌≡◌, ℕ, List, codes, subst}
use Rattle.std.specs.Prelude.{IfOk, Option, is_some, option_map}
use Rattle.clap.specs.Matches.{found_of, first_value}
use Rattle.shape_options.specs.Options.{AreNotBoth, IsReadAs}
use Rattle.shape_options.proofs.synthetic.synthetic_of.Goals as goal

pub returns-clause-one : goal.returns-clause-one
returns-clause-one c =
    let found = found_of c.args.matches.now in
    subst (λ (grade : Option (List ℕ)). IfOk c.of_values.result (λ _. AreNotBoth (first_value found (codes "font-bold")) grade))
    c.get_str-grade.ensures
    (subst
    (λ (bold : Option (List ℕ)). IfOk c.of_values.result (λ _. AreNotBoth bold (option_map (λ text. text.now) c.get_str-grade.result)))
    c.get_str-bold.ensures c.of_values.ensures.one)

pub returns-clause-in_place : goal.returns-clause-in_place
returns-clause-in_place c =
    subst (λ (grade : Option (List ℕ)). IfOk c.of_values.result (λ synthetic. synthetic.in_place ≡ is_some grade)) c.get_str-grade.ensures
    c.of_values.ensures.in_place

pub returns-clause-slant : goal.returns-clause-slant
returns-clause-slant c =
    subst (λ (slant : Option (List ℕ)). IfOk c.of_values.result (λ synthetic. IsReadAs synthetic.slant slant)) c.get_str.ensures
    c.of_values.ensures.slant
