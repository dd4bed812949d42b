-- What is asked of a builder from the start is one list, and a plan of it is compiled in the order of the tags.
use Rattle.std.proofs.Common.{◌≡◌, ◌++◌, ◌∙◌, ℕ, List, ap, subst, sym}
use Rattle.ot_map.specs.Asked.{Ask, Asks, Collected, collected, nothing_yet, with_asks}
use Rattle.ot_map.specs.Chosen.{IsChosenOf}
use Rattle.ot_map.specs.Requests.{AreInOrder}
use Rattle.ot_map.specs.declared.builder.ChosenTable.{ChosenTable}
use Rattle.ot_map.specs.declared.builder.PlanBuilder.{PlanBuilder}
use Rattle.ot_map.proofs.AskedLemmas.{with_asks-append, with_asks-order}

pub collected-order : (asks : List Ask) (a : PlanBuilder) → collected a ≡ with_asks asks nothing_yet → AreInOrder a.requests.items
collected-order asks a is =
    subst (λ (it : Collected). AreInOrder it.requests) (sym is) (with_asks-order asks nothing_yet (λ i j x y less isx isy. cc))

pub collected-then : (first others : List Ask) (a b : PlanBuilder) → collected a ≡ with_asks first nothing_yet → Asks others a b
    → collected b ≡ with_asks (first ++ others) nothing_yet
collected-then first others a b is done =
    done.collects (collected-order first a is) ∙ ap (with_asks others) is ∙ sym (with_asks-append first others nothing_yet)

-- what is chosen of a table, told of the font
pub chosen_of : (table bytes feature_tables others scripts languages : List ℕ) (chosen same : ChosenTable) → table ≡ bytes
    → feature_tables ≡ others → same ≡ chosen → IsChosenOf table feature_tables scripts languages chosen
    → IsChosenOf bytes others scripts languages same
chosen_of table bytes feature_tables others scripts languages chosen same read varied is it =
    subst (λ (l : List ℕ). IsChosenOf l others scripts languages same) read
    (subst (λ (l : List ℕ). IsChosenOf table l scripts languages same) varied
    (subst (λ (t : ChosenTable). IsChosenOf table feature_tables scripts languages t) (sym is) it))
