use Rattle.std.proofs.Common.{◌≡◌, ℕ, List, Option, Some, Bor, option_map, sym, ap, ◌∙◌}
use Rattle.std.specs.Option.{option_copied}
use Rattle.ot_tags.specs.Registry.{codes_rise, registry, row_of, tags_of_row, tags_of_code}
use Rattle.ot_tags.proofs.RegistryLemmas.{registry_rises, numbers_of_cells}
use Rattle.ot_tags.proofs.registry.tags_of_code.Goals as goal

-- what is found among the rows gives the tags of the code
tags_of_found : (code : List ℕ) (rows : List (List ℕ)) (found row : Option (Bor (List ℕ)))
    → option_copied found ≡ row_of code rows → rows ≡ registry → found ≡ row
    → option_map tags_of_row (option_copied row) ≡ tags_of_code code
unfolding tags_of_code
tags_of_found code rows found row among is was =
    ap (λ (o : Option (Bor (List ℕ))). option_map tags_of_row (option_copied o)) (sym was)
    ∙ ap (λ (o : Option (List ℕ)). option_map tags_of_row o)
    (among ∙ ap (λ (all : List (List ℕ)). row_of code all) is)

pub row_of-requires : goal.row_of-requires
row_of-requires c = ap codes_rise c.registry.ensures ∙ registry_rises

pub returns-in_err-row : goal.returns-in_err-row
returns-in_err-row c =
    c.from_residual.ensures
    ∙ tags_of_found c.args.code.now _ _ _ c.row_of.ensures c.registry.ensures c.in_err-row.was

pub returns : goal.returns
returns c =
    ap Some (numbers_of_cells c.in_ok-row.row.now c.tag_at.result c.tag_at-2.result c.tag_at-3.result c.tag_at.ensures
    c.tag_at-2.ensures c.tag_at-3.ensures)
    ∙ tags_of_found c.args.code.now _ _ _ c.row_of.ensures c.registry.ensures c.in_ok-row.was
