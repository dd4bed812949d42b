use Rattle.std.proofs.Common.{◌≡◌, Some, sym, ap, ◌∙◌}
use Rattle.std.specs.Option.{option_and_then}
use Rattle.ot_map.specs.Tables.{feature_tag, tag_in_system}
use Rattle.ot_map.proofs.FoundLemmas.{noted_at-other}
use Rattle.ot_map.proofs.builder.note.Goals as goal

pub returns-in-Err : goal.returns-in-Err
returns-in-Err c = λ ordered.
    let some : tag_in_system c.args.table.now.lists.features.now c.args.table.now.system.now c.args.place ≡ Some c.in-Some-feature_tag.tag.0 =
    ap (option_and_then (feature_tag c.args.table.now.lists.features.now)) (sym c.in-Some.ensures)
    ∙ sym c.in-Some-feature_tag.ensures in
    noted_at-other c.args.table.now c.args.is_gsub c.args.place c.in-Some-feature_tag.tag.0 c.in-Err.field-0 c.args.requests.now some
    (c.in-Err.ensures.gap ordered)
