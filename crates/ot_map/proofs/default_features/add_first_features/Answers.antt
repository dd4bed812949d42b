use Rattle.std.proofs.Common.{codes}
use Rattle.ot_map.specs.Requests.{every_glyph}
use Rattle.ot_map.specs.declared.plan.Pause.TheVariants.{Nothing}
use Rattle.ot_map.proofs.AskedLemmas.{asks_then, asks_by_name, asks_pause}
use Rattle.ot_map.proofs.default_features.add_first_features.Goals as goal

pub returns : goal.returns
returns c =
    let rvrn = asks_by_name c.args.builder.now c.enable_feature.new.self c.from_bytes.result (codes "rvrn") every_glyph 1 c.from_bytes.ensures
    c.in_ok-enable_feature.ensures.pauses c.in_ok-enable_feature.ensures.null c.in_ok-enable_feature.ensures.asked in
    let pause = asks_pause c.enable_feature.new.self c.add_gsub_pause.new.self Nothing c.in_ok-add_gsub_pause.ensures.pauses
    c.in_ok-add_gsub_pause.ensures.requests c.in_ok-add_gsub_pause.ensures.tables in
    let behind = asks_then _ _ _ _ _ c.in_ok-add_direction_features.ensures c.in_ok-add_chosen_features.ensures in
    let from_pause = asks_then _ _ _ _ _ pause behind in
    let all = asks_then _ _ _ _ _ rvrn from_pause in
    all
