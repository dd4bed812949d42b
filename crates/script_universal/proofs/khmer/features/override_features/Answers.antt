use Rattle.std.proofs.Common.{codes}
use Rattle.ot_map.specs.Requests.{every_glyph}
use Rattle.ot_map.proofs.AskedLemmas.{asks_by_name, asks_then}
use Rattle.script_universal.proofs.khmer.features.override_features.Goals as goal

pub returns-clause-asks : goal.returns-clause-asks
returns-clause-asks c =
    let clig = asks_by_name c.args.builder.now c.enable_feature.new.self c.from_bytes.result (codes "clig") every_glyph 1 c.from_bytes.ensures
    c.in_ok-enable_feature.ensures.pauses c.in_ok-enable_feature.ensures.null c.in_ok-enable_feature.ensures.asked in
    let liga = asks_by_name c.enable_feature.new.self c.disable_feature.new.self c.from_bytes-2.result (codes "liga") every_glyph 0 c.from_bytes-2.ensures
    c.in_ok-disable_feature.ensures.pauses c.in_ok-disable_feature.ensures.null c.in_ok-disable_feature.ensures.asked in
    let all = asks_then _ _ _ _ _ clig liga in
    all
