use Rattle.std.proofs.Common.{codes}
use Rattle.ot_map.specs.Requests.{no_flag}
use Rattle.ot_map.proofs.AskedLemmas.{asks_by_name, asks_then}
use Rattle.script_letters.proofs.hangul.features.add_jamo_features.Goals as goal

pub returns-clause-asks : goal.returns-clause-asks
returns-clause-asks c =
    let ljmo = asks_by_name c.args.builder.now c.add_feature.new.self c.from_bytes.result (codes "ljmo") no_flag 1 c.from_bytes.ensures
    c.in_ok-add_feature.ensures.pauses c.in_ok-add_feature.ensures.null c.in_ok-add_feature.ensures.asked in
    let vjmo = asks_by_name c.add_feature.new.self c.add_feature-2.new.self c.from_bytes-2.result (codes "vjmo") no_flag 1 c.from_bytes-2.ensures
    c.in_ok-add_feature-2.ensures.pauses c.in_ok-add_feature-2.ensures.null c.in_ok-add_feature-2.ensures.asked in
    let tjmo = asks_by_name c.add_feature-2.new.self c.add_feature-3.new.self c.from_bytes-3.result (codes "tjmo") no_flag 1 c.from_bytes-3.ensures
    c.in_ok-add_feature-3.ensures.pauses c.in_ok-add_feature-3.ensures.null c.in_ok-add_feature-3.ensures.asked in
    let from_1 = asks_then _ _ _ _ _ vjmo tjmo in
    let all = asks_then _ _ _ _ _ ljmo from_1 in
    all
