use Rattle.std.proofs.Common.{codes, true}
use Rattle.ot_map.specs.Requests.{every_glyph, no_flag}
use Rattle.ot_map.proofs.AskedLemmas.{asks_then, asks_by_name}
use Rattle.ot_map.proofs.default_features.add_chosen_features.Goals as goal

pub returns : goal.returns
returns c =
    let frac = asks_by_name c.args.builder.now c.add_feature.new.self c.from_bytes.result (codes "frac") no_flag 1 c.from_bytes.ensures
    c.in_ok-add_feature.ensures.pauses c.in_ok-add_feature.ensures.null c.in_ok-add_feature.ensures.asked in
    let numr = asks_by_name c.add_feature.new.self c.add_feature-2.new.self c.from_bytes-2.result (codes "numr") no_flag 1 c.from_bytes-2.ensures
    c.in_ok-add_feature-2.ensures.pauses c.in_ok-add_feature-2.ensures.null c.in_ok-add_feature-2.ensures.asked in
    let dnom = asks_by_name c.add_feature-2.new.self c.add_feature-3.new.self c.from_bytes-3.result (codes "dnom") no_flag 1 c.from_bytes-3.ensures
    c.in_ok-add_feature-3.ensures.pauses c.in_ok-add_feature-3.ensures.null c.in_ok-add_feature-3.ensures.asked in
    let rand = asks_by_name c.add_feature-3.new.self c.add_feature-4.new.self c.from_bytes-4.result (codes "rand") (record every_glyph { random = true }) 255 c.from_bytes-4.ensures
    c.in_ok-add_feature-4.ensures.pauses c.in_ok-add_feature-4.ensures.null c.in_ok-add_feature-4.ensures.asked in
    let from_rand = asks_then _ _ _ _ _ rand c.in_ok-enable_all.ensures in
    let from_dnom = asks_then _ _ _ _ _ dnom from_rand in
    let from_numr = asks_then _ _ _ _ _ numr from_dnom in
    let all = asks_then _ _ _ _ _ frac from_numr in
    all
