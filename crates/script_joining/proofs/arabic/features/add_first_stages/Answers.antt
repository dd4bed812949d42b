use Rattle.std.proofs.Common.{codes, true}
use Rattle.ot_map.specs.Requests.{every_glyph, over_no_joiner}
use Rattle.ot_map.specs.declared.plan.Pause.TheVariants.{Nothing, RecordStch}
use Rattle.ot_map.proofs.AskedLemmas.{asks_by_name, asks_pause, asks_then}
use Rattle.script_joining.proofs.arabic.features.add_first_stages.Goals as goal

pub returns : goal.returns
returns c =
    let stch = asks_by_name c.args.builder.now c.enable_feature.new.self c.from_bytes.result (codes "stch") every_glyph 1 c.from_bytes.ensures
    c.in_ok-enable_feature.ensures.pauses c.in_ok-enable_feature.ensures.null c.in_ok-enable_feature.ensures.asked in
    let noted = asks_pause c.enable_feature.new.self c.add_gsub_pause.new.self RecordStch c.in_ok-add_gsub_pause.ensures.pauses
    c.in_ok-add_gsub_pause.ensures.requests c.in_ok-add_gsub_pause.ensures.tables in
    let ccmp = asks_by_name c.add_gsub_pause.new.self c.enable_feature-2.new.self c.from_bytes-2.result (codes "ccmp") (record over_no_joiner { is_global = true }) 1 c.from_bytes-2.ensures
    c.in_ok-enable_feature-2.ensures.pauses c.in_ok-enable_feature-2.ensures.null c.in_ok-enable_feature-2.ensures.asked in
    let locl = asks_by_name c.enable_feature-2.new.self c.enable_feature-3.new.self c.from_bytes-3.result (codes "locl") (record over_no_joiner { is_global = true }) 1 c.from_bytes-3.ensures
    c.in_ok-enable_feature-3.ensures.pauses c.in_ok-enable_feature-3.ensures.null c.in_ok-enable_feature-3.ensures.asked in
    let next = asks_pause c.enable_feature-3.new.self c.add_gsub_pause-2.new.self Nothing c.in_ok-add_gsub_pause-2.ensures.pauses
    c.in_ok-add_gsub_pause-2.ensures.requests c.in_ok-add_gsub_pause-2.ensures.tables in
    let from_1 = asks_then _ _ _ _ _ locl next in
    let from_2 = asks_then _ _ _ _ _ ccmp from_1 in
    let from_3 = asks_then _ _ _ _ _ noted from_2 in
    let all = asks_then _ _ _ _ _ stch from_3 in
    all
