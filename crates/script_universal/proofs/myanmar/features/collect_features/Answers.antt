use Rattle.std.proofs.Common.{codes, true}
use Rattle.ot_map.specs.Requests.{no_flag}
use Rattle.ot_map.specs.declared.plan.Pause.TheVariants.{InitialReordering, Nothing, SetUpSyllables}
use Rattle.ot_map.proofs.AskedLemmas.{asks_by_name, asks_pause, asks_then}
use Rattle.script_syllables.specs.SyllableFeatures.{within_syllable}
use Rattle.script_universal.proofs.myanmar.features.collect_features.Goals as goal

pub returns-clause-asks : goal.returns-clause-asks
returns-clause-asks c =
    let set_up = asks_pause c.args.builder.now c.add_gsub_pause.new.self SetUpSyllables c.in_ok-add_gsub_pause.ensures.pauses
    c.in_ok-add_gsub_pause.ensures.requests c.in_ok-add_gsub_pause.ensures.tables in
    let locl = asks_by_name c.add_gsub_pause.new.self c.enable_feature.new.self c.from_bytes.result (codes "locl") (record (within_syllable no_flag) { is_global = true }) 1 c.from_bytes.ensures
    c.in_ok-enable_feature.ensures.pauses c.in_ok-enable_feature.ensures.null c.in_ok-enable_feature.ensures.asked in
    let ccmp = asks_by_name c.enable_feature.new.self c.enable_feature-2.new.self c.from_bytes-2.result (codes "ccmp") (record (within_syllable no_flag) { is_global = true }) 1 c.from_bytes-2.ensures
    c.in_ok-enable_feature-2.ensures.pauses c.in_ok-enable_feature-2.ensures.null c.in_ok-enable_feature-2.ensures.asked in
    let ordered = asks_pause c.enable_feature-2.new.self c.add_gsub_pause-2.new.self InitialReordering c.in_ok-add_gsub_pause-2.ensures.pauses
    c.in_ok-add_gsub_pause-2.ensures.requests c.in_ok-add_gsub_pause-2.ensures.tables in
    let next = asks_pause c.add_in_stages.new.builder c.add_gsub_pause-3.new.self Nothing c.in_ok-add_gsub_pause-3.ensures.pauses
    c.in_ok-add_gsub_pause-3.ensures.requests c.in_ok-add_gsub_pause-3.ensures.tables in
    let from_1 = asks_then _ _ _ _ _ next c.in_ok-add_all.ensures.asks in
    let from_2 = asks_then _ _ _ _ _ c.in_ok-add_in_stages.ensures.asks from_1 in
    let from_3 = asks_then _ _ _ _ _ ordered from_2 in
    let from_4 = asks_then _ _ _ _ _ ccmp from_3 in
    let from_5 = asks_then _ _ _ _ _ locl from_4 in
    let all = asks_then _ _ _ _ _ set_up from_5 in
    all
