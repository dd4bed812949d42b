use Rattle.std.proofs.Common.{codes, true}
use Rattle.ot_map.specs.Requests.{over_no_joiner}
use Rattle.ot_map.specs.declared.plan.Pause.TheVariants.{ClearSubstitutionFlags, RecordPref, RecordRphf}
use Rattle.ot_map.proofs.AskedLemmas.{asks_by_name, asks_pause, asks_then}
use Rattle.script_syllables.specs.SyllableFeatures.{within_syllable}
use Rattle.script_universal.proofs.universal.features.add_recorded_features.Goals as goal

pub returns-clause-asks : goal.returns-clause-asks
returns-clause-asks c =
    let cleared = asks_pause c.args.builder.now c.add_gsub_pause.new.self ClearSubstitutionFlags c.in_ok-add_gsub_pause.ensures.pauses
    c.in_ok-add_gsub_pause.ensures.requests c.in_ok-add_gsub_pause.ensures.tables in
    let rphf = asks_by_name c.add_gsub_pause.new.self c.add_feature.new.self c.from_bytes.result (codes "rphf") (within_syllable over_no_joiner) 1 c.from_bytes.ensures
    c.in_ok-add_feature.ensures.pauses c.in_ok-add_feature.ensures.null c.in_ok-add_feature.ensures.asked in
    let noted = asks_pause c.add_feature.new.self c.add_gsub_pause-2.new.self RecordRphf c.in_ok-add_gsub_pause-2.ensures.pauses
    c.in_ok-add_gsub_pause-2.ensures.requests c.in_ok-add_gsub_pause-2.ensures.tables in
    let cleared_again = asks_pause c.add_gsub_pause-2.new.self c.add_gsub_pause-3.new.self ClearSubstitutionFlags c.in_ok-add_gsub_pause-3.ensures.pauses
    c.in_ok-add_gsub_pause-3.ensures.requests c.in_ok-add_gsub_pause-3.ensures.tables in
    let pref = asks_by_name c.add_gsub_pause-3.new.self c.enable_feature.new.self c.from_bytes-2.result (codes "pref") (record (within_syllable over_no_joiner) { is_global = true }) 1 c.from_bytes-2.ensures
    c.in_ok-enable_feature.ensures.pauses c.in_ok-enable_feature.ensures.null c.in_ok-enable_feature.ensures.asked in
    let noted_too = asks_pause c.enable_feature.new.self c.add_gsub_pause-4.new.self RecordPref c.in_ok-add_gsub_pause-4.ensures.pauses
    c.in_ok-add_gsub_pause-4.ensures.requests c.in_ok-add_gsub_pause-4.ensures.tables in
    let from_1 = asks_then _ _ _ _ _ pref noted_too in
    let from_2 = asks_then _ _ _ _ _ cleared_again from_1 in
    let from_3 = asks_then _ _ _ _ _ noted from_2 in
    let from_4 = asks_then _ _ _ _ _ rphf from_3 in
    let all = asks_then _ _ _ _ _ cleared from_4 in
    all
