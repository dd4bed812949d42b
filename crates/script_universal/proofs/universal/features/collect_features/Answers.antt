use Rattle.ot_map.specs.declared.plan.Pause.TheVariants.{Nothing}
use Rattle.ot_map.proofs.AskedLemmas.{asks_pause, asks_then}
use Rattle.script_universal.proofs.universal.features.collect_features.Goals as goal

pub returns-clause-asks : goal.returns-clause-asks
returns-clause-asks c =
    let next = asks_pause c.add_all.new.builder c.add_gsub_pause.new.self Nothing c.in_ok-add_gsub_pause.ensures.pauses
    c.in_ok-add_gsub_pause.ensures.requests c.in_ok-add_gsub_pause.ensures.tables in
    let from_1 = asks_then _ _ _ _ _ next c.in_ok-add_all-2.ensures.asks in
    let from_2 = asks_then _ _ _ _ _ c.in_ok-add_all.ensures.asks from_1 in
    let all = asks_then _ _ _ _ _ c.in_ok-add_basic_features.ensures.asks from_2 in
    all
