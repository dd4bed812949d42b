use Rattle.ot_map.proofs.AskedLemmas.{asks_by_name}
use Rattle.script_syllables.proofs.requests.add_one.Goals as goal

pub returns-clause-asks : goal.returns-clause-asks
returns-clause-asks c =
    asks_by_name c.args.builder.now c.add_feature.new.self c.from_bytes.result c.args.name.now
    (record c.args.flags { is_global = c.args.is_global }) 1 c.from_bytes.ensures
    c.in_ok-add_feature.ensures.pauses c.in_ok-add_feature.ensures.null c.in_ok-add_feature.ensures.asked
