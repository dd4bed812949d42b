use Rattle.std.proofs.Common.{codes}
use Rattle.ot_map.specs.Requests.{every_glyph}
use Rattle.ot_map.proofs.AskedLemmas.{asks_by_name}
use Rattle.script_indic.proofs.features.override_features.Goals as goal

pub returns-clause-asks : goal.returns-clause-asks
returns-clause-asks c =
    asks_by_name c.args.builder.now c.disable_feature.new.self c.from_bytes.result (codes "liga") every_glyph 0 c.from_bytes.ensures
    c.in_ok-disable_feature.ensures.pauses c.in_ok-disable_feature.ensures.null c.in_ok-disable_feature.ensures.asked
