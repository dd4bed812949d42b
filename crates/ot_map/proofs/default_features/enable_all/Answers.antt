use Rattle.std.proofs.Common.{get_or, true, []}
use Rattle.ot_map.specs.Asked.{enabled, named}
use Rattle.ot_map.proofs.AskedLemmas.{asks_by_name, asks_more}
use Rattle.ot_map.proofs.default_features.enable_all.Goals as goal

pub loop-name-preserved : goal.loop-name-preserved
loop-name-preserved c =
    asks_more (λ name. enabled c.args.flags (named name.now)) c.args.names.now c.loop-name.name-index
    (record { ref_ptr = (0, 0); now = [] })
    c.args.builder.now c.loop-name.builder c.enable_feature.new.self c.loop-name-test.true c.loop-name.invariant
    (asks_by_name c.loop-name.builder c.enable_feature.new.self c.from_bytes.result
    (get_or c.args.names.now c.loop-name.name-index (record { ref_ptr = (0, 0); now = [] })).now
    (record c.args.flags { is_global = true }) 1
    c.from_bytes.ensures c.in_ok-enable_feature.ensures.pauses c.in_ok-enable_feature.ensures.null c.in_ok-enable_feature.ensures.asked)
