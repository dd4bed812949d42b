use Rattle.std.proofs.Common.{get_or}
use Rattle.rb_text.specs.declared.feature.Feature.{Feature}
use Rattle.ot_map.specs.CommonFeatures.{user_feature}
use Rattle.ot_map.proofs.AskedLemmas.{asks_user, asks_more}
use Rattle.ot_map.proofs.default_features.add_user_features.Goals as goal

abbrev nothing : Feature
nothing = record { tag = record { 0 = 0 }; value = 0; start = 0; end = 0 }

pub loop-feature-preserved : goal.loop-feature-preserved
loop-feature-preserved c =
    asks_more user_feature c.args.features.now c.loop-feature.feature-index nothing
    c.args.builder.now c.loop-feature.builder c.add_feature.new.self c.loop-feature-test.true c.loop-feature.invariant
    (asks_user c.loop-feature.builder c.add_feature.new.self (get_or c.args.features.now c.loop-feature.feature-index nothing)
    c.is_whole.result c.is_whole.ensures
    c.in_ok-add_feature.ensures.pauses c.in_ok-add_feature.ensures.null c.in_ok-add_feature.ensures.asked)
