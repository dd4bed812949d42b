use Rattle.std.proofs.Common.{◌++◌, sym, subst, ◌∙◌, true, if◌then◌else◌}
use Rattle.ot_map.specs.Asked.{Asks}
use Rattle.ot_map.specs.CommonFeatures.{common_features, horizontal_features, vertical_features}
use Rattle.ot_map.proofs.AskedLemmas.{asks_then}
use Rattle.ot_map.proofs.default_features.add_last_features.Goals as goal

pub returns-in_ok-add_horizontal_features : goal.returns-in_ok-add_horizontal_features
returns-in_ok-add_horizontal_features c =
    let all = asks_then _ _ _ _ _ c.in_ok-add_common.ensures c.in_ok-add_horizontal_features.ensures in
    subst (λ t. Asks (common_features ++ (if t then horizontal_features else vertical_features)) c.args.builder.now
    c.add_horizontal_features.new.builder) (sym c.if-is_horizontal.true ∙ c.is_horizontal.ensures) all

pub returns-in_ok-enable_all : goal.returns-in_ok-enable_all
returns-in_ok-enable_all c =
    let all = asks_then _ _ _ _ _ c.in_ok-add_common.ensures c.in_ok-enable_all.ensures in
    subst (λ t. Asks (common_features ++ (if t then horizontal_features else vertical_features)) c.args.builder.now
    c.enable_all.new.builder) (sym c.if-is_horizontal.false ∙ c.is_horizontal.ensures) all
