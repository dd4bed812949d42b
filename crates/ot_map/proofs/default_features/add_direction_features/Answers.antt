use Rattle.std.proofs.Common.{codes, sym, subst}
use Rattle.rb_common.specs.declared.direction.Direction.{Direction}
use Rattle.ot_map.specs.Asked.{Asks}
use Rattle.ot_map.specs.CommonFeatures.{direction_features}
use Rattle.ot_map.specs.Requests.{every_glyph, no_flag}
use Rattle.ot_map.proofs.AskedLemmas.{asks_then, asks_by_name}
use Rattle.ot_map.proofs.default_features.add_direction_features.Goals as goal

pub returns-in_ok-add_feature-in-RightToLeft : goal.returns-in_ok-add_feature-in-RightToLeft
returns-in_ok-add_feature-in-RightToLeft c =
    let rtla = asks_by_name c.args.builder.now c.enable_feature.new.self c.from_bytes.result (codes "rtla") every_glyph 1 c.from_bytes.ensures
    c.in_ok-enable_feature-in-RightToLeft.ensures.pauses c.in_ok-enable_feature-in-RightToLeft.ensures.null c.in_ok-enable_feature-in-RightToLeft.ensures.asked in
    let rtlm = asks_by_name c.enable_feature.new.self c.add_feature.new.self c.from_bytes-in-RightToLeft.result (codes "rtlm") no_flag 1 c.from_bytes-in-RightToLeft.ensures
    c.in_ok-add_feature-in-RightToLeft.ensures.pauses c.in_ok-add_feature-in-RightToLeft.ensures.null c.in_ok-add_feature-in-RightToLeft.ensures.asked in
    let all = asks_then _ _ _ _ _ rtla rtlm in
    subst (λ (d : Direction). Asks (direction_features d) c.args.builder.now c.add_feature.new.self) (sym c.in-RightToLeft.is) all
