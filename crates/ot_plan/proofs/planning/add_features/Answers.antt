use Rattle.std.proofs.Common.{List, codes, subst, sym, true}
use Rattle.std.proofs.lemmas.List.{append_assoc}
use Rattle.rb_common.specs.Tag.{tag_of}
use Rattle.ot_map.specs.Asked.{Ask, Asks}
use Rattle.ot_map.specs.CommonFeatures.{last_features, user_features}
use Rattle.ot_map.specs.Requests.{every_glyph}
use Rattle.ot_map.proofs.AskedLemmas.{asks_by_name, asks_then, has_feature-same}
use Rattle.script_shapers.specs.ShaperFeatures.{features_of, requires_forms}
use Rattle.ot_plan.proofs.planning.add_features.Goals as goal

pub returns-clause-asks : goal.returns-clause-asks
returns-clause-asks c =
    let shaper = c.with_morx-shaper.result in
    let trak = asks_by_name c.args.builder.now c.enable_feature.new.self c.from_bytes.result (codes "trak") (record every_glyph { has_fallback = true }) 1 c.from_bytes.ensures
    c.in_ok-enable_feature.ensures.pauses c.in_ok-enable_feature.ensures.null c.in_ok-enable_feature.ensures.asked in
    let requires = has_feature-same _ c.args.builder.now c.enable_feature.new.self (tag_of (codes "rclt")) trak in
    let asked = features_of shaper c.args.segment.now.script (requires_forms c.args.builder.now) in
    let own = subst (λ requires. Asks (features_of shaper c.args.segment.now.script requires) c.enable_feature.new.self c.collect_features.new.builder)
    requires c.in_ok-collect_features.ensures.asks in
    let both = subst (λ (asks : List Ask). Asks asks c.enable_feature.new.self c.add_common_features.new.builder)
    (sym (append_assoc asked (last_features c.args.segment.now.direction) (user_features c.args.features.now)))
    (asks_then _ _ _ _ _ own c.in_ok-add_common_features.ensures) in
    let behind = asks_then _ _ _ _ _ both c.in_ok-override_features.ensures.asks in
    let all = asks_then _ _ _ _ _ trak behind in
    all
