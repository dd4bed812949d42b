use Rattle.std.proofs.Common.{codes, map, subst, true}
use Rattle.rb_common.specs.Tag.{tag_of}
use Rattle.ot_map.specs.Asked.{Asks, in_stages}
use Rattle.ot_map.specs.declared.plan.Pause.TheVariants.{ArabicFallback}
use Rattle.ot_map.proofs.AskedLemmas.{asks_by_name, asks_then, has_feature-same}
use Rattle.script_joining.specs.ArabicFeatures.{ended_if, form_feature, form_names, ligature_features, with_fallback}
use Rattle.script_joining.proofs.arabic.features.collect_features.Goals as goal

pub returns : goal.returns
returns c =
    let rlig = asks_by_name c.add_forms.new.builder c.enable_feature.new.self c.from_bytes.result (codes "rlig") (record with_fallback { is_global = true }) 1 c.from_bytes.ensures
    c.in_ok-enable_feature.ensures.pauses c.in_ok-enable_feature.ensures.null c.in_ok-enable_feature.ensures.asked in
    let flags = c.is_arabic-is_arabic.ensures in
    let forms = subst (λ arabic. Asks (in_stages (map (form_feature arabic) form_names)) c.add_first_stages.new.builder c.add_forms.new.builder)
    flags c.in_ok-add_forms.ensures in
    let ended = subst (λ arabic. Asks (ended_if arabic ArabicFallback) c.enable_feature.new.self c.end_stage_if.new.builder)
    flags c.in_ok-end_stage_if.ensures in
    let to_rlig = asks_then _ _ _ _ _ rlig ended in
    let to_forms = asks_then _ _ _ _ _ forms to_rlig in
    let before = asks_then _ _ _ _ _ c.in_ok-add_first_stages.ensures to_forms in
    let requires = has_feature-same _ c.args.builder.now c.end_stage_if.new.builder (tag_of (codes "rclt")) before in
    let ligatures = subst (λ requires. Asks (ligature_features requires) c.end_stage_if.new.builder c.add_ligatures.new.builder)
    requires c.in_ok-add_ligatures.ensures in
    let from_1 = asks_then _ _ _ _ _ ended ligatures in
    let from_2 = asks_then _ _ _ _ _ rlig from_1 in
    let from_3 = asks_then _ _ _ _ _ forms from_2 in
    let all = asks_then _ _ _ _ _ c.in_ok-add_first_stages.ensures from_3 in
    all
