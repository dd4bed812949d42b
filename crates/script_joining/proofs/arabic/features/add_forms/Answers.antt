use Rattle.std.proofs.Common.{get_or, [], ◌∷◌, subst}
use Rattle.ot_map.specs.Asked.{Asks, Request, named}
use Rattle.ot_map.specs.declared.plan.Pause.TheVariants.{Nothing}
use Rattle.ot_map.specs.declared.request.FeatureFlags.{FeatureFlags}
use Rattle.ot_map.proofs.AskedLemmas.{asks_by_name, asks_pause, asks_then, stages_more}
use Rattle.script_joining.specs.ArabicFeatures.{form_feature}
use Rattle.script_joining.proofs.arabic.features.add_forms.Goals as goal

pub loop-name-preserved : goal.loop-name-preserved
loop-name-preserved c =
    let name = (get_or c.args.names.now c.loop-name.name-index (record { ref_ptr = (0, 0); now = [] })).now in
    let asked = subst (λ (flags : FeatureFlags). Asks (Request (named name) flags 1 ∷ []) c.loop-name.builder c.add_feature.new.self)
    c.form_flags-flags.ensures
    (asks_by_name c.loop-name.builder c.add_feature.new.self c.from_bytes.result name c.form_flags-flags.result 1
    c.from_bytes.ensures c.in_ok-add_feature.ensures.pauses c.in_ok-add_feature.ensures.null c.in_ok-add_feature.ensures.asked) in
    let pause = asks_pause c.add_feature.new.self c.add_gsub_pause.new.self Nothing c.in_ok-add_gsub_pause.ensures.pauses
    c.in_ok-add_gsub_pause.ensures.requests c.in_ok-add_gsub_pause.ensures.tables in
    let both = asks_then _ _ _ _ _ asked pause in
    stages_more (λ name. form_feature c.args.is_arabic name.now) c.args.names.now c.loop-name.name-index
    (record { ref_ptr = (0, 0); now = [] }) c.args.builder.now c.loop-name.builder c.add_gsub_pause.new.self
    c.loop-name-test.true c.loop-name.invariant both
