use Rattle.std.proofs.Common.{◌≡◌, ◌∙◌, ap, codes, not, subst, true}
use Rattle.rb_common.specs.Tag.{tag_of}
use Rattle.ot_map.specs.Asked.{Asks, has_feature}
use Rattle.ot_map.specs.Requests.{over_no_joiner}
use Rattle.ot_map.specs.declared.plan.Pause.TheVariants.{Nothing}
use Rattle.ot_map.proofs.AskedLemmas.{asks_by_name, asks_then, has_feature-same}
use Rattle.script_joining.specs.ArabicFeatures.{ended_if}
use Rattle.script_joining.proofs.arabic.features.add_ligatures.Goals as goal

pub returns : goal.returns
returns c =
    let calt = asks_by_name c.args.builder.now c.enable_feature.new.self c.from_bytes.result (codes "calt") (record over_no_joiner { is_global = true }) 1 c.from_bytes.ensures
    c.in_ok-enable_feature.ensures.pauses c.in_ok-enable_feature.ensures.null c.in_ok-enable_feature.ensures.asked in
    let same : c.has_feature-requires_forms.result ≡ has_feature c.args.builder.now (tag_of (codes "rclt")) =
    c.has_feature-requires_forms.ensures
    ∙ ap (has_feature c.enable_feature.new.self) c.from_bytes-2.ensures
    ∙ has_feature-same _ c.args.builder.now c.enable_feature.new.self (tag_of (codes "rclt")) calt in
    let ended = subst (λ requires. Asks (ended_if (not requires) Nothing) c.enable_feature.new.self c.end_stage_if.new.builder) same
    c.in_ok-end_stage_if.ensures in
    let liga = asks_by_name c.end_stage_if.new.builder c.enable_feature-2.new.self c.from_bytes-3.result (codes "liga") (record over_no_joiner { is_global = true }) 1 c.from_bytes-3.ensures
    c.in_ok-enable_feature-2.ensures.pauses c.in_ok-enable_feature-2.ensures.null c.in_ok-enable_feature-2.ensures.asked in
    let clig = asks_by_name c.enable_feature-2.new.self c.enable_feature-3.new.self c.from_bytes-4.result (codes "clig") (record over_no_joiner { is_global = true }) 1 c.from_bytes-4.ensures
    c.in_ok-enable_feature-3.ensures.pauses c.in_ok-enable_feature-3.ensures.null c.in_ok-enable_feature-3.ensures.asked in
    let mset = asks_by_name c.enable_feature-3.new.self c.enable_feature-4.new.self c.from_bytes-5.result (codes "mset") (record over_no_joiner { is_global = true }) 1 c.from_bytes-5.ensures
    c.in_ok-enable_feature-4.ensures.pauses c.in_ok-enable_feature-4.ensures.null c.in_ok-enable_feature-4.ensures.asked in
    let from_1 = asks_then _ _ _ _ _ clig mset in
    let from_2 = asks_then _ _ _ _ _ liga from_1 in
    let from_3 = asks_then _ _ _ _ _ ended from_2 in
    let all = asks_then _ _ _ _ _ calt from_3 in
    all
