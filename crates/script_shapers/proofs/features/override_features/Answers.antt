use Rattle.std.proofs.Common.{codes, subst, sym}
use Rattle.ot_map.specs.Asked.{Asks}
use Rattle.ot_map.specs.Requests.{every_glyph}
use Rattle.ot_map.proofs.AskedLemmas.{asks_by_name}
use Rattle.script_shapers.specs.ShaperFeatures.{overrides_of}
use Rattle.script_shapers.specs.declared.shaper.ScriptShaper.{ScriptShaper}
use Rattle.script_shapers.proofs.features.override_features.Goals as goal

pub returns-in_ok-disable_feature-in-Hangul-clause-asks : goal.returns-in_ok-disable_feature-in-Hangul-clause-asks
returns-in_ok-disable_feature-in-Hangul-clause-asks c =
    let calt = asks_by_name c.args.builder.now c.disable_feature.new.self c.from_bytes.result (codes "calt") every_glyph 0 c.from_bytes.ensures
    c.in_ok-disable_feature-in-Hangul.ensures.pauses c.in_ok-disable_feature-in-Hangul.ensures.null c.in_ok-disable_feature-in-Hangul.ensures.asked in
    subst (λ (s : ScriptShaper). Asks (overrides_of s) c.args.builder.now c.disable_feature.new.self) (sym c.in-Hangul.is) calt
