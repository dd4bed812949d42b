use Rattle.std.proofs.Common.{◌≡◌, ◌++◌, ℕ, List, codes, map, false, subst, sym, ap, ◌∙◌}
use Rattle.rb_common.specs.Tag.{tag_of}
use Rattle.rb_common.specs.declared.direction.Direction.{Direction}
use Rattle.ot_map.specs.Asked.{Asks, collected, nothing_yet, with_asks}
use Rattle.ot_map.specs.Choice.{script_of}
use Rattle.ot_map.specs.CommonFeatures.{first_features}
use Rattle.ot_map.specs.Compiled.{IsCompiled}
use Rattle.ot_map.specs.Tables.{list_of}
use Rattle.ot_map.proofs.AskedLemmas.{has_feature-same}
use Rattle.script_shapers.specs.ShaperFeatures.{requires_forms}
use Rattle.script_shapers.specs.declared.shaper.ScriptShaper.{ScriptShaper}
use Rattle.ot_plan.specs.AskedFor.{other_features}
use Rattle.ot_plan.specs.Shapers.{shaper_in}
use Rattle.ot_plan.proofs.BuilderLemmas.{chosen_of, collected-order, collected-then}
use Rattle.ot_plan.proofs.DecisionLemmas.{marks_of, positioned_by}
use Rattle.ot_plan.proofs.planning.plan_of.Goals as goal

pub returns-clause-decides : goal.returns-clause-decides
returns-clause-decides g c =
    let segment = c.args.segment.now in
    let scripts = map (λ tag. tag.0) c.args.text.now.scripts.now in
    let decided = c.decided-shape.ensures in
    let tables = c.layout_of-tables.ensures in
    let tag = c.in_ok-builder.ensures.gsub
    ∙ ap (λ (gsub : List ℕ). (script_of (list_of gsub 4) scripts).0) tables.gsub in
    record {
      masks = decided.masks;
      tracking = c.mask-trak_mask.ensures;
      positions = positioned_by _ _ _ _ _ _ _ _ tables.gpos tables.kern (sym c.script_plan-script.ensures.shaper) decided.positions;
      marks = marks_of _ _ _ _ _ _ _ tables.kern
          (c.in_ok-chosen.ensures.own ∙ ap (shaper_in false segment.script segment.direction) tag)
          (c.in_ok-chosen.ensures.morx ∙ c.substitutes_by_morx-substitutes.ensures) decided.marks;
      joined = c.in_ok-fallback.ensures;
      joining = λ other. c.script_plan-script.ensures.fallback (λ arabic. other (c.script_plan-script.ensures.shaper ∙ arabic));
      forms = c.new-forms.ensures;
    }

pub returns-clause-asked : goal.returns-clause-asked
returns-clause-asked g c =
    let segment = c.args.segment.now in
    let features = c.args.features.now in
    let shaper = c.in_ok-chosen.chosen.shaper in
    let old = c.in_ok-builder.builder in
    let builder = c.add_features.new.builder in
    let tables = c.layout_of-tables.ensures in
    let begun = c.in_ok-builder.ensures in
    let added = c.in_ok-chosen.ensures.asks in
    let first = first_features segment.direction in
    let others = other_features shaper (requires_forms builder) segment.direction segment.script features in
    let before = subst (λ (d : Direction). collected old ≡ with_asks (first_features d) nothing_yet) c.requires begun.asked in
    let requires = has_feature-same (other_features shaper (requires_forms old) segment.direction segment.script features) old builder (tag_of (codes "rclt")) added in
    let behind = subst (λ requires. Asks (other_features shaper requires segment.direction segment.script features) old builder) (sym requires) added in
    let all = collected-then first others old builder before behind in
    record {
      builder = builder;
      gsub = chosen_of _ _ _ _ _ _ _ _ tables.gsub tables.varied_gsub added.tables.0 begun.tables.gsub;
      gpos = chosen_of _ _ _ _ _ _ _ _ tables.gpos tables.varied_gpos added.tables.1 begun.tables.gpos;
      asked = subst (λ (s : ScriptShaper). collected builder
          ≡ with_asks (first ++ other_features s (requires_forms builder) segment.direction segment.script features) nothing_yet)
          (sym c.script_plan-script.ensures.shaper) all;
      compiled = subst (IsCompiled builder) (sym c.decided-shape.ensures.layout)
          (c.in_ok-layout.ensures.compiled (collected-order (first ++ others) builder all));
    }
