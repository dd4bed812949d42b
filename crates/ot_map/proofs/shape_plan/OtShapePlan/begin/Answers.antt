use Rattle.std.proofs.Common.{ℕ, List, map, sym, subst, ap, ◌∙◌}
use Rattle.ot_map.specs.Chosen.{IsChosenOf}
use Rattle.ot_map.specs.CommonFeatures.{first_features}
use Rattle.ot_map.specs.declared.builder.ChosenTable.{ChosenTable}
use Rattle.ot_map.proofs.AskedLemmas.{collected-first}
use Rattle.ot_map.proofs.shape_plan.OtShapePlan.begin.Goals as goal

pub returns-clause-gsub : goal.returns-clause-gsub
returns-clause-gsub c =
    ap (λ (it : ChosenTable). it.script.tag.0) (c.in_ok-add_first_features.ensures.tables.0 ∙ c.new-builder.ensures.tables.0)
    ∙ ap (λ (it : ℕ × List ℕ). it.0) c.chosen-gsub.ensures.script

pub returns-clause-gpos : goal.returns-clause-gpos
returns-clause-gpos c =
    ap (λ (it : ChosenTable). it.script.tag.0) (c.in_ok-add_first_features.ensures.tables.1 ∙ c.new-builder.ensures.tables.1)
    ∙ ap (λ (it : ℕ × List ℕ). it.0) c.chosen-gpos.ensures.script

pub returns-clause-tables : goal.returns-clause-tables
returns-clause-tables c =
    let scripts = map (λ tag. tag.0) c.args.text.now.scripts.now in
    let languages = map (λ tag. tag.0) c.args.text.now.languages.now in
    record {
      gsub = subst (IsChosenOf c.args.font.now.gsub.now c.args.font.now.gsub_substitutions.now scripts languages)
          (sym (c.in_ok-add_first_features.ensures.tables.0 ∙ c.new-builder.ensures.tables.0)) c.chosen-gsub.ensures;
      gpos = subst (IsChosenOf c.args.font.now.gpos.now c.args.font.now.gpos_substitutions.now scripts languages)
          (sym (c.in_ok-add_first_features.ensures.tables.1 ∙ c.new-builder.ensures.tables.1)) c.chosen-gpos.ensures;
    }

pub returns-clause-asked : goal.returns-clause-asked
returns-clause-asked c =
    collected-first (first_features c.args.text.now.direction) c.new-builder.result c.add_first_features.new.builder
    c.in_ok-add_first_features.ensures c.new-builder.ensures.empty
