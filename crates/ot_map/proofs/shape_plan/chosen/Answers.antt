use Rattle.std.proofs.Common.{map, sym, ap, ◌∙◌}
use Rattle.ot_map.specs.Choice.{system_of}
use Rattle.ot_map.specs.declared.builder.ChosenTable.{ChosenTable}
use Rattle.ot_map.proofs.shape_plan.chosen.Goals as goal

pub returns : goal.returns
returns c =
    let same = c.with_substitutions.ensures in
    record {
      scripts = ap (λ (it : ChosenTable). it.lists.scripts.now) same ∙ c.new.ensures.scripts;
      features = ap (λ (it : ChosenTable). it.lists.features.now) same ∙ c.new.ensures.features;
      lookups = ap (λ (it : ChosenTable). it.lists.lookup_count) same ∙ c.new.ensures.lookups;
      substitutions = ap (λ (it : ChosenTable). it.lists.substitutions.now) same;
      script = ap (λ (it : ChosenTable). (it.script.tag.0, it.script.table.now)) same ∙ c.new.ensures.script;
      system = ap (λ (it : ChosenTable). it.system.now) same ∙ c.new.ensures.system
          ∙ ap (λ (it : ChosenTable). system_of it.script.table.now (map (λ tag. tag.0) c.args.text.now.languages.now)) (sym same);
    }
