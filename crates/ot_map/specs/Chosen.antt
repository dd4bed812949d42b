-- What is chosen of a table for a text (HarfBuzz, `hb_ot_map_builder_t::hb_ot_map_builder_t`).
use Rattle.std.specs.Prelude.{◌≡◌, ℕ, List, map}
use Rattle.ot_map.specs.Choice.{script_of, system_of}
use Rattle.ot_map.specs.Tables.{list_of, lookup_count}
use Rattle.ot_map.specs.declared.builder.ChosenTable.{ChosenTable}
use Rattle.ot_map.specs.declared.builder.PlanBuilder.{PlanBuilder}
use Rattle.ot_map.specs.declared.shape_plan.FontLayout.{FontLayout}
use Rattle.ot_map.specs.declared.shape_plan.TextProperties.{TextProperties}

-- Of a table `GSUB` or `GPOS`, for a text with these tags of its script and of its language, the best first. Feature tables of
-- `feature_tables` stand in the place of others.
pub record IsChosenOf (table feature_tables script_tags language_tags : List ℕ) (chosen : ChosenTable) : Type 0 where
  pub scripts : chosen.lists.scripts.now ≡ list_of table 4
  pub features : chosen.lists.features.now ≡ list_of table 6
  pub lookups : chosen.lists.lookup_count ≡ lookup_count table
  pub substitutions : chosen.lists.substitutions.now ≡ feature_tables
  pub script : (chosen.script.tag.0, chosen.script.table.now) ≡ script_of (list_of table 4) script_tags
  pub system : chosen.system.now ≡ system_of chosen.script.table.now language_tags

-- of both tables of a font
pub record AreChosenOf (font : FontLayout) (text : TextProperties) (builder : PlanBuilder) : Type 0 where
  pub gsub : IsChosenOf font.gsub.now font.gsub_substitutions.now (map (λ tag. tag.0) text.scripts.now)
      (map (λ tag. tag.0) text.languages.now) builder.gsub
  pub gpos : IsChosenOf font.gpos.now font.gpos_substitutions.now (map (λ tag. tag.0) text.scripts.now)
      (map (λ tag. tag.0) text.languages.now) builder.gpos
