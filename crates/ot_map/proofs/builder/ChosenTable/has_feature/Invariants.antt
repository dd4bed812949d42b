use Rattle.font_tables.specs.Bytes.{is_number}
use Rattle.font_tables.proofs.RowLemmas.{NoneBelow}
use Rattle.ot_map.specs.Tables.{tag_in_system}
use Rattle.ot_map.proofs.builder.ChosenTable.has_feature.Given as goal

-- the features so far have other tags
abbrev pub invariant-loop-place : goal.invariant-loop-place
invariant-loop-place l = NoneBelow (λ place. is_number (tag_in_system l.self.lists.features.now l.self.system.now place) l.tag.0) l.place
