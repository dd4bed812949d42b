-- The pauses between the stages of a plan that is being collected.
use Rattle.std.specs.Prelude.{◌≡◌}
use Rattle.ot_map.specs.declared.builder.PlanBuilder.{PlanBuilder}

-- the pauses stay as they were, and so do the tables
abbrev pub HasSamePauses : PlanBuilder → PlanBuilder → Type 0
HasSamePauses old new = (new.pauses ≡ old.pauses) × (new.gsub ≡ old.gsub) × (new.gpos ≡ old.gpos)

-- the tables stay as they were
abbrev pub HasSameTables : PlanBuilder → PlanBuilder → Type 0
HasSameTables old new = (new.gsub ≡ old.gsub) × (new.gpos ≡ old.gpos)
