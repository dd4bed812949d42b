use Rattle.std.proofs.Common.{◌++◌, ◌∷◌}
use Rattle.glyph_lists.specs.Clusters.{run_merge}
use Rattle.glyph_lists.specs.Deletion.{merge_or_mark, deletion}
use Rattle.glyph_lists.specs.Replacement.{replacement}
use Rattle.glyph_laws.proofs.NumbersLemmas.{Stands-from_occurs, occurs-from_stands, run_merge_stands, merged_stands}
use Rattle.glyph_laws.proofs.NumbersLemmas.{deleted_stands}
use Rattle.glyph_laws.proofs.ReplacementLemmas.{replaced_stands}
use Rattle.glyph_laws.proofs.laws.no_cluster_is_new.Goals as goal

pub returns-clause-run_merge : goal.returns-clause-run_merge
returns-clause-run_merge c = λ l p q floor d in_l on. occurs-from_stands d l
    (run_merge_stands l p q floor d in_l (Stands-from_occurs d (run_merge l p q floor) on))

pub returns-clause-merge : goal.returns-clause-merge
returns-clause-merge c = λ any_order l p q floor d in_l on. occurs-from_stands d l
    (merged_stands any_order l p q floor d in_l (Stands-from_occurs d (merge_or_mark any_order l p q floor) on))

pub returns-clause-deletion : goal.returns-clause-deletion
returns-clause-deletion c = λ any_order out x rest d on.
    occurs-from_stands d (out ++ x ∷ rest)
    (deleted_stands any_order out x rest d
    (Stands-from_occurs d ((deletion any_order out x rest).out ++ (deletion any_order out x rest).rest) on))

pub returns-clause-replacement : goal.returns-clause-replacement
returns-clause-replacement c = λ any_order l p q ids d up in_l here on. occurs-from_stands d l
    (replaced_stands any_order l p q ids up in_l here d (Stands-from_occurs d (replacement any_order l p q ids) on))
