use Rattle.aat_substitution.specs.Deletion.{is_deleted}
use Rattle.aat_substitution.proofs.deletion.remove_deleted_glyphs.Goals as goal

pub returns-clause-keeps : goal.returns-clause-keeps
returns-clause-keeps c = c.delete_glyphs_inplace.ensures.keeps is_deleted (λ x r h. h)
