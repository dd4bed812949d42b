use Rattle.std.proofs.Common.{◌≡◌, None, Some, sym, ◌∙◌}
use Rattle.shape_fonts.proofs.AdvanceLemmas.{get_or-none}
use Rattle.shape_fonts.proofs.kept_advances.KeptAdvances.new.Goals as goal

pub invariant_of-result : goal.invariant_of-result
invariant_of-result c = record { are_own = λ place k e. let bad : None ≡ Some k = sym (get_or-none 1024 place) ∙ e in cc }
