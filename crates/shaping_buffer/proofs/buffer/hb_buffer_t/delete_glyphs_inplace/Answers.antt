use Rattle.std.proofs.Common.{◌≡◌, [], arith}
use Rattle.std.proofs.lemmas.Grind.{common_steps}
use Rattle.shaping_buffer.proofs.ClosedKeepsLemmas.{keeps_delete_glyphs_inplace}
use Rattle.shaping_buffer.proofs.KeepsLemmas.{kept_as}
use Rattle.shaping_buffer.proofs.buffer.hb_buffer_t.delete_glyphs_inplace.Goals as goal

pub returns-then-merges-clause-keeps : goal.returns-then-merges-clause-keeps
returns-then-merges-clause-keeps g c = λ test by.
    let none : c.args.self.now.out ≡ [] = grind (arith, common_steps) in
    kept_as _ _ _ (keeps_delete_glyphs_inplace test c.args.self.now none) (grind (arith, common_steps))

pub returns-clause-keeps : goal.returns-clause-keeps
returns-clause-keeps g c = λ test by.
    let none : c.args.self.now.out ≡ [] = grind (arith, common_steps) in
    kept_as _ _ _ (keeps_delete_glyphs_inplace test c.args.self.now none) (grind (arith, common_steps))
