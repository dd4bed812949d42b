use Rattle.std.proofs.Common.{◌+◌, ◌≤◌, length, arith, refl}
use Rattle.std.proofs.lemmas.Grind.{common_steps}
use Rattle.shaping_buffer.proofs.ReplacementLemmas.{replace_glyphs-done, replaced_in_place}
use Rattle.shaping_buffer.proofs.buffer.hb_buffer_t.replace_any.Goals as goal

pub returns-in_err-replace-clause-meets : goal.returns-in_err-replace-clause-meets
returns-in_err-replace-clause-meets c =
    let a = c.args in
    let fits : length a.self.now.out + length a.ids.now ≤ a.self.now.max_len = grind (arith, common_steps) in
    rw (replace_glyphs-done a.count a.ids.now a.self.now c.requires.opened fits) (grind (arith, common_steps))

pub returns-in_err-replace-clause-in_place : goal.returns-in_err-replace-clause-in_place
returns-in_err-replace-clause-in_place c = λ together fewer.
    let a = c.args in
    let fits : length a.self.now.out + length a.ids.now ≤ a.self.now.max_len = grind (arith, common_steps) in
    let near : length a.self.now.out ≤ a.self.now.idx = grind (arith, common_steps) in
    replaced_in_place a.count a.ids.now a.self.now a.self.now _
    (rw (replace_glyphs-done a.count a.ids.now a.self.now c.requires.opened fits) (grind (arith, common_steps)))
    c.requires.opened together near fits fewer

pub returns-then-count-ge2 : goal.returns-then-count-ge2
returns-then-count-ge2 c =
    let a = c.args in
    let fits : length a.self.now.out + length a.ids.now ≤ a.self.now.max_len = grind (arith, common_steps) in
    record {
      meets = rw (replace_glyphs-done a.count a.ids.now a.self.now c.requires.opened fits)
          (refl, grind (arith, common_steps));
      in_place = λ together fewer. refl;
    }

pub returns-else-is_any : goal.returns-else-is_any
returns-else-is_any c =
    let a = c.args in
    let fits : length a.self.now.out + length a.ids.now ≤ a.self.now.max_len = grind (arith, common_steps) in
    record {
      meets = rw (replace_glyphs-done a.count a.ids.now a.self.now c.requires.opened fits)
          (refl, grind (arith, common_steps));
      in_place = λ together fewer. refl;
    }
