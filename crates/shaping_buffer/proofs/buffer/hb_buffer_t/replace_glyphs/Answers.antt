use Rattle.std.proofs.Common.{◌≡◌, ◌+◌, ◌≤◌, true, Ok, length, take, arith, refl}
use Rattle.std.proofs.lemmas.Grind.{common_steps}
use Rattle.std.proofs.lemmas.List.{length-take-le}
use Rattle.shaping_buffer.proofs.KeepsLemmas.{ordered_replacement, kept_replacement, left_some, left_within}
use Rattle.shaping_buffer.proofs.ReplacementLemmas.{replace_glyphs-done}
use Rattle.shaping_buffer.proofs.buffer.hb_buffer_t.replace_glyphs.Goals as goal

pub returns-then-replace_kept : goal.returns-then-replace_kept
returns-then-replace_kept c =
    let a = c.args in
    let s = a.self.now in
    let ids = take a.num_out a.glyph_data.now in
    let fits : length s.out + length ids ≤ s.max_len = grind (arith, common_steps) in
    let some = left_some s c.requires.opened c.requires.glyph in
    let within = left_within a.num_in s c.requires.opened c.requires.within in
    let size : length ids ≡ a.num_out = length-take-le a.num_out a.glyph_data.now c.requires.ids in
    record {
      meets = rw (replace_glyphs-done a.num_in ids s c.requires.opened fits) (refl, grind (arith, common_steps));
      keeps_order = ordered_replacement s (Ok true) _ a.num_in ids c.requires.opened some within
          (rw (replace_glyphs-done a.num_in ids s c.requires.opened fits) (refl, grind (arith, common_steps)));
      keeps = λ with_some. kept_replacement s (Ok true) _ a.num_in ids c.requires.opened some within
          (rw (replace_glyphs-done a.num_in ids s c.requires.opened fits) (refl, grind (arith, common_steps)))
          (omega arith);
      in_place = λ together fewer. refl;
    }

pub returns-clause-keeps_order : goal.returns-clause-keeps_order
returns-clause-keeps_order c =
    let a = c.args in
    let s = a.self.now in
    let some = left_some s c.requires.opened c.requires.glyph in
    let within = left_within a.num_in s c.requires.opened c.requires.within in
    ordered_replacement s c.replace_any.result _ a.num_in (take a.num_out a.glyph_data.now) c.requires.opened some within
    (grind (arith, common_steps))

pub returns-clause-keeps : goal.returns-clause-keeps
returns-clause-keeps c = λ with_some.
    let a = c.args in
    let s = a.self.now in
    let some = left_some s c.requires.opened c.requires.glyph in
    let within = left_within a.num_in s c.requires.opened c.requires.within in
    let size : length (take a.num_out a.glyph_data.now) ≡ a.num_out =
    length-take-le a.num_out a.glyph_data.now c.requires.ids in
    kept_replacement s c.replace_any.result _ a.num_in (take a.num_out a.glyph_data.now) c.requires.opened some within
    (grind (arith, common_steps)) (omega arith)

pub returns-clause-in_place : goal.returns-clause-in_place
returns-clause-in_place c = λ together fewer.
    let a = c.args in
    let size : length (take a.num_out a.glyph_data.now) ≡ a.num_out =
    length-take-le a.num_out a.glyph_data.now c.requires.ids in
    c.replace_any.ensures.in_place (grind (arith, common_steps)) (omega (arith, size, fewer))
