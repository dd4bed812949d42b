use Rattle.std.proofs.Common.{◌≡◌, ◌+◌, ◌*◌, ◌≤◌, ◌<◌, true, false, length, arith, ◌∙◌}
use Rattle.std.proofs.lemmas.Grind.{common_steps}
use Rattle.shaping_runs.proofs.CallerLaws.{lengths, delete_glyph_moves}
use Rattle.shaping_uses.proofs.deletion.delete_every_second.Goals as goal

pub loop-buffer-preserved : goal.loop-buffer-preserved
loop-buffer-preserved c =
    let t = c.next_glyph.new.self in
    let opened : t.have_output ≡ true = grind (arith, common_steps, lengths) in
    let together : t.have_separate_output ≡ false = grind (arith, common_steps, lengths) in
    let near : length t.out ≤ t.idx = grind (arith, common_steps, lengths) in
    let successful : t.successful ≡ true = grind (arith, common_steps, lengths) in
    let some : 0 < length t.input = grind (arith, common_steps, lengths) in
    let halved : 2 * length t.out + length t.input ≡ length c.args.buffer.now.input + 1 =
    grind (arith, common_steps, lengths) in
    let m = delete_glyph_moves t in
    rw c.delete_glyph.ensures.is (record {
      opened = m.opened ∙ opened;
      together = m.in_place (omega arith) together near;
      near = omega (arith, m.out, m.idx, near);
      successful = m.successful ∙ successful;
      halved = omega (arith, m.out, m.input, halved, some);
    })
