use Rattle.std.proofs.Common.{ℕ, ◌-◌, ap, ◌∙◌}
use Rattle.shaping_buffer.specs.State.{State}
use Rattle.script_items.specs.Moves.{moved}
use Rattle.script_letters.specs.Hangul.{tone_moved}
use Rattle.script_letters.proofs.hangul.tones.move_tone.Goals as goal

pub returns-clause-is : goal.returns-clause-is
unfolding tone_moved
returns-clause-is c =
    let end = c.out_len-end.result in
    c.move_out_back.ensures.is
    ∙ ap (λ (t : State). record t { out = moved c.args.start (end - 1) end t.out }) c.merge_out.ensures.is
    ∙ ap (λ (n : ℕ). tone_moved c.args.start n c.args.buffer.now) c.out_len-end.ensures.out_len
