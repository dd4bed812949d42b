use Rattle.std.proofs.Common.{ℕ, ap, ◌∙◌}
use Rattle.shaping_buffer.specs.State.{State}
use Rattle.ot_characters.specs.Properties.{set_properties}
use Rattle.ot_characters.proofs.text.set_properties.Goals as goal

pub returns-clause-is : goal.returns-clause-is
returns-clause-is c =
    c.remember.ensures.is
    ∙ ap (λ (s : State). record s { scratch_flags = c.set_all_in-scratch_flags.result }) c.set_all_in-scratch_flags.ensures.is
    ∙ ap (λ (flags : ℕ). record (set_properties c.args.buffer.now) { scratch_flags = flags }) c.set_all_in-scratch_flags.ensures.remembered
