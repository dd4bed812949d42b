use Rattle.std.proofs.Common.{None, subst, sym, rules}
use Rattle.shaping_buffer.specs.State.{State}
use Rattle.shaping_buffer.proofs.KeepsLemmas.{turns_then_keeps, turns_twice}
use Rattle.shaping_passes.specs.Refusals.{IsRefusal}
use Rattle.script_joining.proofs.arabic.stretching.stretched_line.Goals as goal

pub returns-clause-refusal : goal.returns-clause-refusal
returns-clause-refusal g c =
    subst (λ (t : State). IsRefusal None c.stretched_text-stretched.result t) (sym c.reverse-2.ensures.is)
    c.stretched_text-stretched.ensures.refusal

pub returns-clause-stays : goal.returns-clause-stays
returns-clause-stays g c = record {
  placed = record { closed = search rules; placed = search rules };
  keeps = turns_twice _ _ _
      (turns_then_keeps _ _ _ c.reverse.ensures.turns c.stretched_text-stretched.ensures.stays.keeps) c.reverse-2.ensures.turns;
}
