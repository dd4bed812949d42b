use Rattle.std.proofs.Common.{◌<◌, ◌≤◌}
use Rattle.ot_layout.specs.Budget.{IsNotMore}
use Rattle.ot_gpos.specs.Attachments.{HasNoPixels, nothing_sought}
use Rattle.ot_attachments.specs.Flags.{KeepsText}
use Rattle.ot_gpos.specs.Lookups.{applied, text_of}
use Rattle.ot_gpos.proofs.RunsLemmas.{IsUnderWay}
use Rattle.ot_gpos.proofs.lookups.place_all.Given as goal

-- the glyphs before the place where the lookup goes on are done
abbrev pub invariant-loop-turn : goal.invariant-loop-turn
invariant-loop-turn g l = record {
  kept : KeepsText l.fn.buffer l.buffer;
  spent : IsNotMore l.fn.search.budget l.search.budget;
  far : l._turn ≤ l.next;
  exact : HasNoPixels l.setting.instance → 0 < l.search.budget.steps
      → IsUnderWay (applied l.setting.list.now l.lookup l.options l.setting.instance)
      (text_of l.fn.buffer nothing_sought l.fn.search.budget.nested) l.next
      (text_of l.buffer l.last l.search.budget.nested);
}
