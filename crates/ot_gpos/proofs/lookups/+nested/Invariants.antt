use Rattle.std.proofs.Common.{◌+◌, ◌*◌, ◌<◌, drop}
use Rattle.ot_gpos.specs.Attachments.{HasNoPixels}
use Rattle.ot_gpos.specs.Contexts.{AreDone, record_done}
use Rattle.ot_attachments.specs.Flags.{KeepsText}
use Rattle.ot_gpos.specs.Lookups.{Outcome, applied, text_of}
use Rattle.ot_gpos.specs.Nested.{AreTried, nested}
use Rattle.ot_layout.specs.Budget.{IsNotMore}
use Rattle.ot_gpos.proofs.lookups.+nested.Given as goal

-- what comes of the subtables that are left comes of all of them
abbrev pub invariant-place_by_lookup-loop-subtable : goal.invariant-place_by_lookup-loop-subtable
invariant-place_by_lookup-loop-subtable g l =
    let setting = l.task.setting.now in
    let a = applied setting.list.now l.task.applied.now.lookup.now l.task.options.now setting.instance in
    record {
      kept : KeepsText l.fn.buffer l.buffer;
      spent : IsNotMore l.fn.search.budget l.search.budget;
      exact : HasNoPixels setting.instance → 0 < l.search.budget.steps → (o : Outcome)
          → AreTried (nested l.task.depth a) a l.task.place l.glyph (drop l.subtable-index l.subtables)
          (text_of l.buffer l.last l.search.budget.nested) o
          → AreTried (nested l.task.depth a) a l.task.place l.glyph l.subtables
          (text_of l.fn.buffer l.fn.last l.fn.search.budget.nested) o;
    }

-- the records before this one are done
abbrev pub invariant-apply_records-loop-index : goal.invariant-apply_records-loop-index
invariant-apply_records-loop-index g l =
    let setting = l.task.setting.now in
    let a = applied setting.list.now l.task.applied.now.lookup.now l.task.options.now setting.instance in
    record {
      kept : KeepsText l.fn.buffer l.buffer;
      spent : IsNotMore l.fn.search.budget l.search.budget;
      exact : HasNoPixels setting.instance → 0 < l.search.budget.steps
          → AreDone
          (record_done (nested l.task.depth a) setting.list.now.lookups.items l.fit.records.now l.task.place l.places.items)
          l.index (text_of l.fn.buffer l.fn.last l.fn.search.budget.nested) (text_of l.buffer l.last l.search.budget.nested);
    }

abbrev pub decreases-place_by_lookup : goal.decreases-place_by_lookup
decreases-place_by_lookup g l = 5 * l.task.now.depth + 4

abbrev pub decreases-try_subtable : goal.decreases-try_subtable
decreases-try_subtable g l = 5 * l.task.now.depth + 3

abbrev pub decreases-place_by_subtable : goal.decreases-place_by_subtable
decreases-place_by_subtable g l = 5 * l.task.now.depth + 2

abbrev pub decreases-place_by_context : goal.decreases-place_by_context
decreases-place_by_context g l = 5 * l.task.now.depth + 1

abbrev pub decreases-apply_records : goal.decreases-apply_records
decreases-apply_records g l = 5 * l.task.now.depth
