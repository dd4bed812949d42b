use Rattle.std.proofs.Common.{◌≡◌, ◌+◌, ◌∙◌, refl, rules, sym}
use Rattle.ot_lookups.specs.LookupProps.{glyph_at}
use Rattle.ot_layout.specs.SkippingIterator.{next_found, skip_of}
use Rattle.ot_layout.specs.declared.skipping_iterator.Found.TheVariants.{At}
use Rattle.ot_layout.specs.declared.skipping_iterator.Skip.TheVariants.{No}
use Rattle.ot_layout.specs.declared.matcher.Matcher.TheVariants.{Any}
use Rattle.ot_contexts.proofs.NeighbourLemmas.{and-seen}
use Rattle.ot_contexts.proofs.neighbours.seen_ahead.Goals as goal
use Rattle.ot_layout.specs.ApplyContext.{input_iterator}

pub returns : goal.returns
returns c = λ p.
    let s = c.args.ctx.now in
    let iterator = c.input_iterator-iterator.ensures in
    let found : next_found (input_iterator s) Any s.input.now 0 ≡ At c.in-At.first = rw iterator at (sym c.next.ensures.is ∙ c.in-At.is) in
    let looks = sym c.looks_first.ensures ∙ c.if-not-looks_first.false in
    let stays : skip_of c.input_iterator-iterator.result (glyph_at s.input.now c.in-At.first) ≡ No = search rules in
    and-seen s p c.in-At.first c.args.is_chained c.args.count
    (record { glyph = (glyph_at s.input.now c.in-At.first).glyph_id; end = c.in-At.first + 1 }) c.next_kept.result looks found
    (rw iterator at stays) refl (rw iterator at c.next_kept.ensures.is)
