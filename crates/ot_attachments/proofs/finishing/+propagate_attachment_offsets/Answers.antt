use Rattle.std.proofs.Common.{◌≡◌, ◌<◌, ◌-◌, true, false, length, sym, ap, ◌∙◌, arith}
use Rattle.ot_lookups.specs.LookupProps.{share}
use Rattle.ot_attachments.specs.Chains.{kind_of, position_at}
use Rattle.ot_attachments.specs.Offsets.{across, down, propagated, way}
use Rattle.ot_attachments.proofs.OffsetsLemmas.{parent_of-within, propagated-last, propagated-joined, propagated-hung}
use Rattle.ot_attachments.proofs.OffsetsLemmas.{summed_unchained, summed_joined, summed_hung}
use Rattle.ot_attachments.proofs.finishing.+propagate_attachment_offsets.Goals as goal

pub returns-then-levels-eq0-clause-is : goal.returns-then-levels-eq0-clause-is
returns-then-levels-eq0-clause-is t c =
    c.unchain.ensures.is ∙ sym (propagated-last c.args.direction c.args.levels c.args.place c.args.positions.now c.if-levels-eq0.true)

pub returns-then-levels-eq0-clause-span : goal.returns-then-levels-eq0-clause-span
returns-then-levels-eq0-clause-span t c =
    summed_unchained c.args.place c.args.positions.now c.unchain.new.positions c.args.span.now c.unchain.ensures.is c.requires.span

pub returns-in_default-clause-span : goal.returns-in_default-clause-span
returns-in_default-clause-span t c =
    summed_unchained c.args.place c.args.positions.now c.unchain.new.positions c.args.span.now c.unchain.ensures.is c.requires.span

pub propagate_attachment_offsets-requires : goal.propagate_attachment_offsets-requires
propagate_attachment_offsets-requires t c =
    let within : c.in-Some.parent < length c.args.positions.now =
    parent_of-within c.args.place c.in-Some.parent c.args.positions.now (sym c.parent_of-parent.ensures ∙ c.in-Some.is) in
    let less : c.args.levels - 1 < t = grind (arith, c.decreases) in (
      less,
      (
        omega (arith, within, c.unchain.ensures.as_many),
        summed_unchained c.args.place c.args.positions.now c.unchain.new.positions c.args.span.now c.unchain.ensures.is c.requires.span,
      ),
    )

pub join-requires-clause-parent : goal.join-requires-clause-parent
join-requires-clause-parent t c =
    let within : c.in-Some.parent < length c.args.positions.now =
    parent_of-within c.args.place c.in-Some.parent c.args.positions.now (sym c.parent_of-parent.ensures ∙ c.in-Some.is) in
    omega (arith, within, c.unchain.ensures.as_many, c.propagate_attachment_offsets.ensures.as_many)

pub hang-requires-clause-parent : goal.hang-requires-clause-parent
hang-requires-clause-parent t c =
    let within : c.in-Some.parent < length c.args.positions.now =
    parent_of-within c.args.place c.in-Some.parent c.args.positions.now (sym c.parent_of-parent.ensures ∙ c.in-Some.is) in
    omega (arith, within, c.unchain.ensures.as_many, c.propagate_attachment_offsets.ensures.as_many)

pub returns-then-kind-ne0-clause-is : goal.returns-then-kind-ne0-clause-is
returns-then-kind-ne0-clause-is t c =
    let ps = c.args.positions.now in
    let some : 0 < c.args.levels = grind (arith, c.if-levels-eq0.false) in
    let cursive : share (kind_of (position_at ps c.args.place)) 2 ≡ true = grind (arith, c.if-kind-ne0.true, c.attach_type-kind.ensures) in
    c.join.ensures.is ∙ sym (propagated-joined c.args.direction c.args.levels c.args.place c.in-Some.parent ps
    c.propagate_attachment_offsets.new.positions some (sym c.parent_of-parent.ensures ∙ c.in-Some.is)
    (c.propagate_attachment_offsets.ensures.is
    ∙ ap (propagated c.args.direction (c.args.levels - 1) c.in-Some.parent) c.unchain.ensures.is) cursive)

pub returns-then-kind-ne0-clause-span : goal.returns-then-kind-ne0-clause-span
returns-then-kind-ne0-clause-span t c =
    summed_joined c.args.direction (position_at c.propagate_attachment_offsets.new.positions c.in-Some.parent) c.args.place
    c.propagate_attachment_offsets.new.positions c.join.new.positions c.propagate_attachment_offsets.new.span c.join.ensures.is
    c.propagate_attachment_offsets.ensures.span

pub returns-else-kind-ne0-clause-is : goal.returns-else-kind-ne0-clause-is
returns-else-kind-ne0-clause-is t c =
    let ps = c.args.positions.now in
    let some : 0 < c.args.levels = grind (arith, c.if-levels-eq0.false) in
    let mark : share (kind_of (position_at ps c.args.place)) 2 ≡ false = grind (arith, c.if-kind-ne0.false, c.attach_type-kind.ensures) in
    c.hang.ensures.is ∙ sym (propagated-hung c.args.direction c.args.levels c.args.place c.in-Some.parent ps
    c.propagate_attachment_offsets.new.positions some (sym c.parent_of-parent.ensures ∙ c.in-Some.is)
    (c.propagate_attachment_offsets.ensures.is
    ∙ ap (propagated c.args.direction (c.args.levels - 1) c.in-Some.parent) c.unchain.ensures.is) mark)

pub returns-else-kind-ne0-clause-span : goal.returns-else-kind-ne0-clause-span
returns-else-kind-ne0-clause-span t c =
    let qs = c.propagate_attachment_offsets.new.positions in
    let at = position_at qs c.in-Some.parent in
    let x = way c.args.direction c.in-Some.parent c.args.place (across qs) in
    let y = way c.args.direction c.in-Some.parent c.args.place (down qs) in
    summed_hung c.args.direction at x y c.args.place qs c.hang.new.positions c.hang.new.span c.hang.ensures.is c.hang.ensures.span
