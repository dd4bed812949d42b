-- The walk keeps `Walked`: the ends so far, and those of the lines that are left, are those of the whole text. Each glyph
-- makes the piece behind the line wider. Where a line may end behind it the line takes the piece, or ends first, and the
-- next line takes it. In the end the last line is left, and the laws of all ends are read off the definition.
use Rattle.std.proofs.Common.{rules, ◌≡◌, arith, sym, ap, ◌∙◌, ltb, to_z}
use Rattle.std.specs.List.{list_all}
use Rattle.std.specs.Int.{w128}
use Rattle.rb_glyph.specs.Rows.{rise}
use Rattle.shaping_passes.specs.Lines.{may_end, line_ends}
use Rattle.shaping_passes.proofs.LinesLemmas.{lines_may_end, lines_rise, IsNext, Joined, walked_past, joined_on, joined_next}
use Rattle.shaping_passes.proofs.LinesLemmas.{taken-fits, walked_joined, joined_alike, last_line, no_line}
use Rattle.shaping_passes.proofs.lines.line_ends.Goals as goal
use Rattle.shaping_passes.proofs.lines.line_ends.Goals.{then-start-end-2+in_ok-push-2, else-start-end-2}
use Rattle.shaping_passes.proofs.lines.line_ends.Goals.{then-start-end+then-not-is_within+in_ok-push, else-start-end}
use Rattle.shaping_passes.proofs.lines.line_ends.Goals.{else-start-end-via-then-start-end+else-not-is_within}
use Rattle.shaping_passes.proofs.lines.line_ends.Goals.{else-start-end-via-else-start-end}

pub loop-place-preserved-then-not-may_end : goal.loop-place-preserved-then-not-may_end
loop-place-preserved-then-not-may_end c =
    let next : IsNext c.args.glyphs.now c.args.positions.now c.loop-place.place c.from-piece.result = record {
      some = omega arith;
      long = c.requires;
      few = omega arith;
      fits = record { sfits = c.from-piece.type_inv };
      advance_fits = search rules;
      is = c.from-piece.ensures;
    } in
    walked_past c.loop-place.invariant next (sym c.may_end.ensures ∙ c.if-not-may_end.true)

next : (c : goal.Joined-start-end) → IsNext c.args.glyphs.now c.args.positions.now c.loop-place.place c.from-piece.result
next c = record {
  some = omega arith;
  long = c.requires;
  few = omega arith;
  fits = record { sfits = c.from-piece.type_inv };
  advance_fits = search rules;
  is = c.from-piece.ensures;
}

joined : (c : goal.Joined-start-end) → Joined c.args.glyphs.now c.args.positions.now
    (line_ends c.args.glyphs.now c.args.positions.now c.args.widths.now) c.loop-place.place c.loop-place.end
    c.if-start-end.start c.if-start-end.ends.items c.if-start-end.widths.now (to_z w128 c.if-start-end.taken-bits)
joined c =
    let may = sym c.may_end.ensures ∙ c.if-not-may_end.false in
    elim c.if-start-end.branch [
      | then-start-end+then-not-is_within+in_ok-push w ↦
          joined_alike w.start-is (ap (λ v. v.items) w.ends-is ∙ w.in_ok-push.ensures.items)
          (ap (λ v. v.now) w.widths-is ∙ w.widths_after-widths.ensures) w.taken-is
          (joined_next c.loop-place.invariant (next c) may w.if-start-end.true
          (sym w.is_within.ensures ∙ w.if-not-is_within.true))
      | else-start-end w ↦
          joined_alike w.start-is (ap (λ v. v.items) w.ends-is) (ap (λ v. v.now) w.widths-is) w.taken-is
          (joined_on c.loop-place.invariant (next c) may (elim w.else-start-end.branch [
            | else-start-end-via-then-start-end+else-not-is_within v ↦
                λ less. sym v.is_within.ensures ∙ v.if-not-is_within.false
            | else-start-end-via-else-start-end v ↦ λ less. absurd (omega (arith, less, v.if-start-end.false))
          ]))
    ]

pub overflow_add-taken-in-loop-place : goal.overflow_add-taken-in-loop-place
overflow_add-taken-in-loop-place c = taken-fits c.loop-place.invariant (next c) (joined c)

pub loop-place-preserved : goal.loop-place-preserved
loop-place-preserved c = walked_joined c.loop-place.invariant (next c) (joined c)

exact : (c : goal.Joined-start-end-2) → c.if-start-end-2.ends.items
    ≡ line_ends c.args.glyphs.now c.args.positions.now c.args.widths.now
exact c = elim c.if-start-end-2.branch [
  | then-start-end-2+in_ok-push-2 w ↦ ap (λ v. v.items) w.ends-is ∙ w.in_ok-push-2.ensures.items
      ∙ last_line c.loop-place.invariant (omega arith) w.if-start-end-2.true
  | else-start-end-2 w ↦ ap (λ v. v.items) w.ends-is
      ∙ no_line c.loop-place.invariant (omega arith) w.if-start-end-2.false
]

pub returns-clause-cuts : goal.returns-clause-cuts
returns-clause-cuts c =
    ap (list_all (may_end c.args.glyphs.now)) (exact c)
    ∙ lines_may_end c.args.glyphs.now c.args.positions.now c.args.widths.now

pub returns-clause-rises : goal.returns-clause-rises
returns-clause-rises c =
    ap (rise ltb) (exact c) ∙ lines_rise c.args.glyphs.now c.args.positions.now c.args.widths.now
