use Rattle.std.proofs.Common.{◌≡◌, ◌+◌, Some, None, arith, sym}
use Rattle.font_outlines.specs.Charset.{named, range_first, range_left}
use Rattle.font_outlines.proofs.CharsetLemmas.{named-first, named-next, none_before-first, none_before-next, none_before-outside, range_string-none, range_string-some}
use Rattle.font_outlines.proofs.charset.range_string.Goals as goal

pub loop-row-init : goal.loop-row-init
loop-row-init c = record {
  so_far = named-first c.args.is_long c.args.charset.now;
  short = λ h. h;
  none = none_before-first c.args.is_long c.args.charset.now c.args.glyph;
}

pub returns-in_err-range_left : goal.returns-in_err-range_left
returns-in_err-range_left c =
    let gone : c.range_left.result ≡ None = c.in_err-range_left.was in
    let outside : range_left c.args.is_long c.args.charset.now c.loop-row.row ≡ None = cc in
    let is = range_string-none _ _ c.args.glyph
    (none_before-outside _ _ _ _ c.args.glyph c.loop-row.invariant.none outside) in
    cc

pub returns-in_err-first : goal.returns-in_err-first
returns-in_err-first c =
    let left : c.range_left.result ≡ Some c.in_ok-range_left.field-0 = c.in_ok-range_left.was in
    let next = named-next c.args.is_long c.args.charset.now c.loop-row.row c.loop-row.before c.in_ok-range_left.field-0
    c.loop-row.invariant.so_far cc in
    let is = range_string-some _ _ c.args.glyph _ _ _ (omega arith)
    c.loop-row.invariant.none c.loop-row.invariant.so_far next (omega arith) in
    let gone : c.u16_at.result ≡ None = c.in_err-first.was in
    let outside : range_first c.args.is_long c.args.charset.now c.loop-row.row ≡ None = cc in
    rw is (rw outside cc)

pub returns-then-glyph-through : goal.returns-then-glyph-through
returns-then-glyph-through c =
    let left : c.range_left.result ≡ Some c.in_ok-range_left.field-0 = c.in_ok-range_left.was in
    let next = named-next c.args.is_long c.args.charset.now c.loop-row.row c.loop-row.before c.in_ok-range_left.field-0
    c.loop-row.invariant.so_far cc in
    let is = range_string-some _ _ c.args.glyph _ _ _ (omega arith)
    c.loop-row.invariant.none c.loop-row.invariant.so_far next (omega arith) in
    let there : c.u16_at.result ≡ Some c.in_ok-first.first = c.in_ok-first.was in
    let first : range_first c.args.is_long c.args.charset.now c.loop-row.row ≡ Some c.in_ok-first.first = cc in
    rw is (rw first cc)

pub loop-row-preserved : goal.loop-row-preserved
loop-row-preserved c =
    let left : c.range_left.result ≡ Some c.in_ok-range_left.field-0 = c.in_ok-range_left.was in
    let next : named c.args.is_long c.args.charset.now (c.loop-row.row + 1) ≡ Some (c.loop-row.before + c.from.result + 1) =
    named-next _ _ _ _ _ c.loop-row.invariant.so_far cc in
    record {
      so_far = next;
      short = λ h. c.if-glyph-through.false;
      none = none_before-next _ _ _ _ _ c.loop-row.invariant.none next c.if-glyph-through.false;
    }

pub returns : goal.returns
returns c =
    let end : c.loop-row.row ≡ c.args.glyph = omega arith in
    sym (range_string-none _ _ c.args.glyph (rw end at c.loop-row.invariant.none))
