use Rattle.std.proofs.Common.{◌+◌, refl, ap, arith}
use Rattle.font_tables.proofs.StringLemmas.{Starts-none, Starts-push, slice_get-starts}
use Rattle.font_tables.proofs.glyph_names.string_starts.Goals as goal

pub loop-row-init : goal.loop-row-init
loop-row-init c = record { bound = omega arith; starts = Starts-none _ _ c.new-starts.ensures.items }

pub returns-in-None : goal.returns-in-None
returns-in-None c = λ n less. slice_get-starts _ _ _ _ c.loop-row.invariant.starts (c.in-None.ensures.none refl) n

pub loop-row-preserved : goal.loop-row-preserved
loop-row-preserved c =
    let there = c.in-Some.ensures.some in
    record {
      bound = omega arith;
      starts = Starts-push _ _ _ _ _ _ _ c.loop-row.invariant.starts there.0 there.1 c.in_ok-push-in-Some.ensures.items
          (ap (λ size. c.loop-row.at + (1 + size)) c.from.ensures);
    }
