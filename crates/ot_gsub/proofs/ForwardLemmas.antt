-- A text under a lookup from its beginning: the glyphs before the first one that it is for are put out as they stand, and the rest is done
-- from there.
use Rattle.std.proofs.Common.{◌≡◌, ◌⊎◌, ℕ, ◌+◌, ◌<◌, ◌≤◌, Bool, true, false, length, Result, Ok, Err, ap, sym, subst, inl, inr, arith, length-drop}
use Rattle.std.specs.Prelude.{IsErr}
use Rattle.std.specs.declared.alloc.AllocError.{AllocError}
use Rattle.ot_lookups.specs.Lookup.{is_for}
use Rattle.ot_lookups.specs.LookupProps.{glyph_at}
use Rattle.ot_lookups.specs.declared.lookup_list.Lookup.{Lookup}
use Rattle.shaping_buffer.specs.State.{State, len}
use Rattle.shaping_buffer.specs.Step.{Meets, sync}
use Rattle.ot_gsub.specs.Nested.{Now}
use Rattle.ot_gsub.specs.Runs.{AreGlyphsDone, HasDone, IsForward, IsRestDone, IsStopped, opened}
use Rattle.ot_gsub.specs.Singles.{IsForNext, opened_at}
use Rattle.ot_gsub.specs.declared.substitution.Substitutions.{Substitutions}
use Rattle.ot_gsub.proofs.RunsLemmas.{done_then, opened_done, stopped_then, way_ended, way_failed, way_refused}
use Rattle.ot_gsub.proofs.SinglesLemmas.{len_closed, opened_next}

module _ (substitutions : Substitutions) (lookup : Lookup) (old : Now) where
  -- some glyphs are put out, and then it is stopped
  forward_stopped : (first : ℕ) (mid : Now) (result : Result Bool AllocError) (new : Now)
      → AreGlyphsDone substitutions lookup first (opened old) mid → IsStopped substitutions lookup mid result
      → IsForward substitutions lookup old result new
  forward_stopped first mid result new before stop =
      inr (stopped_then substitutions lookup first (opened old) mid result before stop)

  -- all are done, and the output is closed
  forward_through : (first least : ℕ) (mid end : Now) (result : Result Bool AllocError) (new : Now)
      → AreGlyphsDone substitutions lookup first (opened old) mid → HasDone substitutions lookup least mid end
      → length old.buffer.input ≤ first + length mid.buffer.input
      → ((length end.buffer.input ≡ 0) ⊎ (length mid.buffer.input ≤ least))
      → Meets (sync end.buffer) end.buffer result new.buffer → new ≡ record end { buffer = new.buffer }
      → IsForward substitutions lookup old result new
  forward_through first least mid end result new before rest long all meets same = inl (record {
    turns = first + rest.turns;
    mid = end;
    glyphs = done_then substitutions lookup first rest.turns (opened old) mid end before rest.glyphs;
    all = elim all [ inl none ↦ inl none | inr up ↦ inr (omega (arith, up, long, rest.from)) ];
    closed = meets;
    others = same;
  })

  -- the output was opened at the first glyph that the lookup is for, and this came of the rest
  module _ (first : ℕ) (b : State) (at : b ≡ opened_at first old.buffer) (shut : old.buffer.have_output ≡ false)
      (fits : len old.buffer ≤ old.buffer.max_len) (within : first ≤ length old.buffer.input)
      (none : (k : ℕ) → k < first → is_for lookup substitutions.options.mask (glyph_at old.buffer.input k) ≡ false)
      (some : first < length old.buffer.input
      → is_for lookup substitutions.options.mask (glyph_at old.buffer.input first) ≡ true)
      (told : Result Bool AllocError) (end : Now)
      (done : IsForNext substitutions lookup b → IsRestDone substitutions lookup (record old { buffer = b }) told end) where
    abbrev mid : Now
    mid = record old { buffer = b }

    before : AreGlyphsDone substitutions lookup first (opened old) mid
    before =
        let long : length old.buffer.input ≤ old.buffer.max_len = omega (arith, fits, len_closed old.buffer shut) in
        subst (λ (t : State). AreGlyphsDone substitutions lookup first (opened old) (record old { buffer = t })) (sym at)
        (opened_done substitutions lookup first old within long none)

    next : IsForNext substitutions lookup b
    next = subst (IsForNext substitutions lookup) (sym at) (opened_next substitutions lookup first old.buffer some)

    pub forward_failed : (e : AllocError) (result : Result Bool AllocError) (new : Now) → told ≡ Err e → IsErr result
        → IsForward substitutions lookup old result new
    forward_failed e result new was failed =
        forward_stopped first mid result new before
        (way_failed substitutions lookup mid end told e result was failed (done next))

    pub forward_refused : (new : Now) → told ≡ Ok false → IsForward substitutions lookup old (Ok false) new
    forward_refused new was =
        forward_stopped first mid (Ok false) new before (way_refused substitutions lookup mid end told was (done next))

    pub forward_ended : (result : Result Bool AllocError) (new : Now) → told ≡ Ok true
        → Meets (sync end.buffer) end.buffer result new.buffer → new ≡ record end { buffer = new.buffer }
        → IsForward substitutions lookup old result new
    forward_ended result new was meets same =
        let long : length old.buffer.input ≤ first + length b.input =
        omega (arith, ap (λ (t : State). length t.input) at, length-drop first old.buffer.input) in
        let rest : IsRestDone substitutions lookup mid told end = done next in
        forward_through first rest.least mid end result new before
        (way_ended substitutions lookup mid end told was rest) long rest.all meets same
