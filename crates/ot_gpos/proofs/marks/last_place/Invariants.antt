use Rattle.std.proofs.Common.{◌≡◌, ◌+◌, ◌-◌, ◌≤◌}
use Rattle.ot_gpos.specs.Attachments.{is_taken, last_place}
use Rattle.ot_gpos.specs.Visit.{visit_of}
use Rattle.ot_gpos.proofs.marks.last_place.Given as goal

-- the search goes on as if it began here
abbrev pub invariant-loop-turn : goal.invariant-loop-turn
invariant-loop-turn l = record {
  far : l.end + (l._turn - l.from) ≡ l.turn.place;
  within : l.end ≤ l.turn.place;
  same : last_place (is_taken l.is_for_bases (visit_of l.turn) l.skipping l.glyphs) l.from l.turn.place
      ≡ last_place (is_taken l.is_for_bases (visit_of l.turn) l.skipping l.glyphs) l.from l.end;
}
