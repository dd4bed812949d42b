use Rattle.std.proofs.Common.{map, take}
use Rattle.ot_map.specs.Asked.{Asks, of_some}
use Rattle.ot_map.specs.Pauses.{HasSamePauses}
use Rattle.script_syllables.proofs.requests.add_all.Given as goal

-- those so far were asked for
abbrev pub invariant-loop-name : goal.invariant-loop-name
invariant-loop-name l = record {
  pauses : HasSamePauses l.fn.builder l.builder;
  asks : Asks (map (λ it. of_some l.flags it.1 it.0.now) (take l.name-index l.features)) l.fn.builder l.builder;
}
