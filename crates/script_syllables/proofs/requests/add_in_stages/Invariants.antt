use Rattle.std.proofs.Common.{◌≡◌, ◌++◌, map, replicate, take}
use Rattle.ot_map.specs.Asked.{Asks, in_stages, of_some}
use Rattle.ot_map.specs.declared.plan.Pause.TheVariants.{Nothing}
use Rattle.script_syllables.proofs.requests.add_in_stages.Given as goal

-- those so far were asked for
abbrev pub invariant-loop-name : goal.invariant-loop-name
invariant-loop-name l = record {
  pauses : l.builder.pauses.items ≡ l.fn.builder.pauses.items ++ replicate l.name-index Nothing;
  asks : Asks (in_stages (map (λ it. of_some l.flags it.1 it.0.now) (take l.name-index l.features))) l.fn.builder l.builder;
}
