use Rattle.std.proofs.Common.{[], ◌∷◌, refl, replicate}
use Rattle.shaping_runs.specs.declared.call.Answer.TheVariants.{Outside}
use Rattle.shaping_runs.specs.declared.call.Call.TheVariants.{NextGlyph, SkipGlyph, MoveTo, Sync}
use Rattle.shaping_uses.proofs.RunsLemmas.{opened_never_stops}
use Rattle.shaping_uses.proofs.in_place.rewind_in_place.Goals as goal

pub unreachable-requires : goal.unreachable-requires
unreachable-requires c =
    opened_never_stops (SkipGlyph ∷ NextGlyph ∷ NextGlyph ∷ NextGlyph ∷ MoveTo 0 ∷ Sync ∷ []) c.args.buffer.now
    c.requires.closed (λ t. (refl, (refl, (refl, (refl, (refl, (refl, tt)))))))
    c.in-Err.field-0.at (replicate 7 Outside) c.replay.new.buffer c.replay.new.answers c.in-Err.ensures.stopped
