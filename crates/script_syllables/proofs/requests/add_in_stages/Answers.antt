use Rattle.std.proofs.Common.{List, [], ◌∷◌, ◌++◌, replicate, false, ap, ◌∙◌}
use Rattle.std.proofs.lemmas.List.{append_assoc, replicate_more}
use Rattle.ot_map.specs.Asked.{of_some}
use Rattle.ot_map.specs.declared.plan.Pause.{Pause}
use Rattle.ot_map.specs.declared.plan.Pause.TheVariants.{Nothing}
use Rattle.ot_map.proofs.AskedLemmas.{asks_pause, asks_then, stages_more}
use Rattle.script_syllables.proofs.requests.add_in_stages.Goals as goal

pub loop-name-preserved : goal.loop-name-preserved
loop-name-preserved c =
    let first = c.args.builder.now.pauses.items in
    let pause = asks_pause c.add_one.new.builder c.add_gsub_pause.new.self Nothing c.in_ok-add_gsub_pause.ensures.pauses
    c.in_ok-add_gsub_pause.ensures.requests c.in_ok-add_gsub_pause.ensures.tables in
    let both = asks_then _ _ _ _ _ c.in_ok-add_one.ensures.asks pause in
    record {
      pauses = c.in_ok-add_gsub_pause.ensures.pauses
          ∙ ap (λ (l : List Pause). l ++ (Nothing ∷ [])) (ap (λ v. v.items) c.add_one.ensures.pauses.0 ∙ c.loop-name.invariant.pauses)
          ∙ append_assoc first (replicate c.loop-name.name-index Nothing) (Nothing ∷ [])
          ∙ ap (λ (l : List Pause). first ++ l) (replicate_more c.loop-name.name-index Nothing);
      asks = stages_more (λ it. of_some c.args.flags it.1 it.0.now) c.args.features.now c.loop-name.name-index
          (record { ref_ptr = (0, 0); now = [] }, false)
          c.args.builder.now c.loop-name.builder c.add_gsub_pause.new.self c.loop-name-test.true c.loop-name.invariant.asks both;
    }
