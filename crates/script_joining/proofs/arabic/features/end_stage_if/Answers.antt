use Rattle.std.proofs.Common.{subst, sym}
use Rattle.ot_map.specs.Asked.{Asks}
use Rattle.ot_map.proofs.AskedLemmas.{asks_nothing, asks_pause}
use Rattle.script_joining.specs.ArabicFeatures.{ended_if}
use Rattle.script_joining.proofs.arabic.features.end_stage_if.Goals as goal

pub returns-then-not-ends : goal.returns-then-not-ends
returns-then-not-ends c =
    subst (λ ends. Asks (ended_if ends c.args.pause) c.args.builder.now c.args.builder.now) (sym c.if-not-ends.true)
    (asks_nothing c.args.builder.now)

pub returns : goal.returns
returns c =
    subst (λ ends. Asks (ended_if ends c.args.pause) c.args.builder.now c.add_gsub_pause.new.self) (sym c.if-not-ends.false)
    (asks_pause c.args.builder.now c.add_gsub_pause.new.self c.args.pause c.in_ok-add_gsub_pause.ensures.pauses
    c.in_ok-add_gsub_pause.ensures.requests c.in_ok-add_gsub_pause.ensures.tables)
