use Rattle.std.proofs.Common.{subst, sym}
use Rattle.ot_contexts.specs.Asked.{IsApart}
use Rattle.ot_contexts.specs.declared.neighbours.Neighbours.TheVariants.{Seen}
use Rattle.ot_contexts.proofs.AskedLemmas.{apart_first, apart_second}
use Rattle.ot_contexts.proofs.told.Told.seen.Goals as goal

pub returns-in_ok-second-in-Some : goal.returns-in_ok-second-in-Some
returns-in_ok-second-in-Some c =
    let m = c.args.match_functions.now in
    let second = c.in_ok-second-in-Some.second in (
      apart_first m c.args.first c.args.second c.in_ok-first.first c.in_ok-first.ensures,
      subst (λ next. IsApart (Seen c.args.first next) m 1 second) (sym c.in-Some.is)
          (apart_second m c.args.first c.in-Some.second second c.in_ok-second-in-Some.ensures),
    )

pub returns-in-None : goal.returns-in-None
returns-in-None c =
    (apart_first c.args.match_functions.now c.args.first c.args.second c.in_ok-first.first c.in_ok-first.ensures, tt)
