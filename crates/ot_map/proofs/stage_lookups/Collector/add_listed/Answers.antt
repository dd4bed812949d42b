use Rattle.std.proofs.Common.{◌≡◌, arith, subst, ap, ◌∙◌, nat_lt, true, false, min, unwrap_or}
use Rattle.std.proofs.lemmas.Bool.Decides.{nat_tests}
use Rattle.ot_map.specs.Lookups.{lookup_with}
use Rattle.ot_map.specs.Tables.{feature_lookup, feature_lookup_count}
use Rattle.ot_map.proofs.CollectedLemmas.{CollectsBelow-all, kept_more, left_out}
use Rattle.ot_map.proofs.stage_lookups.Collector.add_listed.Goals as goal
use Rattle.ot_map.proofs.stage_lookups.Collector.add_listed.Goals.{then-index-count+in_ok-push, else-index-count}

pub loop-place-preserved : goal.loop-place-preserved
loop-place-preserved c =
    let left = c.loop-place.invariant.left in
    let most = c.min-visited.ensures in
    let index : c.unwrap_or-index.result ≡ unwrap_or (feature_lookup c.args.feature.now c.loop-place.place) 0 =
    c.unwrap_or-index.ensures ∙ ap (λ o. unwrap_or o 0) c.u16_at.ensures in
    elim c.if-index-count.branch [
      | then-index-count+in_ok-push w ↦
          let below = w.if-index-count.true in
          let there : nat_lt c.unwrap_or-index.result c.args.count ≡ true = grind (arith, nat_tests, below) in
          rw w.self-is
          (record {
            left = omega (arith, left, most);
            lookups = w.in_ok-push.ensures.items
                ∙ kept_more c.args.count c.loop-place.place
                (λ place. lookup_with c.args.mask c.args.flags (unwrap_or (feature_lookup c.args.feature.now place) 0))
                c.args.self.now.lookups.items c.loop-place.self.lookups.items w.lookup_with.result c.loop-place.invariant.lookups
                (w.lookup_with.ensures ∙ ap (lookup_with c.args.mask c.args.flags) index)
                (subst (λ i. nat_lt i c.args.count ≡ true) index there);
          })
      | else-index-count w ↦
          let above = w.if-index-count.false in
          let beyond : nat_lt c.unwrap_or-index.result c.args.count ≡ false = grind (arith, nat_tests, above) in
          rw w.self-is
          (record {
            left = omega (arith, left, most);
            lookups = left_out c.args.count c.loop-place.place
                (λ place. lookup_with c.args.mask c.args.flags (unwrap_or (feature_lookup c.args.feature.now place) 0))
                c.args.self.now.lookups.items c.loop-place.self.lookups.items c.loop-place.invariant.lookups
                (subst (λ i. nat_lt i c.args.count ≡ false) index beyond);
          })
    ]

pub returns : goal.returns
returns c =
    let count = c.feature_lookup_count.ensures.is in
    let visited = c.min-visited.ensures in
    let all : c.loop-place.place ≡ min (feature_lookup_count c.args.feature.now) c.args.self.now.left = omega (arith, count, visited) in
    CollectsBelow-all c.args.count c.args.self.now.left (feature_lookup_count c.args.feature.now) c.loop-place.place c.loop-place.self.left
    (λ place. lookup_with c.args.mask c.args.flags (unwrap_or (feature_lookup c.args.feature.now place) 0))
    c.args.self.now.lookups.items c.loop-place.self.lookups.items all c.loop-place.invariant.left c.loop-place.invariant.lookups
