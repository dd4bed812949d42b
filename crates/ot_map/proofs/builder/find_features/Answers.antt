use Rattle.std.proofs.Common.{map, sym, subst, ap, ◌∙◌, true, false}
use Rattle.std.proofs.lemmas.Simd.{map-map}
use Rattle.ot_map.specs.Features.{searched}
use Rattle.ot_map.specs.FeaturesFound.{noted}
use Rattle.ot_map.specs.Requests.{AreInOrder}
use Rattle.ot_map.specs.Tables.{system_feature_count}
use Rattle.ot_map.proofs.FoundLemmas.{noted-order}
use Rattle.ot_map.proofs.builder.find_features.Goals as goal

pub returns : goal.returns
returns c = λ ordered.
    let first = c.find_in_system.ensures ordered in
    let still = subst AreInOrder (sym first)
    (noted-order c.args.gsub.now true (system_feature_count c.args.gsub.now.system.now) c.args.requests.now ordered) in
    let second = c.find_in_system-2.ensures still in
    c.search_lists.ensures
    ∙ ap (map (searched c.args.gsub.now c.args.gpos.now))
    (second
    ∙ ap (map (noted c.args.gpos.now false (system_feature_count c.args.gpos.now.system.now))) first
    ∙ map-map (noted c.args.gpos.now false (system_feature_count c.args.gpos.now.system.now))
    (noted c.args.gsub.now true (system_feature_count c.args.gsub.now.system.now)) c.args.requests.now)
    ∙ map-map (searched c.args.gsub.now c.args.gpos.now)
    (λ q. noted c.args.gpos.now false (system_feature_count c.args.gpos.now.system.now)
    (noted c.args.gsub.now true (system_feature_count c.args.gsub.now.system.now) q)) c.args.requests.now
