use Rattle.std.proofs.Common.{◌≡◌, length, map, arith, refl, sym, subst, ap, ◌∙◌}
use Rattle.std.specs.List.{flat_map}
use Rattle.std.proofs.lemmas.List.{with_items_is}
use Rattle.ot_map.specs.Compiled.{lookups_of, pauses_of, required_stage}
use Rattle.ot_map.specs.Features.{found, planned_features}
use Rattle.ot_map.specs.Lookups.{by_stage, in_order, positions_list, stage_lists, stages_from, taken}
use Rattle.ot_map.specs.Requests.{AreInOrder}
use Rattle.ot_map.proofs.builder.PlanBuilder.compile.Goals as goal

pub returns-clause-compiled : goal.returns-clause-compiled
returns-clause-compiled c = λ ordered.
    let given = subst AreInOrder (sym c.as_mut_slice.ensures.value) ordered in
    let same = c.find_features.auto.requests in
    let whole = c.as_mut_slice.ensures.len in
    let long : length c.find_features.new.requests ≡ c.args.self.requests.len = omega (arith, same, whole) in
    let requests : c.as_slice-2.result.now ≡ map (found c.args.self.gsub c.args.self.gpos) c.args.self.requests.items =
    c.as_slice-2.ensures.value ∙ with_items_is c.args.self.requests c.find_features.new.requests long
    ∙ c.find_features.ensures given ∙ ap (map (found c.args.self.gsub c.args.self.gpos)) c.as_mut_slice.ensures.value in
    let stage : c.required_stage-required_stage.result ≡ required_stage c.args.self.gsub c.args.self.requests.items =
    c.required_stage-required_stage.ensures (subst AreInOrder (sym c.as_slice.ensures.value) ordered)
    ∙ ap (required_stage c.args.self.gsub) c.as_slice.ensures.value in
    let pauses : c.as_slice-4.result.now ≡ pauses_of c.args.self = c.as_slice-4.ensures.value ∙ c.in_ok-push.ensures.items in
    let lists : by_stage c.args.self.gsub
    (stage_lists c.args.self.gsub c.required_stage-required_stage.result c.as_slice-3.result.now) 35000 0 c.as_slice-4.result.now
    ≡ lookups_of c.args.self c.in_ok-features.features.items =
    ap (λ r. by_stage c.args.self.gsub (stage_lists c.args.self.gsub r c.as_slice-3.result.now) 35000 0 c.as_slice-4.result.now) stage
    ∙ ap (λ f. by_stage c.args.self.gsub (stage_lists c.args.self.gsub (required_stage c.args.self.gsub c.args.self.requests.items) f)
    35000 0 c.as_slice-4.result.now) c.as_slice-3.ensures.value
    ∙ ap (by_stage c.args.self.gsub
    (stage_lists c.args.self.gsub (required_stage c.args.self.gsub c.args.self.requests.items) c.in_ok-features.features.items) 35000 0) pauses in
    record {
      features = c.in_ok-features.ensures.is ∙ ap (planned_features 4) requests;
      substitutions = c.in_ok-gsub_lookups.ensures.is.lookups ∙ ap (flat_map (λ lookups. lookups)) lists;
      stages = c.in_ok-gsub_lookups.ensures.is.stages
          ∙ ap (λ l. stages_from 0 l c.as_slice-4.result.now) lists
          ∙ ap (stages_from 0 (lookups_of c.args.self c.in_ok-features.features.items)) pauses;
      positions = c.in_ok-gpos_lookups.ensures.is
          ∙ ap (λ f. in_order (taken c.args.self.gpos.lists.lookup_count 35000 (positions_list c.args.self.gpos f))) c.as_slice-5.ensures.value;
      scripts = (refl, refl);
    }
