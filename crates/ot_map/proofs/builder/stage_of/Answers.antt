use Rattle.std.proofs.Common.{refl}
use Rattle.ot_map.proofs.FoundLemmas.{find-none}
use Rattle.ot_map.proofs.builder.stage_of.Goals as goal

pub returns-in-Err : goal.returns-in-Err
returns-in-Err c = λ ordered.
    let none = find-none c.args.requests.now c.args.tag.0 _ (c.in-Err.ensures.gap ordered) in
    rw none refl
