use Rattle.std.proofs.Common.{All, subst, sym}
use Rattle.std.proofs.lemmas.List.Elements.{All-push}
use Rattle.shape_options.specs.Variations.{HasTag}
use Rattle.shape_options.proofs.variations.push_variation.Goals as goal

pub returns-in_ok-push : goal.returns-in_ok-push
returns-in_ok-push c = λ before.
    subst (All HasTag) (sym c.in_ok-push.ensures.items)
    (All-push HasTag c.args.variations.now.items c.in-Some.variation before (c.args.text.now, c.in-Some.ensures))
