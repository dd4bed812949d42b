use Rattle.std.proofs.Common.{inl, inr, [], ◌∷◌, refl, sym, append-nil, rules}
use Rattle.shape_options.proofs.features.push_feature.Goals as goal

pub returns-in_ok-push : goal.returns-in_ok-push
returns-in_ok-push c = (
  c.in-Ok.feature ∷ [],
  inl (
    [],
    record {
      feature = c.in-Ok.feature;
      reads = (c.parse.ensures.value.0 c.in-Ok.feature).0 c.in-Ok.is;
      is = refl;
    },
    refl,
  ),
  search rules,
)

pub returns-in_default : goal.returns-in_default
returns-in_default c =
    ([], inr (λ f h. c.in_default.not-Ok f ((c.parse.ensures.value.0 f).1 h), refl), sym (append-nil _))
