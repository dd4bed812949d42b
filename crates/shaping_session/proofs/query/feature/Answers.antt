use Rattle.std.proofs.Common.{rules, ap, refl, sym, subst, ◌∙◌, ◌≡◌, Result, Ok, Err, OnErr, string_bytes}
use Rattle.rb_text.specs.declared.feature.Feature.{Feature}
use Rattle.rb_text.specs.Feature.{ReadsAs}
use Rattle.shaping_session.specs.Queries.{feature_text}
use Rattle.shaping_session.specs.Replies.{IsOneLine}
use Rattle.shaping_session.proofs.OneLineLemmas.{one_line-feature}
use Rattle.shaping_session.proofs.query.feature.Goals as goal

pub returns-in_ok-print_feature-in-Ok-clause-answer : goal.returns-in_ok-print_feature-in-Ok-clause-answer
returns-in_ok-print_feature-in-Ok-clause-answer c =
    let told : string_bytes c.in_ok-print_feature-in-Ok.field-0 ≡ feature_text c.in-Ok.feature = search rules in
    let same : (f : Feature) → c.parse.result ≡ Ok f → c.in-Ok.feature ≡ f = λ f e. search (rules, e) in (
      λ f h. told ∙ ap feature_text (same f ((c.parse.ensures.value.0 f).1 h)),
      λ n. absurd (n c.in-Ok.feature ((c.parse.ensures.value.0 c.in-Ok.feature).0 c.in-Ok.is)),
      subst IsOneLine (sym told) (one_line-feature c.in-Ok.feature),
    )

pub returns-in-Err-clause-answer : goal.returns-in-Err-clause-answer
returns-in-Err-clause-answer c = (λ f h. absurd (search (rules, (c.parse.ensures.value.0 f).1 h)), λ n. refl, refl)

-- what holds in any case holds of an error
on_err : {T E : Type 0} (r : Result T E) (P : Type 0) → P → OnErr r P
on_err (Ok v) P p = tt
on_err (Err e) P p = p

pub returns-in_err-print_feature-in-Ok-clause-memory : goal.returns-in_err-print_feature-in-Ok-clause-memory
returns-in_err-print_feature-in-Ok-clause-memory c =
    let reads = (c.parse.ensures.value.0 c.in-Ok.feature).0 c.in-Ok.is in
    on_err c.from_residual.result ((f : Feature) × ReadsAs c.args.text.now f) (c.in-Ok.feature, reads)
