use Rattle.std.proofs.Common.{rules, ap, refl, sym, subst, ◌∙◌, ◌≡◌, ℕ, Some, string_bytes}
use Rattle.shaping_session.specs.Queries.{hexadecimal}
use Rattle.shaping_session.specs.Replies.{IsOneLine}
use Rattle.shaping_session.proofs.OneLineLemmas.{one_line-hexadecimal}
use Rattle.shaping_session.proofs.query.compose.Goals as goal

pub returns-in_default-clause-answer : goal.returns-in_default-clause-answer
returns-in_default-clause-answer c = (
  λ s h. absurd (c.in_default.not-Some s (c.composed.ensures.hangul s h)),
  λ n. c.none.ensures,
  subst IsOneLine (sym c.none.ensures) refl,
)

pub returns-clause-answer : goal.returns-clause-answer
returns-clause-answer c =
    let told : string_bytes c.in_ok-format.field-0 ≡ hexadecimal c.in-Some.c = search rules in
    let same : (s : ℕ) → c.composed.result ≡ Some s → c.in-Some.c ≡ s = λ s e. search (rules, e) in (
      λ s h. told ∙ ap hexadecimal (same s (c.composed.ensures.hangul s h)),
      λ n. absurd (search (rules, c.composed.ensures.none n)),
      subst IsOneLine (sym told) (one_line-hexadecimal c.in-Some.c),
    )
