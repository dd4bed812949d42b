use Rattle.std.proofs.Common.{rules, ap, refl, sym, subst, ◌∙◌, ◌≡◌, ◌++◌, ◌∷◌, ℕ, Some, string_bytes}
use Rattle.shaping_session.specs.Queries.{hexadecimal}
use Rattle.shaping_session.specs.Replies.{IsOneLine}
use Rattle.shaping_session.proofs.OneLineLemmas.{one_line-pair}
use Rattle.shaping_session.proofs.query.decompose.Goals as goal

pub returns-in_default-clause-answer : goal.returns-in_default-clause-answer
returns-in_default-clause-answer c = (
  λ a b h. absurd (c.in_default.not-Some (a, b) (c.decomposed.ensures.hangul a b h)),
  λ n. c.none.ensures,
  subst IsOneLine (sym c.none.ensures) refl,
)

pub returns-clause-answer : goal.returns-clause-answer
returns-clause-answer c =
    let told : string_bytes c.in_ok-format.field-0 ≡ hexadecimal c.in-Some.a ++ 32 ∷ hexadecimal c.in-Some.b =
    search rules in
    let first : (a b : ℕ) → c.decomposed.result ≡ Some (a, b) → c.in-Some.a ≡ a = λ a b e. search (rules, e) in
    let second : (a b : ℕ) → c.decomposed.result ≡ Some (a, b) → c.in-Some.b ≡ b = λ a b e. search (rules, e) in (
      λ a b h. let e = c.decomposed.ensures.hangul a b h in
          told ∙ ap (λ x. hexadecimal x ++ 32 ∷ hexadecimal c.in-Some.b) (first a b e)
          ∙ ap (λ x. hexadecimal a ++ 32 ∷ hexadecimal x) (second a b e),
      λ n. absurd (search (rules, c.decomposed.ensures.none n)),
      subst IsOneLine (sym told) (one_line-pair c.in-Some.a c.in-Some.b),
    )
