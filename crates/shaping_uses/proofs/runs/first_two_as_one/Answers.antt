use Rattle.std.proofs.Common.{◌≡◌, ◌∙◌, sym, false, [], ◌∷◌, length, ap, inl, inr, rules, arith}
use Rattle.std.proofs.lemmas.Bool.{cases_lt, false≢true}
use Rattle.shaping_buffer.specs.State.{State}
use Rattle.shaping_runs.specs.declared.call.Answer.TheVariants.{Outside, Done}
use Rattle.shaping_uses.proofs.TextLemmas.{is_pushed, is_too_long}
use Rattle.shaping_uses.proofs.RunsLemmas.{answers_of-merge, answers_of-merge_outside}
use Rattle.shaping_uses.proofs.runs.first_two_as_one.Goals as goal

pub returns-then-not-branch-clause-is : goal.returns-then-not-branch-clause-is
returns-then-not-branch-clause-is c =
    let s = c.new-characters.result in
    let none : length s.input ≡ 0 = ap (λ (t : State). length t.input) c.new-characters.ensures.empty in
    let long = is_too_long c.args.text.now s _ 0x3FFF_FFFF _ none c.new-characters.ensures.max_len c.in_ok-push_str.ensures
    (search rules) in
    (λ e. cc, λ held. absurd (omega (arith, long, held.1)))

pub returns-clause-is : goal.returns-clause-is
returns-clause-is c =
    let s = c.new-characters.result in
    let none : length s.input ≡ 0 = ap (λ (t : State). length t.input) c.new-characters.ensures.empty in
    let held = is_pushed c.args.text.now s _ 0x3FFF_FFFF _ none c.new-characters.ensures.max_len c.in_ok-push_str.ensures
    (search rules) in
    let t = c.into_buffer-buffer.result in
    let closed : t.have_output ≡ false = c.into_buffer-buffer.ensures.text.closed in
    let n = ap (λ (t : State). length t.input) c.into_buffer-buffer.ensures.is ∙ held.0 in
    elim (cases_lt (length t.input) 2) [
      | inl few ↦
          let off : c.replay.new.answers ≡ Outside ∷ [] =
          c.in-Ok.ensures.answers ∙ answers_of-merge_outside t closed few in
          (λ e. let said : c.eq.result ≡ false = search (rules, off) in absurd (false≢true (sym said ∙ e)), λ held. absurd (omega (arith, held.0, n, few)))
      | inr two ↦
          let on : c.replay.new.answers ≡ Done ∷ [] = c.in-Ok.ensures.answers ∙ answers_of-merge t closed two in
          (λ e. (omega (arith, n, two), held.1), λ _. search (rules, on))
    ]
