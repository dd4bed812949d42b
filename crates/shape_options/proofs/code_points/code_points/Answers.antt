use Rattle.std.proofs.Common.{◌≡◌, ◌∷◌, length, sym, ◌∙◌, rules}
use Rattle.shape_options.proofs.CodePointLemmas.{numbers_in-begins, numbers_in-refused, numbers_in-goes_on}
use Rattle.shape_options.proofs.CodePointLemmas.{numbers_in-ends, empty}
use Rattle.shape_options.proofs.code_points.code_points.Goals as goal

pub loop-byte-init : goal.loop-byte-init
loop-byte-init c = numbers_in-begins _ _ _ c.as_bytes-rest.ensures.value c.new-numbers.ensures.items

pub returns-in_err-number-clause-refused : goal.returns-in_err-number-clause-refused
returns-in_err-number-clause-refused c =
    let cut : c.loop-byte.rest.now ≡ c.in-Some.byte.now ∷ c.in-Some.others.now = search rules in
    λ is.
    numbers_in-refused _ _ _ _ _ _ c.loop-byte.invariant cut (sym c.step.ensures ∙ c.in_err-number.ensures.ok_part)

pub loop-byte-preserved : goal.loop-byte-preserved
loop-byte-preserved c =
    let cut : c.loop-byte.rest.now ≡ c.in-Some.byte.now ∷ c.in-Some.others.now = search rules in
    numbers_in-goes_on _ _ _ _ _ _ _ _ _ c.loop-byte.invariant cut (sym c.step.ensures ∙ c.in_ok-number.ensures.ok_part)
    c.in_ok-push_number.ensures.ok

pub returns-clause-numbers : goal.returns-clause-numbers
returns-clause-numbers c =
    let none : length c.loop-byte.rest.now ≡ 0 = search rules in
    numbers_in-ends _ _ _ _ _ _ c.loop-byte.invariant (empty _ none) c.ended.ensures c.in_ok-push_number-2.ensures.ok
