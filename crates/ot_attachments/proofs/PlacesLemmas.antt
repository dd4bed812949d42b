-- Whether one of several places passes a test, place by place.
use Rattle.std.proofs.Common.{◌≡◌, ℕ, suc, ◌+◌, ◌-◌, ◌<◌, ◌≤◌, Bool, true, false, arith, refl}
use Rattle.ot_attachments.specs.Places.{some_place}

pub some_place_here : (test : ℕ → Bool) (from to : ℕ) → from < to → test from ≡ true → some_place test from (to - from) ≡ true
some_place_here test from to within passes =
    let one : to - from ≡ suc (to - from - 1) = omega arith in
    rw (one, passes) refl

pub some_place_later : (test : ℕ → Bool) (from to : ℕ) → from < to → test from ≡ false
    → some_place test from (to - from) ≡ some_place test (from + 1) (to - (from + 1))
some_place_later test from to within fails =
    let one : to - from ≡ suc (to - (from + 1)) = omega arith in
    rw (one, fails) refl

pub some_place_none : (test : ℕ → Bool) (from to : ℕ) → to ≤ from → some_place test from (to - from) ≡ false
some_place_none test from to end =
    let none : to - from ≡ 0 = omega arith in
    rw none refl
