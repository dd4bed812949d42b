use Rattle.std.specs.Prelude.{ℕ, ◌≡◌, List, Option, Result}
use Rattle.std.specs.Borrow.{Bor}
use Rattle.std.specs.Result.{IfErr, result_ok}

-- what reading a text answers: the value, exactly where there is one, and else this message
abbrev pub Answers : {A : Type 0} → Option A → List ℕ → Result A (Bor (List ℕ)) → Type 0
Answers value message r = (result_ok r ≡ value) × IfErr r (λ e. e.now ≡ message)
