-- What DICT data say, number by number and operator by operator.
use Rattle.std.proofs.Common.{◌≡◌, ℕ, ◌+◌, ◌<◌, ◌≤◌, List, Some, None, ℤ, length, refl, arith, add-one, true, false}
use Rattle.std.specs.Prelude.{option_and_then, nat_le, ◌==◌}
use Rattle.outline_tables.specs.Operand.{behind_one, behind_token, no_numbers, said, said_by, takes, token, with_number}
use Rattle.outline_tables.specs.declared.dict.Dict.{Dict}
use Rattle.outline_tables.specs.declared.dict.Numbers.{Numbers}
use Rattle.outline_tables.specs.declared.dict.Token.{Token}
use Rattle.outline_tables.specs.declared.dict.Token.TheVariants.{Number, Operator}

not_none : (n : ℕ) → 0 < n → n == 0 ≡ false
not_none n more = grind arith

enough : (a b : ℕ) → a ≤ b → nat_le a b ≡ true
enough a b less = grind arith

said_by-one : (n : ℕ) (dict : Dict) (ns : Numbers) (bs rest : List ℕ) (t : Token) → 0 < length bs → token bs ≡ Some t
    → behind_token bs ≡ Some rest → said_by (n + 1) dict ns bs ≡ option_and_then (λ so. said_by n so.0 so.1 rest) (behind_one dict ns t)
unfolding said_by
said_by-one n dict ns bs rest t some is behind = rw (add-one n, not_none (length bs) some, is, behind) refl

-- a number
pub said_by-number : (n left : ℕ) (dict : Dict) (ns : Numbers) (bs rest : List ℕ) (number : ℤ) → left ≡ n + 1 → 0 < length bs
    → token bs ≡ Some (Number number) → behind_token bs ≡ Some rest
    → said_by left dict ns bs ≡ said_by n dict (with_number ns number) rest
said_by-number n left dict ns bs rest number more some is behind =
    rw more (said_by-one n dict ns bs rest (Number number) some is behind)

-- an operator behind as many numbers as it takes
pub said_by-operator : (n left : ℕ) (dict : Dict) (ns : Numbers) (bs rest : List ℕ) (operator : ℕ) → left ≡ n + 1 → 0 < length bs
    → token bs ≡ Some (Operator operator) → behind_token bs ≡ Some rest → takes operator ≤ ns.count
    → said_by left dict ns bs ≡ said_by n (said dict operator ns) no_numbers rest
said_by-operator n left dict ns bs rest operator more some is behind less =
    let one = said_by-one n dict ns bs rest (Operator operator) some is behind in
    rw more (rw (enough (takes operator) ns.count less) at one)

-- an operator behind fewer
pub said_by-too_few : (n left : ℕ) (dict : Dict) (ns : Numbers) (bs rest : List ℕ) (operator : ℕ) → left ≡ n + 1 → 0 < length bs
    → token bs ≡ Some (Operator operator) → behind_token bs ≡ Some rest → nat_le (takes operator) ns.count ≡ false
    → said_by left dict ns bs ≡ None
said_by-too_few n left dict ns bs rest operator more some is behind few =
    let one = said_by-one n dict ns bs rest (Operator operator) some is behind in
    rw more (rw few at one)
