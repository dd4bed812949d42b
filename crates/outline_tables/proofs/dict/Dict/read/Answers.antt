use Rattle.std.proofs.Common.{◌≡◌, ◌+◌, ◌-◌, ◌<◌, ◌≤◌, ◌∙◌, ap, length, rules, sym, Some, arith, false, of_z, to_z, w32}
use Rattle.std.specs.Prelude.{nat_le}
use Rattle.std.proofs.lemmas.Grind.{common_steps}
use Rattle.std.proofs.lemmas.Int.{to_z-of_z}
use Rattle.outline_tables.specs.Operand.{takes, token}
use Rattle.outline_tables.specs.declared.dict.Token.TheVariants.{Number, Operator}
use Rattle.outline_tables.proofs.DictLemmas.{said_by-number, said_by-operator, said_by-too_few}
use Rattle.outline_tables.proofs.dict.Dict.read.Goals.{in-Number, in-Operator+in_ok-set-in-Operator}
use Rattle.outline_tables.proofs.dict.Dict.read.Goals as goal

pub returns-in_err-set-in-Operator : goal.returns-in_err-set-in-Operator
returns-in_err-set-in-Operator c =
    let left = length c.args.data.now - (c.loop.index + 1) in
    let more : length c.args.data.now - c.loop.index ≡ left + 1 = omega arith in
    let some : 0 < length c.loop.rest.now = grind (arith, common_steps, c.is_empty.ensures, c.if-is_empty.false) in
    let is : token c.loop.rest.now ≡ Some (Operator c.in-Operator.operator) = sym c.in_ok-token.ensures.is ∙ ap Some c.in-Operator.is in
    let few : nat_le (takes c.in-Operator.operator) c.loop.numbers.count ≡ false =
    grind (arith, common_steps, c.in_err-set-in-Operator.ensures.enough) in
    let none = said_by-too_few left _ c.loop.dict c.loop.numbers c.loop.rest.now c.in_ok-token.after.now _ more some is (sym c.in_ok-token.ensures.behind) few in
    c.from_residual-in_err-set-in-Operator.ensures ∙ sym none ∙ c.loop.invariant

pub loop-preserved : goal.loop-preserved
loop-preserved c =
    let left = length c.args.data.now - (c.loop.index + 1) in
    let more : length c.args.data.now - c.loop.index ≡ left + 1 = omega arith in
    let some : 0 < length c.loop.rest.now = grind (arith, common_steps, c.is_empty.ensures, c.if-is_empty.false) in
    elim c.match-token.branch [
      | in-Number w ↦
          let is : token c.loop.rest.now ≡ Some (Number w.in-Number.number) = sym c.in_ok-token.ensures.is ∙ ap Some w.in-Number.is in
          let same : to_z w32 (of_z w32 w.in-Number.number) ≡ w.in-Number.number = grind (arith, to_z-of_z) in
          rw (w.dict-is, w.numbers-is, w.push.ensures, same)
          (sym (said_by-number left _ c.loop.dict c.loop.numbers c.loop.rest.now c.in_ok-token.after.now _ more some is
          (sym c.in_ok-token.ensures.behind)) ∙ c.loop.invariant)
      | in-Operator+in_ok-set-in-Operator w ↦
          let is : token c.loop.rest.now ≡ Some (Operator w.in-Operator.operator) = sym c.in_ok-token.ensures.is ∙ ap Some w.in-Operator.is in
          let enough : takes w.in-Operator.operator ≤ c.loop.numbers.count = search rules in
          rw (w.dict-is, w.numbers-is, w.in_ok-set-in-Operator.ensures.said (search rules), w.none-numbers-in-Operator.ensures)
          (sym (said_by-operator left _ c.loop.dict c.loop.numbers c.loop.rest.now c.in_ok-token.after.now _ more some is
          (sym c.in_ok-token.ensures.behind) enough) ∙ c.loop.invariant)
    ]
