use Rattle.std.proofs.Common.{◌≡◌, ℕ, ◌+◌, ◌-◌, ◌/◌, ◌<◌, List, length, Some, sym, ap, ◌∙◌, inl, inr, arith}
use Rattle.std.specs.declared.cmp.Ordering.TheVariants.{Less, Equal, Greater}
use Rattle.std.proofs.lemmas.Bool.{cases_lt}
use Rattle.ot_tags.specs.Registry.{rows_of, code_of}
use Rattle.ot_tags.proofs.RegistryLemmas.{order, code_at, length-rows_of, row_of-found, row_of-none, none_up_to, none_from}
use Rattle.ot_tags.proofs.registry.row_of.Goals as goal

pub loop-low-init : goal.loop-low-init
loop-low-init c = record {
  order = omega arith;
  within = omega arith;
  before = λ k none. absurd (omega arith);
  behind = λ k from inside. absurd (omega (arith, length-rows_of c.args.rows.now));
}

pub loop-low-preserved-in-Less : goal.loop-low-preserved-in-Less
loop-low-preserved-in-Less c =
    let rows = rows_of c.args.rows.now in
    let at : ℕ = c.loop-low.low + (c.loop-low.high - c.loop-low.low) / 2 in
    let within : at < length rows = omega (arith, length-rows_of c.args.rows.now) in
    let is : order (code_at rows at) c.args.code.now ≡ Less =
    ap (λ (row : List ℕ). order (code_of row) c.args.code.now) (sym c.row_at-row.ensures.value)
    ∙ sym c.order.ensures ∙ c.in-Less.is in
    record {
      order = omega arith;
      within = c.loop-low.invariant.within;
      before = none_up_to rows c.requires c.args.code.now at within is;
      behind = c.loop-low.invariant.behind;
    }

pub loop-low-preserved : goal.loop-low-preserved
loop-low-preserved c =
    let rows = rows_of c.args.rows.now in
    let at : ℕ = c.loop-low.low + (c.loop-low.high - c.loop-low.low) / 2 in
    let within : at < length rows = omega (arith, length-rows_of c.args.rows.now) in
    let is : order (code_at rows at) c.args.code.now ≡ Greater =
    ap (λ (row : List ℕ). order (code_of row) c.args.code.now) (sym c.row_at-row.ensures.value)
    ∙ sym c.order.ensures ∙ c.in-Greater.is in
    record {
      order = omega arith;
      within = omega arith;
      before = c.loop-low.invariant.before;
      behind = none_from rows c.requires c.args.code.now at within is;
    }

pub returns-in-Equal : goal.returns-in-Equal
returns-in-Equal c =
    let rows = rows_of c.args.rows.now in
    let at : ℕ = c.loop-low.low + (c.loop-low.high - c.loop-low.low) / 2 in
    let within : at < length rows = omega (arith, length-rows_of c.args.rows.now) in
    let is : order (code_at rows at) c.args.code.now ≡ Equal =
    ap (λ (row : List ℕ). order (code_of row) c.args.code.now) (sym c.row_at-row.ensures.value)
    ∙ sym c.order.ensures ∙ c.in-Equal.is in
    ap Some c.row_at-row.ensures.value ∙ sym (row_of-found rows c.requires c.args.code.now at within is)

pub returns : goal.returns
returns c =
    let rows = rows_of c.args.rows.now in
    sym (row_of-none rows c.args.code.now (λ k inside. elim (cases_lt k c.loop-low.low) [
      | inl below ↦ c.loop-low.invariant.before k below
      | inr above ↦ c.loop-low.invariant.behind k (omega arith) inside
    ]))
