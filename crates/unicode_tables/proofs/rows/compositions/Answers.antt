-- Each pair that composes comes into the map once, under the pair, and the map's entries are the rows.
use Rattle.std.proofs.Common.{◌≡◌, Some, cond, sym, ap, ◌∙◌, arith}
use Rattle.std.specs.BTreeMap as tree
use Rattle.std.specs.Ordering.{is_eq}
use Rattle.rb_glyph.specs.Tables.{pairs_rise, composition_of}
use Rattle.rb_glyph.proofs.RisingRows.{pair_cmp}
use Rattle.ucd_normal.specs.Composition.{composite}
use Rattle.unicode_tables.specs.Rows.{pair_of, HasCompositions}
use Rattle.unicode_tables.proofs.Below.{on_err}
use Rattle.unicode_tables.proofs.Pairs.{cond-below, below_next_kept, below-kept_apart, below, all_below}
use Rattle.unicode_tables.proofs.Pairs.{composition_of-lookup, entries_rise, first_found}
use Rattle.unicode_tables.proofs.Pairs.{some_below}
use Rattle.unicode_tables.proofs.rows.compositions.Goals as goal
use Rattle.unicode_tables.proofs.rows.compositions.Goals.{in-Some+in-Some-pair_of+in_ok-insert}
use Rattle.unicode_tables.proofs.rows.compositions.Goals.{in-Some+in_default-pair_of, in_default}

pub loop-code-preserved : goal.loop-code-preserved
loop-code-preserved c =
    let n = c.loop-code.code in
    elim c.match-from_u32.branch [
      | in-Some+in-Some-pair_of+in_ok-insert w ↦
          let pair = w.in-Some-pair_of.pair in
          let is = sym (w.in-Some-pair_of.ensures ∙ ap pair_of w.in-Some.ensures.value.1) in
          λ a b.
          let old = tree.get pair_cmp c.loop-code.pairs (a, b) in
          let now : tree.get pair_cmp w.insert.new.self (a, b)
          ≡ cond (is_eq (pair_cmp pair (a, b))) (Some w.in-Some.c) old =
          w.in_ok-insert.ensures.updates.0 (a, b) in
          ap (λ m. tree.get pair_cmp m (a, b)) w.pairs-is ∙ now
          ∙ ap (λ v. cond (is_eq (pair_cmp pair (a, b))) (Some v) old) w.in-Some.ensures.value.1
          ∙ cond-below n a b pair old is (c.loop-code.invariant a b)
      | in-Some+in_default-pair_of w ↦
          let none = sym (w.in_default-pair_of.ensures ∙ ap pair_of w.in-Some.ensures.value.1) in
          λ a b. ap (λ m. tree.get pair_cmp m (a, b)) w.pairs-is ∙ c.loop-code.invariant a b
          ∙ sym (below_next_kept n a b none)
      | in_default w ↦
          λ a b. ap (λ m. tree.get pair_cmp m (a, b)) w.pairs-is ∙ c.loop-code.invariant a b
          ∙ sym (below-kept_apart n a b w.in_default.ensures.value)
    ]

pub returns-clause-rises : goal.returns-clause-rises
returns-clause-rises c =
    ap pairs_rise c.in_ok-rows.ensures.items ∙ entries_rise c.loop-code.pairs.entries c.in_ok-rows.ensures.ordered

pub returns-clause-exact : goal.returns-clause-exact
returns-clause-exact c =
    let all : c.loop-code.code ≡ 0x11_0000 = omega arith in
    λ a b. ap (composition_of a b) c.in_ok-rows.ensures.items ∙ composition_of-lookup a b c.loop-code.pairs.entries
    ∙ c.loop-code.invariant a b ∙ ap (λ n. below n (composite a b)) all ∙ all_below a b

pub returns-in_err-rows-clause-memory : goal.returns-in_err-rows-clause-memory
returns-in_err-rows-clause-memory c =
    let first = first_found c.loop-code.pairs.entries c.in_err-rows.ensures.memory in
    let row : HasCompositions = (
      first.0,
      (
        first.1.0,
        some_below c.loop-code.code (composite first.0 first.1.0) first.1.1.0
            (sym (c.loop-code.invariant first.0 first.1.0)
            ∙ sym (composition_of-lookup first.0 first.1.0 c.loop-code.pairs.entries) ∙ first.1.1.1),
      ),
    ) in
    on_err c.from_residual-in_err-rows.result HasCompositions row
