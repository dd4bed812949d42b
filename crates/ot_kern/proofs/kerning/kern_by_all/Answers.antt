use Rattle.std.proofs.Common.{◌≡◌, ◌+◌, ◌-◌, suc, false, None, Some, option_map, drop, nat_eq, refl, sym, ap, ◌∙◌, if◌then◌else◌, arith}
use Rattle.ot_kern.specs.Kerning.{Kern, kerned, kerned_from, pair_table, table_at}
use Rattle.ot_kern.specs.declared.kern_pairs.KernMachine.{KernMachine}
use Rattle.ot_attachments.proofs.KeptLemmas.{kept_then}
use Rattle.ot_kern.proofs.KerningLemmas.{nat_eq_last, kerned_from_applied, kerned_from_end}
use Rattle.ot_kern.proofs.kerning.kern_by_all.Goals as goal

pub loop-number-init : goal.loop-number-init
unfolding kerned
loop-number-init c =
    let table = c.args.table.now in
    let k : Kern = record { table = table; scale = c.args.scale.now; options = c.args.options.now } in
    let all : table.count - 0 ≡ table.count = omega arith in
    record {
      same =
          ap (λ n. kerned_from n k c.start-at.result false c.mark_concat.new.buffer) all
          ∙ ap (λ at. kerned_from table.count k at false c.mark_concat.new.buffer) c.start-at.ensures
          ∙ ap (kerned_from table.count k (if table.is_apple then 8 else 4) false) c.mark_concat.ensures.is;
      kept = record {
        placed = record { closed = c.mark_concat.ensures.closed; placed = c.mark_concat.ensures.placed };
        rest = c.mark_concat.ensures.rest;
        flags = c.mark_concat.ensures.flags;
      };
    }

pub loop-number-preserved : goal.loop-number-preserved
loop-number-preserved c =
    let table = c.args.table.now in
    let k : Kern = record { table = table; scale = c.args.scale.now; options = c.args.options.now } in
    let left = table.count - (c.loop-number.number + 1) in
    let one : suc left ≡ table.count - c.loop-number.number = omega (arith, c.loop-number-test.true) in
    let here : table_at table.is_apple (nat_eq left 0) (drop c.loop-number.at table.table.now) ≡ Some (pair_table c.in-Some.subtable) =
    ap (λ b. table_at table.is_apple b (drop c.loop-number.at table.table.now)) (nat_eq_last table.count c.loop-number.number)
    ∙ sym c.subtable_of.ensures ∙ ap (option_map pair_table) c.in-Some.is in
    let m : KernMachine = record {
      subtable = c.in-Some.subtable;
      iterator = c.over_bases-iterator.result;
      scale = c.args.scale.now;
      direction = c.direction_of-direction.result;
    } in
    record {
      same =
          sym (kerned_from_applied left k c.loop-number.at _ c.loop-number.is_chained _ c.loop-number.buffer _ m refl
          c.over_bases-iterator.ensures.mask c.over_bases-iterator.ensures.joiners c.direction_of-direction.ensures here c.saturating_add-at.ensures
          c.apply-is_chained.ensures.chained c.apply-is_chained.ensures.is)
          ∙ ap (λ n. kerned_from n k c.loop-number.at c.loop-number.is_chained c.loop-number.buffer) one
          ∙ c.loop-number.invariant.same;
      kept = kept_then _ _ _ c.loop-number.invariant.kept c.apply-is_chained.ensures.kept;
    }

pub returns-in_default-clause-is : goal.returns-in_default-clause-is
returns-in_default-clause-is c =
    let table = c.args.table.now in
    let k : Kern = record { table = table; scale = c.args.scale.now; options = c.args.options.now } in
    let left = table.count - (c.loop-number.number + 1) in
    let one : suc left ≡ table.count - c.loop-number.number = omega (arith, c.loop-number-test.true) in
    let none : table_at table.is_apple (nat_eq left 0) (drop c.loop-number.at table.table.now) ≡ None =
    ap (λ b. table_at table.is_apple b (drop c.loop-number.at table.table.now)) (nat_eq_last table.count c.loop-number.number)
    ∙ sym c.subtable_of.ensures ∙ ap (option_map pair_table) c.in_default.is in
    sym (kerned_from_end left k c.loop-number.at c.loop-number.is_chained c.loop-number.buffer none)
    ∙ ap (λ n. kerned_from n k c.loop-number.at c.loop-number.is_chained c.loop-number.buffer) one
    ∙ c.loop-number.invariant.same

pub returns-clause-is : goal.returns-clause-is
returns-clause-is c =
    let table = c.args.table.now in
    let k : Kern = record { table = table; scale = c.args.scale.now; options = c.args.options.now } in
    let none : table.count - c.loop-number.number ≡ 0 = omega (arith, c.loop-number-test.false) in
    sym (ap (λ n. kerned_from n k c.loop-number.at c.loop-number.is_chained c.loop-number.buffer) none) ∙ c.loop-number.invariant.same
