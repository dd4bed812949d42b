use Rattle.std.proofs.Common.{◌≡◌, ℕ, ◌<◌, ◌≤◌, Bool, true, false, List, length, Option, Some, Result, Ok, ap, arith, refl, sym, subst, ◌∙◌}
use Rattle.std.proofs.lemmas.Bool.{false≢true}
use Rattle.std.specs.Option.{option_copied}
use Rattle.std.specs.declared.alloc.AllocError.{AllocError}
use Rattle.rb_glyph.specs.declared.info.hb_glyph_info_t.{hb_glyph_info_t}
use Rattle.ot_lookups.specs.Lookup.{is_for}
use Rattle.ot_lookups.specs.LookupProps.{glyph_at}
use Rattle.ot_lookups.specs.declared.lookup_list.Lookup.{Lookup}
use Rattle.ot_layout.specs.declared.budget.Budget.{Budget}
use Rattle.shaping_buffer.specs.State.{State}
use Rattle.ot_gsub.specs.Nested.{Now, now_of}
use Rattle.ot_gsub.specs.Runs.{IsRun, IsRunOf}
use Rattle.ot_gsub.specs.Singles.{IsSingle, IsSingleIf, IsSubstituted}
use Rattle.ot_gsub.specs.Turn.{subtables}
use Rattle.ot_gsub.specs.declared.substitution.Substitutions.{Substitutions}
use Rattle.ot_gsub.proofs.ChangesLemmas.{tells_none, tells_passed, tells_then}
use Rattle.ot_gsub.proofs.RunsLemmas.{run_backward, run_forward, run_none}
use Rattle.ot_gsub.proofs.SinglesLemmas.{for_none, is_for-no_mask, len_closed, not_reverse}
use Rattle.ot_gsub.proofs.substitution.substitute.Goals as goal

-- what was paid leaves as many lookups for others to apply, so the run of the lookup that was found is the run of the index
run_paid : (subs : Substitutions) (found : Option Lookup) (lookup : Lookup) (old : Now) (left : ℕ) (result : Result Bool AllocError)
    (new : Now) → Some lookup ≡ found → left ≡ old.left → IsRunOf subs lookup (record old { left = left }) result new
    → IsRun subs found old result new
run_paid subs found lookup old left result new there same is =
    subst (λ (o : Option Lookup). IsRun subs o old result new) there
    (subst (λ k. IsRunOf subs lookup (record old { left = k }) result new) same is)

-- the glyphs end before the first place at which the lookup may do something
none_there : (lookup : Lookup) (mask first : ℕ) (s : State) (l : List hb_glyph_info_t) → l ≡ s.input → length s.input ≤ first
    → ((k : ℕ) → 0 ≤ k → k < first → is_for lookup mask (glyph_at l k) ≡ false)
    → (k : ℕ) → k < length s.input → is_for lookup mask (glyph_at s.input k) ≡ false
none_there lookup mask first s l same past none k within =
    ap (λ (x : List hb_glyph_info_t). is_for lookup mask (glyph_at x k)) (sym same)
    ∙ none k (omega arith) (omega (arith, past, within))

-- they do not
some_there : (lookup : Lookup) (mask first : ℕ) (s : State) (l : List hb_glyph_info_t) → l ≡ s.input → first < length s.input
    → (first < length l → is_for lookup mask (glyph_at l first) ≡ true) → is_for lookup mask (glyph_at s.input first) ≡ true
some_there lookup mask first s l same within some =
    ap (λ (x : List hb_glyph_info_t). is_for lookup mask (glyph_at x first)) (sym same)
    ∙ some (omega (arith, within, ap length same))

pub returns-then-mask-eq0-clause-singles : goal.returns-then-mask-eq0-clause-singles
returns-then-mask-eq0-clause-singles c = λ steps good single.
    let s = c.args.buffer.now in
    let subs = c.args.substitutions.now in
    let lookup = c.in-Some.lookup.now in
    subst (λ (o : Option Lookup). IsSubstituted subs o s (Ok true) s) c.in-Some.ensures
    (for_none subs lookup s
    (λ k h. is_for-no_mask lookup subs.options.mask (glyph_at s.input k) c.if-mask-eq0.true))

pub returns-then-first-len-clause-singles : goal.returns-then-first-len-clause-singles
returns-then-first-len-clause-singles c = λ steps good single.
    let s = c.args.buffer.now in
    let subs = c.args.substitutions.now in
    let lookup = c.in-Some.lookup.now in
    subst (λ (o : Option Lookup). IsSubstituted subs o s (Ok true) s) c.in-Some.ensures
    (for_none subs lookup s
    (none_there lookup subs.options.mask c.first_place-first.result s c.info.result.now c.info.ensures
    (omega (arith, c.if-first-len.true, c.len-2.ensures.len, len_closed s c.requires)) c.first_place-first.ensures.passed))

pub returns-then-is_spent-clause-singles : goal.returns-then-is_spent-clause-singles
returns-then-is_spent-clause-singles c = λ steps good single.
    absurd (omega (arith, steps, c.is_spent.ensures.spent c.if-is_spent.true))

pub returns-then-is_reverse-clause-singles : goal.returns-then-is_reverse-clause-singles
returns-then-is_reverse-clause-singles c = λ steps good single.
    let subs = c.args.substitutions.now in
    let lookup = c.in-Some.lookup.now in
    let one : IsSingle subs lookup c.args.buffer.now =
    subst (λ (o : Option Lookup). IsSingleIf subs o c.args.buffer.now) (sym c.in-Some.ensures) single in
    absurd (false≢true (sym (not_reverse (subtables subs lookup) one.kinds) ∙ sym c.is_reverse.ensures ∙ c.if-is_reverse.true))

pub returns-clause-singles : goal.returns-clause-singles
returns-clause-singles c = λ steps good single.
    let s = c.args.buffer.now in
    let subs = c.args.substitutions.now in
    let new = c.substitute_forward.new.buffer in
    subst (λ (o : Option Lookup). IsSubstituted subs o s c.substitute_forward.result new) c.in-Some.ensures
    (c.substitute_forward.ensures.singles steps good
    (subst (λ (o : Option Lookup). IsSingleIf subs o s) (sym c.in-Some.ensures) single))

pub returns-in_default-clause-run : goal.returns-in_default-clause-run
returns-in_default-clause-run c = λ steps.
    let old = now_of c.args.buffer.now c.args.progress.now in
    subst (λ (o : Option Lookup). IsRun c.args.substitutions.now o old (Ok true) old)
    (sym (ap option_copied c.in_default.is) ∙ c.lookup.ensures) (refl, refl)

pub returns-then-mask-eq0-clause-run : goal.returns-then-mask-eq0-clause-run
returns-then-mask-eq0-clause-run c = λ steps.
    let s = c.args.buffer.now in
    let subs = c.args.substitutions.now in
    let lookup = c.in-Some.lookup.now in
    let start : Now = record (now_of s c.args.progress.now) { left = c.pay_for.new.self.nested } in
    run_paid subs _ lookup (now_of s c.args.progress.now) start.left (Ok true) start c.in-Some.ensures
    (ap (λ (b : Budget). b.nested) c.pay_for.ensures.left)
    (run_none subs lookup start (λ k h. is_for-no_mask lookup subs.options.mask (glyph_at s.input k) c.if-mask-eq0.true))

pub returns-then-first-len-clause-run : goal.returns-then-first-len-clause-run
returns-then-first-len-clause-run c = λ steps.
    let s = c.args.buffer.now in
    let mask = c.args.substitutions.now.options.mask in
    let lookup = c.in-Some.lookup.now in
    let start : Now = record (now_of s c.args.progress.now) { left = c.pay_for.new.self.nested } in
    run_paid c.args.substitutions.now _ lookup (now_of s c.args.progress.now) start.left (Ok true) start c.in-Some.ensures
    (ap (λ (b : Budget). b.nested) c.pay_for.ensures.left)
    (run_none c.args.substitutions.now lookup start
    (none_there lookup mask c.first_place-first.result s c.info.result.now c.info.ensures
    (omega (arith, c.if-first-len.true, c.len-2.ensures.len, len_closed s c.requires)) c.first_place-first.ensures.passed))

pub returns-then-is_spent-clause-run : goal.returns-then-is_spent-clause-run
returns-then-is_spent-clause-run c = λ steps.
    absurd (omega (arith, steps, c.is_spent.ensures.spent c.if-is_spent.true))

pub returns-then-is_reverse-clause-run : goal.returns-then-is_reverse-clause-run
returns-then-is_reverse-clause-run c = λ steps.
    let s = c.args.buffer.now in
    let subs = c.args.substitutions.now in
    let lookup = c.in-Some.lookup.now in
    let first = c.first_place-first.result in
    let start : Now = record (now_of s c.args.progress.now) { left = c.pay_for.new.self.nested } in
    let q = c.substitute_reverse.new.progress in
    let within : first < length s.input =
    omega (arith, c.if-first-len.false, c.first_place-first.ensures.within, ap length c.info.ensures, c.len-2.ensures.len, len_closed s c.requires) in
    run_paid subs _ lookup (now_of s c.args.progress.now) start.left (Ok true) (now_of c.fail_if_spent.new.buffer q) c.in-Some.ensures
    (ap (λ (b : Budget). b.nested) c.pay_for.ensures.left)
    (subst (λ (b : State). IsRunOf subs lookup start (Ok true) (now_of b q)) (sym (c.fail_if_spent.ensures.same steps))
    (run_backward subs lookup start first within
    (some_there lookup subs.options.mask first s c.info.result.now c.info.ensures within c.first_place-first.ensures.at)
    (now_of c.substitute_reverse.new.buffer q) (sym c.is_reverse.ensures ∙ c.if-is_reverse.true)
    (c.substitute_reverse.ensures.run steps)))

pub returns-clause-run : goal.returns-clause-run
returns-clause-run c = λ steps.
    let s = c.args.buffer.now in
    let subs = c.args.substitutions.now in
    let lookup = c.in-Some.lookup.now in
    let first = c.first_place-first.result in
    let start : Now = record (now_of s c.args.progress.now) { left = c.pay_for.new.self.nested } in
    let new = now_of c.substitute_forward.new.buffer c.substitute_forward.new.progress in
    let within : first < length s.input =
    omega (arith, c.if-first-len.false, c.first_place-first.ensures.within, ap length c.info.ensures, c.len-2.ensures.len, len_closed s c.requires) in
    run_paid subs _ lookup (now_of s c.args.progress.now) start.left c.substitute_forward.result new c.in-Some.ensures
    (ap (λ (b : Budget). b.nested) c.pay_for.ensures.left)
    (run_forward subs lookup start first within
    (some_there lookup subs.options.mask first s c.info.result.now c.info.ensures within c.first_place-first.ensures.at)
    c.substitute_forward.result new (sym c.is_reverse.ensures ∙ c.if-is_reverse.false) (c.substitute_forward.ensures.run steps))

pub returns-in_default-clause-tells : goal.returns-in_default-clause-tells
returns-in_default-clause-tells c = λ is. tells_none c.args.buffer.now c.args.progress.now.has_changed

pub returns-then-mask-eq0-clause-tells : goal.returns-then-mask-eq0-clause-tells
returns-then-mask-eq0-clause-tells c = λ is. tells_none c.args.buffer.now c.args.progress.now.has_changed

pub returns-then-first-len-clause-tells : goal.returns-then-first-len-clause-tells
returns-then-first-len-clause-tells c = λ is. tells_none c.args.buffer.now c.args.progress.now.has_changed

pub returns-then-is_spent-clause-tells : goal.returns-then-is_spent-clause-tells
returns-then-is_spent-clause-tells c = λ is.
    let told = c.args.progress.now.has_changed in
    tells_passed c.args.buffer.now c.fail.new.buffer told told refl c.fail.ensures.numbers

pub returns-then-is_reverse-clause-tells : goal.returns-then-is_reverse-clause-tells
returns-then-is_reverse-clause-tells c = λ is.
    let tells = c.substitute_reverse.new.progress.has_changed in
    tells_then c.args.buffer.now c.substitute_reverse.new.buffer c.fail_if_spent.new.buffer c.args.progress.now.has_changed tells
    tells c.substitute_reverse.ensures.tells
    (tells_passed c.substitute_reverse.new.buffer c.fail_if_spent.new.buffer tells tells refl c.fail_if_spent.ensures.numbers)

pub returns-clause-tells : goal.returns-clause-tells
returns-clause-tells c = c.substitute_forward.ensures.tells
