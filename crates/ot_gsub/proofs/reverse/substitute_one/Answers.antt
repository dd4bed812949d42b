use Rattle.std.proofs.Common.{Option, true, ap, refl, sym, ◌∙◌}
use Rattle.ot_substitution.specs.declared.substitution.Edit.{Edit}
use Rattle.ot_gsub.specs.Changes.{glyph_numbers}
use Rattle.ot_gsub.specs.Runs.{made_if}
use Rattle.ot_gsub.proofs.ChangesLemmas.{glyph_numbers-mark_around, tells_changed, tells_passed}
use Rattle.ot_gsub.proofs.ReverseLemmas.{place_done}
use Rattle.ot_gsub.proofs.reverse.substitute_one.Goals as goal

pub returns-in_default-clause-done : goal.returns-in_default-clause-done
returns-in_default-clause-done c = λ steps.
    let subs = c.args.substitutions.now in
    let m = c.mark_concat.new.buffer in
    place_done subs c.args.lookup.now c.args.place c.args.progress.now c.decide-edit.new.progress c.args.buffer.now m m
    c.decide-edit.result (c.decide-edit.ensures.decided steps) c.decide-edit.ensures.passed
    c.decide-edit.ensures.same_random c.decide-edit.ensures.spent.0 c.mark_concat.ensures.is
    (ap (λ (e : Option Edit). made_if subs.gdef.now.table.now c.args.place e m) (sym c.in_default.is))

pub returns-clause-done : goal.returns-clause-done
returns-clause-done c = λ steps.
    let subs = c.args.substitutions.now in
    let m = c.mark_concat.new.buffer in
    place_done subs c.args.lookup.now c.args.place c.args.progress.now c.decide-edit.new.progress c.args.buffer.now m
    c.make.new.buffer c.decide-edit.result (c.decide-edit.ensures.decided steps) c.decide-edit.ensures.passed
    c.decide-edit.ensures.same_random c.decide-edit.ensures.spent.0 c.mark_concat.ensures.is
    (c.make.ensures.is ∙ ap (λ (e : Option Edit). made_if subs.gdef.now.table.now c.args.place e m) (sym c.in-Some.is))

pub returns-in_default-clause-tells : goal.returns-in_default-clause-tells
returns-in_default-clause-tells c =
    let s = c.args.buffer.now in
    tells_passed s c.mark_concat.new.buffer c.args.progress.now.has_changed c.decide-edit.new.progress.has_changed
    c.decide-edit.ensures.same_changed
    (ap glyph_numbers c.mark_concat.ensures.is
    ∙ glyph_numbers-mark_around c.args.place c.decide-edit.new.progress.search.reach s c.requires)

pub returns-clause-tells : goal.returns-clause-tells
returns-clause-tells c =
    tells_changed c.args.buffer.now c.make.new.buffer c.args.progress.now.has_changed true refl
