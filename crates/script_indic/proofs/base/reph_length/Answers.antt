use Rattle.script_indic.proofs.BaseLemmas.{asked-no, asked-three, asked-two, cons-three, cons-two, unasked}
use Rattle.script_indic.proofs.base.reph_length.Goals as goal

pub returns-then-not-may_form_reph : goal.returns-then-not-may_form_reph
returns-then-not-may_form_reph g c = λ test by.
    unasked test c.args.plan.now c.args.syllable.now c.may_form_reph.result _ c.may_form_reph.ensures.is
    c.if-not-may_form_reph.true c.encoded_reph.ensures

pub returns-then-forms_reph : goal.returns-then-forms_reph
returns-then-forms_reph g c = λ test by.
    asked-two test c.args.plan.now c.args.syllable.now c.may_form_reph.result c.may_form_reph.ensures.is
    c.if-not-may_form_reph.false _ c.forms_reph.result (by _ _ _ _ c.forms_reph.ensures)
    (cons-two c.args.syllable.now _ _ (c.may_form_reph.ensures.long c.if-not-may_form_reph.false)) c.if-forms_reph.true

pub returns-in-Explicit : goal.returns-in-Explicit
returns-in-Explicit g c = λ test by.
    asked-three test c.args.plan.now c.args.syllable.now c.may_form_reph.result c.may_form_reph.ensures.is
    c.if-not-may_form_reph.false _ c.forms_reph.result (by _ _ _ _ c.forms_reph.ensures)
    (cons-two c.args.syllable.now _ _ (c.may_form_reph.ensures.long c.if-not-may_form_reph.false)) c.if-forms_reph.false
    _ c.forms_reph-in-Explicit.result _ c.in-Explicit.is (by _ _ _ _ c.forms_reph-in-Explicit.ensures)
    (cons-three c.args.syllable.now _ _ (c.may_form_reph.ensures.long c.if-not-may_form_reph.false) _) c.then_some.ensures

pub returns : goal.returns
returns g c = λ test by.
    asked-no test c.args.plan.now c.args.syllable.now c.may_form_reph.result c.may_form_reph.ensures.is
    c.if-not-may_form_reph.false _ c.forms_reph.result (by _ _ _ _ c.forms_reph.ensures)
    (cons-two c.args.syllable.now _ _ (c.may_form_reph.ensures.long c.if-not-may_form_reph.false)) c.if-forms_reph.false
    c.in_default.not-Explicit
