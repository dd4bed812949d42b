use Rattle.std.proofs.Common.{sym, ap, subst, ◌∙◌}
use Rattle.script_indic.specs.IndicFeatures.{AreForms, AreMasks}
use Rattle.script_indic.specs.Scripts.{indic_plan}
use Rattle.script_indic.specs.declared.plan.IndicPlan.{IndicPlan}
use Rattle.script_indic.proofs.features.plan.Goals as goal

pub returns-clause-is : goal.returns-clause-is
returns-clause-is c =
    c.new.ensures
    ∙ sym (ap (λ (p : IndicPlan). indic_plan c.args.script c.args.layout.now.gsub_script.0 p.masks p.forms) c.new.ensures)

pub returns-clause-masks : goal.returns-clause-masks
returns-clause-masks c =
    subst (AreMasks c.args.layout.now) (sym (ap (λ (p : IndicPlan). p.masks) c.new.ensures)) (record {
      rphf = c.one_mask.ensures;
      pref = c.one_mask-2.ensures;
      blwf = c.one_mask-3.ensures;
      abvf = c.one_mask-4.ensures;
      half = c.one_mask-5.ensures;
      pstf = c.one_mask-6.ensures;
      init = c.one_mask-7.ensures;
    })

pub returns-clause-forms : goal.returns-clause-forms
returns-clause-forms c =
    subst (AreForms c.args.layout.now) (sym (ap (λ (p : IndicPlan). p.forms) c.new.ensures)) (record {
      pref = c.has_lookups.ensures;
      blwf = c.has_lookups-2.ensures;
      pstf = c.has_lookups-3.ensures;
      vatu = c.has_lookups-4.ensures;
    })
