use Rattle.std.proofs.Common.{◌∙◌, ℕ, List, [], Some, ap, map, subst}
use Rattle.std.specs.Prelude.{IfOk}
use Rattle.std.specs.Option.{option_copied}
use Rattle.rb_common.specs.declared.tag.Tag.{Tag}
use Rattle.rb_text.specs.Tags.{languages_of}
use Rattle.ot_plan.specs.AskedFor.{IsAskedFor, language_tags}
use Rattle.ot_plan.proofs.planning.plan_for.Goals as goal

-- a language whose tags were looked up needs no table
pub returns-clause-asked : goal.returns-clause-asked
returns-clause-asked g c =
    let face = c.args.face.now in
    let segment = c.args.segment.now in
    let language = option_copied segment.language in
    let tags = c.tags_from_script_and_language-scripts.ensures in
    let scripts = ap (map (λ (tag : Tag). tag.0)) c.as_slice.ensures.value ∙ tags.scripts in
    let languages = ap (map (λ (tag : Tag). tag.0)) c.as_slice-2.ensures.value ∙ tags.languages
    ∙ ap (λ (found : List ℕ). languages_of (λ prefix. Some found) [] language) c.of-found.ensures in
    subst (λ (l : List ℕ). IfOk c.plan_of.result (IsAskedFor face segment.direction segment.script l (language_tags language) c.args.features.now)) scripts
    (subst (λ (l : List ℕ). IfOk c.plan_of.result
    (IsAskedFor face segment.direction segment.script (map (λ (tag : Tag). tag.0) c.as_slice.result.now) l c.args.features.now)) languages
    c.plan_of.ensures.asked)
