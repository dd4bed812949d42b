use Rattle.std.proofs.Common.{ap, ◌∙◌}
use Rattle.line_formats.specs.Heads.{head}
use Rattle.shape_answers.proofs.LineLemmas.{shows}
use Rattle.shape_answers.proofs.lines.answer_line.Goals as goal

pub returns : goal.returns
returns g c =
    shows c.args.shaper.now.output c.args.number c.args.line.now c.in_ok-answered.answered.characters.items _ _ _ _ _
    c.in_ok-answered.ensures.list c.in_ok-answered.ensures.answer
    (c.as_slice-2.ensures.value ∙ c.in_ok-before.ensures
    ∙ ap (head c.args.shaper.now.output.shown c.args.number c.args.line.now) c.as_slice-characters.ensures.value)
    c.in_ok-put.ensures c.in_ok-write_answer.ensures
