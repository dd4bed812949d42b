use Rattle.std.proofs.Common.{rules, ◌≡◌, length, true, false}
use Rattle.shape_lines.proofs.AnswerLemmas.{line-none, line-some}
use Rattle.shape_lines.proofs.printing.GlyphPrinter.print.Goals as goal

pub returns-then-is_empty : goal.returns-then-is_empty
returns-then-is_empty g c =
    let none : length c.args.glyphs.now.input ≡ 0 = search rules in
    line-none _ c.args.self.now.output c.args.glyphs.now none

pub returns : goal.returns
returns g c =
    line-some _ c.args.self.now.output c.args.glyphs.now _
    (λ none. let bad : false ≡ true = c.if-is_empty.ensures.1 none in cc) c.in_ok-answer.ensures
