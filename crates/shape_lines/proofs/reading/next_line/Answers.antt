use Rattle.std.proofs.Common.{rules, ◌≡◌, true, false, subst}
use Rattle.std.specs.Io.BufRead.{ends_with_byte}
use Rattle.shape_lines.specs.Reading.{AddsRun}
use Rattle.shape_lines.proofs.ReadingLemmas.{read-last, read-end, read-more}
use Rattle.shape_lines.proofs.reading.next_line.Goals as goal

pub returns-then-not-branch : goal.returns-then-not-branch
returns-then-not-branch g c =
    let none : c.in_ok-read_run.field-0 ≡ false = search rules in
    read-last _ _ _ _ _ _ _ c.loop.invariant
    (subst (λ found. AddsRun c.args.reading found (g.R.Read.remaining c.loop.reader) (g.R.Read.remaining c.read_run.new.reader)
    c.loop.line.items c.read_run.new.line.items) none c.in_ok-read_run.ensures)
    (search rules)

pub returns-then-ends_line : goal.returns-then-ends_line
returns-then-ends_line g c =
    let some : c.in_ok-read_run.field-0 ≡ true = search rules in
    let ends : ends_with_byte 10 c.read_run.new.line.items ≡ true = search rules in
    let cut = read-end _ _ _ _ _ _ c.loop.invariant
    (subst (λ found. AddsRun c.args.reading found (g.R.Read.remaining c.loop.reader) (g.R.Read.remaining c.read_run.new.reader)
    c.loop.line.items c.read_run.new.line.items) some c.in_ok-read_run.ensures)
    ends in
    search (rules, cut)

pub loop-preserved : goal.loop-preserved
loop-preserved g c =
    let some : c.in_ok-read_run.field-0 ≡ true = search rules in
    let open_still : ends_with_byte 10 c.read_run.new.line.items ≡ false = search rules in
    read-more _ _ _ _ _ _ c.loop.invariant
    (subst (λ found. AddsRun c.args.reading found (g.R.Read.remaining c.loop.reader) (g.R.Read.remaining c.read_run.new.reader)
    c.loop.line.items c.read_run.new.line.items) some c.in_ok-read_run.ensures)
    open_still
