use Rattle.std.proofs.Common.{◌≡◌, ◌++◌, ◌-◌, ◌==◌, false, drop, length, take, ap, sym, rules, ◌∙◌}
use Rattle.std.proofs.lemmas.List.{take-append-drop}
use Rattle.std.specs.List.{list_any}
use Rattle.shape_lines.specs.Reading.{room}
use Rattle.shape_lines.proofs.ReadingLemmas.{held-whole, take-drop}
use Rattle.shape_lines.proofs.reading.keep_held.Goals as goal

pub returns-then-not-contains : goal.returns-then-not-contains
returns-then-not-contains c =
    let all = c.args.bytes.now.items in
    let whole : take (length all - c.args.start) (drop c.args.start all) ≡ drop c.args.start all = take-drop c.args.start all in
    let none : list_any (λ y. y == 0) (drop c.args.start all) ≡ false = search (rules, whole) in
    sym (take-append-drop c.args.start all) ∙ ap (λ l. take c.args.start all ++ l) (sym (held-whole (drop c.args.start all) room none))
