use Rattle.std.proofs.Common.{◌≡◌, length, ap, rules}
use Rattle.shaping_buffer.specs.State.{State}
use Rattle.shaping_uses.proofs.TextLemmas.{is_pushed, is_too_long}
use Rattle.shaping_uses.proofs.printing.print_characters.Goals as goal

pub returns-then-not-branch-clause-is : goal.returns-then-not-branch-clause-is
returns-then-not-branch-clause-is c =
    let s = c.new-characters.result in
    let none : length s.input ≡ 0 = ap (λ (t : State). length t.input) c.new-characters.ensures.empty in
    is_too_long c.args.text.now s _ 0x3FFF_FFFF _ none c.new-characters.ensures.max_len c.in_ok-push_str.ensures
    (search rules)

pub returns-clause-is : goal.returns-clause-is
returns-clause-is c =
    let s = c.new-characters.result in
    let none : length s.input ≡ 0 = ap (λ (t : State). length t.input) c.new-characters.ensures.empty in
    let held = is_pushed c.args.text.now s _ 0x3FFF_FFFF _ none c.new-characters.ensures.max_len c.in_ok-push_str.ensures
    (search rules) in
    (held.1, search rules)
