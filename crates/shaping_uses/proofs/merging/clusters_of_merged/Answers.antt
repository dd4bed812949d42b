use Rattle.std.proofs.Common.{◌≡◌, ◌≤◌, ◌<◌, length, ap, inl, inr, rules, arith}
use Rattle.shaping_buffer.specs.State.{State}
use Rattle.shaping_uses.proofs.TextLemmas.{is_pushed, is_too_long}
use Rattle.shaping_uses.proofs.merging.clusters_of_merged.Goals as goal
use Rattle.shaping_uses.proofs.merging.clusters_of_merged.Goals.{then-not-branch-via-then-not-branch}
use Rattle.shaping_uses.proofs.merging.clusters_of_merged.Goals.{then-not-branch-via-else-not-branch+then-len-lt2}

pub returns-then-not-branch-clause-is : goal.returns-then-not-branch-clause-is
returns-then-not-branch-clause-is c =
    let s = c.new-characters.result in
    let none : length s.input ≡ 0 = ap (λ (t : State). length t.input) c.new-characters.ensures.empty in
    elim c.then-not-branch.branch [
      | then-not-branch-via-then-not-branch w ↦
          inr (is_too_long c.args.text.now s _ 0x3FFF_FFFF _ none c.new-characters.ensures.max_len
          c.in_ok-push_str.ensures (search rules))
      | then-not-branch-via-else-not-branch+then-len-lt2 w ↦
          let held = is_pushed c.args.text.now s _ 0x3FFF_FFFF _ none c.new-characters.ensures.max_len
          c.in_ok-push_str.ensures (search rules) in
          let short : length c.push_str.new.self.input < 2 = search rules in
          inl (omega (arith, held.0, short))
    ]

pub returns-clause-is : goal.returns-clause-is
returns-clause-is c =
    let s = c.new-characters.result in
    let none : length s.input ≡ 0 = ap (λ (t : State). length t.input) c.new-characters.ensures.empty in
    let held = is_pushed c.args.text.now s _ 0x3FFF_FFFF _ none c.new-characters.ensures.max_len c.in_ok-push_str.ensures
    (search rules) in
    let long : 2 ≤ length c.push_str.new.self.input = search rules in
    (omega (arith, held.0, long), held.1, search rules)
