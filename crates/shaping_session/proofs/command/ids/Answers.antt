use Rattle.std.proofs.Common.{rules, ap, ◌∙◌, ◌≡◌, ◌++◌, ◌∷◌, [], None, Some}
use Rattle.shaping_session.specs.Words.{next_u32, past_first_word}
use Rattle.shaping_session.proofs.ReplacementLemmas.{ids_before, ids_in-missing, ids_before-one_more}
use Rattle.shaping_session.proofs.command.ids.Goals as goal

pub returns-in_default : goal.returns-in_default
returns-in_default c =
    let none : next_u32 c.loop-i.words ≡ None = search rules in
    c.loop-i.invariant ∙ ap (ids_before c.loop-i.ids.items)
    (ids_in-missing c.args.count c.loop-i.i c.loop-i.words c.loop-i-test.true none)

pub loop-i-preserved : goal.loop-i-preserved
loop-i-preserved c =
    let one : next_u32 c.loop-i.words ≡ Some c.in-Some.id = search rules in
    let rest : c.number.new.self ≡ past_first_word c.loop-i.words = search rules in
    let items : c.push.new.self.items ≡ c.loop-i.ids.items ++ c.in-Some.id ∷ [] = search rules in
    rw (items, rest) (c.loop-i.invariant ∙ ids_before-one_more c.args.count c.loop-i.i c.loop-i.words c.loop-i.ids.items
    c.in-Some.id c.loop-i-test.true one)
