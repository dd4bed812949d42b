use Rattle.std.proofs.Common.{◌≡◌, ◌-◌, ◌≤◌, length, drop, take, length-drop, refl, arith, rules}
use Rattle.std.proofs.lemmas.List.{take_all}
use Rattle.ot_gpos.specs.Visit.{visit_of}
use Rattle.ot_gpos.proofs.ContextLemmas.{decided_by}
use Rattle.ot_gpos.proofs.contexts.fit_at.Goals as goal

pub returns-clause-decided : goal.returns-clause-decided
returns-clause-decided c = λ steps.
    let turn = c.args.turn.now in
    let gs = c.args.glyphs.now in
    let all : length (drop turn.place gs) ≤ length gs - turn.place = simp length-drop (omega arith) in
    let cut : take (length gs - turn.place) (drop turn.place gs) ≡ drop turn.place gs =
    take_all (length gs - turn.place) (drop turn.place gs) all in
    decided_by c.args.list.now (visit_of turn) c.args.context.now gs _ c.fitting_rule-found.new.search.places.items
    c.fitting_rule-found.result
    (c.fitting_rule-found.ensures.exact c.requires.next steps) c.fitting_rule-found.ensures.rule
    (record {
      out = refl;
      input = first_of (assumption cut, search rules, cc cut);
      iterator = refl;
      context = refl;
      syllable = refl;
      level = refl;
    })
