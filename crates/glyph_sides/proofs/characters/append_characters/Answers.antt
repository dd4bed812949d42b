use Rattle.std.proofs.Common.{rules, arith, ◌∙◌}
use Rattle.glyph_sides.proofs.CharactersLemmas.{has_room, filled, filling_done}
use Rattle.glyph_sides.proofs.characters.append_characters.Goals as goal

pub push_reserved-requires : goal.push_reserved-requires
push_reserved-requires c = let s =
    c.in-Some.ensures.steps in omega (arith, has_room c.loop-i.invariant.2 _ _ _ _ s.0 s.1 s.2)

pub loop-i-preserved : goal.loop-i-preserved
loop-i-preserved c = let s = c.in-Some.ensures.steps in (
  search rules,
  tt,
  rw (c.push_reserved.ensures.items, c.push_reserved.ensures.capacity)
      (filled c.loop-i.invariant.2 _ _ _ _ s.0 s.1 s.2),
  c.push_reserved.ensures.capacity ∙ c.loop-i.invariant.3,
)

pub returns-clause-is : goal.returns-clause-is
returns-clause-is c = let s = c.in-None.ensures.steps in filling_done c.loop-i.invariant.2 s.0
