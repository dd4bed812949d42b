-- Each return is a case of the definition: no step is left, a character has no parts, the font lacks the second part, or
-- the first part is not found. Then nothing is found and nothing is added; else both parts are, one behind the other. There
-- is room, since the first part takes no more places than steps are left.
use Rattle.std.proofs.Common.{◌-◌, ◌++◌, List, ℕ, [], Option, sym, ap, ◌∙◌, arith, length, length-append}
use Rattle.std.specs.Prelude.{is_some, unwrap_or}
use Rattle.shaping_passes.specs.NormalizationDecomposition.{parts_with, first_parts}
use Rattle.shaping_passes.proofs.NormalizationCharacterLemmas.{parts_last, parts_none, parts_some, told_none, held_none}
use Rattle.shaping_passes.proofs.NormalizationCharacterLemmas.{none_of, second_lacks, first_lacks, both_told, both_held}
use Rattle.shaping_passes.proofs.NormalizationCharacterLemmas.{first_room}
use Rattle.shaping_passes.proofs.normalization.decomposition.+parts.Goals as goal

pub add_parts-returns-then-steps-eq0 : goal.add_parts-returns-then-steps-eq0
add_parts-returns-then-steps-eq0 g t c =
    let font = g.F.FontCharacters.font c.args.font.now in
    let none = parts_last font c.args.steps c.args.character (omega arith) in
    record { found = told_none font _ none; parts = held_none font c.args.parts.now.items _ none }

pub add_parts-returns-in-Some : goal.add_parts-returns-in-Some
add_parts-returns-in-Some g t c =
    let font = g.F.FontCharacters.font c.args.font.now in
    let made =
    parts_some font c.args.steps c.args.character c.in-Some.first c.in-Some.second (omega arith) c.in-Some.ensures in
    record {
      found = c.add_both.ensures.found ∙ ap is_some made;
      parts = c.add_both.ensures.parts ∙ ap (λ (o : Option (List ℕ)). c.args.parts.now.items ++ unwrap_or o []) made;
    }

pub add_parts-returns-in-None : goal.add_parts-returns-in-None
add_parts-returns-in-None g t c =
    let font = g.F.FontCharacters.font c.args.font.now in
    let none = parts_none font c.args.steps c.args.character (sym c.in-None.ensures) in
    record { found = told_none font _ none; parts = held_none font c.args.parts.now.items _ none }

pub add_both-returns-then-lacks : goal.add_both-returns-then-lacks
add_both-returns-then-lacks g t c =
    let font = g.F.FontCharacters.font c.args.font.now in
    let apart = parts_with font (c.args.steps - 1) c.args.first in
    let none = second_lacks font c.args.first c.args.second apart (sym c.if-lacks.true ∙ c.lacks.ensures) in
    record { found = told_none font _ none; parts = held_none font c.args.parts.now.items _ none }

pub add_both-returns-then-not-add_first : goal.add_both-returns-then-not-add_first
add_both-returns-then-not-add_first g t c =
    let font = g.F.FontCharacters.font c.args.font.now in
    let apart = parts_with font (c.args.steps - 1) c.args.first in
    let first = none_of font (first_parts font c.args.first apart)
    (sym c.if-not-add_first.true ∙ c.add_first.ensures.found) in
    let none =
    first_lacks font c.args.first c.args.second apart (sym c.if-lacks.false ∙ c.lacks.ensures) first in
    record {
      found = told_none font _ none;
      parts = c.add_first.ensures.parts ∙ sym (held_none font c.args.parts.now.items _ first)
          ∙ held_none font c.args.parts.now.items _ none;
    }

pub add_both-push_part-requires : goal.add_both-push_part-requires
add_both-push_part-requires g t c =
    let font = g.F.FontCharacters.font c.args.font.now in
    let old = c.args.parts.now.items in
    let made = unwrap_or (first_parts font c.args.first (parts_with font (c.args.steps - 1) c.args.first)) [] in
    omega (
      arith,
      ap length c.add_first.ensures.parts,
      length-append old made,
      first_room font c.args.steps c.args.first c.requires.some,
      c.requires.room,
    )

pub add_both-returns : goal.add_both-returns
add_both-returns g t c =
    let font = g.F.FontCharacters.font c.args.font.now in
    let apart = parts_with font (c.args.steps - 1) c.args.first in
    let there = sym c.if-lacks.false ∙ c.lacks.ensures in
    let first = sym c.if-not-add_first.false ∙ c.add_first.ensures.found in
    record {
      found = both_told font c.args.first c.args.second apart there first;
      parts = c.push_part.ensures
          ∙ both_held font c.args.first c.args.second apart there first c.args.parts.now.items
          c.add_first.new.parts.items c.add_first.ensures.parts;
    }
