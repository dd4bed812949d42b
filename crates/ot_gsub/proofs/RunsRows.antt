-- Worked rows: lookups over a text of two glyphs.
use Rattle.std.proofs.Common.{◌≡◌, ℕ, true, false, List, [], ◌∷◌, Some, Ok, refl, sym, map, arith, pos, ◌∙◌}
use Rattle.std.proofs.lemmas.Bool.{false≢true}
use Rattle.rb_glyph.specs.declared.info.hb_glyph_info_t.{hb_glyph_info_t}
use Rattle.glyph_lists.specs.Clusters.{zero_glyph}
use Rattle.ot_lookups.specs.Lookup.{is_for}
use Rattle.ot_lookups.specs.declared.lookup_list.Lookup.{Lookup}
use Rattle.ot_substitution.specs.declared.substitution.Edit.{Edit}
use Rattle.ot_substitution.specs.declared.substitution.Edit.TheVariants.{Replace}
use Rattle.shaping_buffer.specs.State.{State, empty_state}
use Rattle.shaping_buffer.specs.Step.{next_glyph}
use Rattle.ot_gsub.specs.Edits.{made_in_place, replace}
use Rattle.ot_gsub.specs.Nested.{Now}
use Rattle.ot_gsub.specs.Runs.{AreDoneBackward, AreGlyphsDone, opened, takes}
use Rattle.ot_gsub.specs.Singles.{opened_at}
use Rattle.ot_gsub.specs.Turn.{IsDecided}
use Rattle.ot_gsub.specs.declared.nested.Step.TheVariants.{Applied}
use Rattle.ot_gsub.specs.declared.substitution.Substitutions.{Substitutions}

abbrev letter : ℕ → hb_glyph_info_t
letter glyph = record zero_glyph { glyph_id = glyph; var1 = 2 }

abbrev text : Now
text = record {
  buffer = record (empty_state 9 (pos 0)) { input = letter 1 ∷ letter 2 ∷ [] };
  random = 1;
  left = 9;
}

module _ (substitutions : Substitutions) (lookup : Lookup) where
  -- it is for neither glyph: both are put out as they stand
  both_passed : ((g : hb_glyph_info_t) → is_for lookup substitutions.options.mask g ≡ false)
      → AreGlyphsDone substitutions lookup 2 (opened text) (record text { buffer = opened_at 2 text.buffer })
  unfolding AreGlyphsDone
  both_passed none = record {
    mid = record text { buffer = opened_at 1 text.buffer };
    first = record {
      some = omega arith;
      others = λ _. (refl, refl);
      taken = λ holds. absurd (false≢true (sym (none (letter 1)) ∙ holds));
    };
    others = record {
      mid = record text { buffer = opened_at 2 text.buffer };
      first = record {
        some = omega arith;
        others = λ _. (refl, refl);
        taken = λ holds. absurd (false≢true (sym (none (letter 2)) ∙ holds));
      };
      others = refl;
    };
  }

  abbrev gdef : List ℕ
  gdef = substitutions.gdef.now.table.now

  -- the first one gives way to glyph 7, and the other one is passed over
  module _ (first : is_for lookup substitutions.options.mask (letter 1) ≡ true)
      (second : is_for lookup substitutions.options.mask (letter 2) ≡ false)
      (decided : IsDecided substitutions lookup false (opened text).buffer [] (Some (Replace 7))) where
    abbrev replaced : State
    replaced = (replace gdef 7 (opened text).buffer).state

    abbrev end : State
    end = (next_glyph replaced).state

    one_replaced : AreGlyphsDone substitutions lookup 2 (opened text) (record text { buffer = end })
    unfolding AreGlyphsDone
    one_replaced = record {
      mid = record text { buffer = replaced };
      first = record {
        some = omega arith;
        others = λ fails. absurd (false≢true (sym fails ∙ first));
        taken = λ _. record {
          step = Ok Applied;
          mid = record text { buffer = replaced };
          turn = record {
            edit = Some (Replace 7);
            reach = record { from = 0; to = 0 };
            places = [];
            left = 9;
            decided = decided;
            fewer = omega arith;
            made = record {
              done = true;
              mid = record text { buffer = replaced };
              edited = (refl, refl);
              answer = refl;
              state = refl;
            };
          };
          past = (refl, refl);
        };
      };
      others = record {
        mid = record text { buffer = end };
        first = record {
          some = omega arith;
          others = λ _. (refl, refl);
          taken = λ holds. absurd (false≢true (sym second ∙ holds));
        };
        others = refl;
      };
    }

    seven_and_two : map (λ (g : hb_glyph_info_t). g.glyph_id) end.out ≡ 7 ∷ 2 ∷ []
    seven_and_two = refl

  -- from the end: what becomes of the first glyph is decided where the one after it has changed
  module _ (of_second of_first : Edit) where
    abbrev changed : State
    changed = made_in_place gdef 1 of_second text.buffer

    both_in_place : takes substitutions lookup 1 text.buffer ≡ true → takes substitutions lookup 0 changed ≡ true
        → IsDecided substitutions lookup false (opened_at 1 text.buffer) [] (Some of_second)
        → IsDecided substitutions lookup false (opened_at 0 changed) [] (Some of_first)
        → AreDoneBackward substitutions lookup 2 text (record text { buffer = made_in_place gdef 0 of_first changed })
    unfolding AreDoneBackward
    both_in_place one none second first = record {
      mid = record text { buffer = changed };
      first = record {
        others = λ fails. absurd (false≢true (sym fails ∙ one));
        taken = λ _. record {
          edit = Some of_second;
          reach = record { from = 0; to = 0 };
          places = [];
          left = 9;
          decided = second;
          fewer = omega arith;
          made = refl;
        };
      };
      others = record {
        mid = record text { buffer = made_in_place gdef 0 of_first changed };
        first = record {
          others = λ fails. absurd (false≢true (sym fails ∙ none));
          taken = λ _. record {
            edit = Some of_first;
            reach = record { from = 0; to = 0 };
            places = [];
            left = 9;
            decided = first;
            fewer = omega arith;
            made = refl;
          };
        };
        others = refl;
      };
    }
