use Rattle.std.proofs.Common.{List, refl, ap, arith, drop, length, length-drop, sym, take, ◌∙◌, true}
use Rattle.std.proofs.lemmas.Bool.{eq-eqb, false≢true}
use Rattle.std.proofs.lemmas.List.{length-take-le}
use Rattle.std.specs.Prelude.{if◌then◌else◌}
use Rattle.rb_glyph.specs.Fields.{field}
use Rattle.rb_glyph.specs.declared.info.hb_glyph_info_t.{hb_glyph_info_t}
use Rattle.ot_lookups.specs.LookupProps.{glyph_at}
use Rattle.ot_layout.specs.declared.search.ApplyContext.{ApplyContext}
use Rattle.ot_layout.specs.declared.search.Reach.{Reach}
use Rattle.ot_gsub.proofs.PutOutLemmas.{glyph_at-drop}
use Rattle.ot_gsub.proofs.reverse.decide.Goals as goal

pub returns-then-not-is_taken-clause-decided : goal.returns-then-not-is_taken-clause-decided
returns-then-not-is_taken-clause-decided c = λ steps holds.
    absurd (false≢true (sym c.if-not-is_taken.true ∙ c.is_taken.ensures.takes ∙ holds))

pub returns-then-not-is_taken-clause-passed : goal.returns-then-not-is_taken-clause-passed
returns-then-not-is_taken-clause-passed c = λ fails. (refl, ap (λ (r : Reach). r.to) c.none-progress.ensures, refl)

pub glyphs_before-requires : goal.glyphs_before-requires
glyphs_before-requires c =
    omega (arith, c.is_taken.ensures.within c.if-not-is_taken.false, ap length c.info-glyphs.ensures)

pub glyphs_from-requires : goal.glyphs_from-requires
glyphs_from-requires c =
    omega (arith, c.is_taken.ensures.within c.if-not-is_taken.false, ap length c.info-glyphs.ensures)

pub syllable_at-requires : goal.syllable_at-requires
syllable_at-requires c =
    omega (arith, c.is_taken.ensures.within c.if-not-is_taken.false, ap length c.info-glyphs.ensures)

pub edit_at-requires : goal.edit_at-requires
edit_at-requires c =
    let s = c.args.buffer.now in
    let place = c.args.place in
    omega (
      arith,
      c.is_taken.ensures.within c.if-not-is_taken.false,
      ap length (c.glyphs_from.ensures ∙ ap (drop place) c.info-glyphs.ensures),
      length-drop place s.input,
    )

pub returns-clause-passed : goal.returns-clause-passed
returns-clause-passed c = λ fails.
    absurd (false≢true (sym fails ∙ sym c.is_taken.ensures.takes ∙ c.if-not-is_taken.false))

pub returns-clause-decided : goal.returns-clause-decided
returns-clause-decided c = λ steps holds.
    let s = c.args.buffer.now in
    let place = c.args.place in
    let options = c.args.substitutions.now.options in
    let within = c.is_taken.ensures.within c.if-not-is_taken.false in
    let info = c.info-glyphs.ensures in
    let ctx : ApplyContext = record {
      out = c.glyphs_before.result;
      input = c.glyphs_from.result;
      iterator = c.over_input.result;
      context = c.over_context.result;
      syllable = c.syllable_at.result;
      is_level = true;
    } in
    record {
      ctx = ctx;
      are = record {
        out = c.glyphs_before.ensures ∙ ap (take place) info;
        input = c.glyphs_from.ensures ∙ ap (drop place) info;
        iterator = c.over_input.ensures;
        context = c.over_context.ensures;
        syllable = c.syllable_at.ensures
            ∙ ap (λ (g : hb_glyph_info_t). if options.per_syllable then field g.var1 24 8 else 0)
            (ap (λ (l : List hb_glyph_info_t). glyph_at l place) info ∙ sym (glyph_at-drop place s.input));
        level = sym (eq-eqb (length (take place s.input)) place (length-take-le place s.input (omega (arith, within))));
      };
      first = c.edit_at.ensures.first steps;
    }
