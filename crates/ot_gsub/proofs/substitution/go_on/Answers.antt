use Rattle.std.proofs.Common.{List, ap, arith, length, sym, ◌∙◌}
use Rattle.std.proofs.lemmas.Bool.{false≢true}
use Rattle.rb_glyph.specs.declared.info.hb_glyph_info_t.{hb_glyph_info_t}
use Rattle.ot_lookups.specs.Lookup.{is_for}
use Rattle.ot_lookups.specs.LookupProps.{glyph_at}
use Rattle.ot_gsub.proofs.PutOutLemmas.{wants_storage}
use Rattle.ot_gsub.proofs.substitution.go_on.Goals as goal

pub returns-then-passed-eq0-clause-wants : goal.returns-then-passed-eq0-clause-wants
returns-then-passed-eq0-clause-wants c = λ failed. absurd (false≢true failed)

pub returns-clause-wants : goal.returns-clause-wants
returns-clause-wants c = λ failed.
    let s = c.args.buffer.now in
    let subs = c.args.substitutions.now in
    let lookup = c.args.lookup.now in
    record {
      separate = wants_storage s.have_separate_output c.next_glyphs.result c.next_glyphs.ensures.in_place failed;
      some = omega (arith, c.if-passed-eq0.false, c.first_place-passed.ensures.within, ap length c.info-input.ensures);
      first = λ start.
          ap (λ (l : List hb_glyph_info_t). is_for lookup subs.options.mask (glyph_at l 0)) (sym c.info-input.ensures)
          ∙ c.first_place-passed.ensures.passed 0 (omega (arith, start, c.min-start.ensures)) (omega (arith, c.if-passed-eq0.false));
    }
