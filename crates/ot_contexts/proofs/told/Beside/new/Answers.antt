use Rattle.std.proofs.Common.{◌≡◌, ◌∙◌, ap, rules, sym}
use Rattle.ot_lookups.specs.LookupProps.{glyph_at}
use Rattle.ot_layout.specs.SkippingIterator.{next_found, skip_of, place_of}
use Rattle.ot_layout.specs.declared.skipping_iterator.Found.TheVariants.{At}
use Rattle.ot_layout.specs.declared.skipping_iterator.Skip.TheVariants.{No}
use Rattle.ot_layout.specs.declared.matcher.Matcher.TheVariants.{Any}
use Rattle.ot_contexts.proofs.AskedLemmas.{beside_at, beside_none}
use Rattle.ot_contexts.proofs.told.Beside.new.Goals as goal

pub returns-in-Other : goal.returns-in-Other
returns-in-Other c =
    beside_none c.args.iterator.now c.args.glyphs.now c.args.match_function.now c.none.result (ap place_of (sym c.next.ensures.is ∙ c.in-Other.is))

pub returns-in-End : goal.returns-in-End
returns-in-End c =
    beside_none c.args.iterator.now c.args.glyphs.now c.args.match_function.now c.none-in-End.result (ap place_of (sym c.next.ensures.is ∙ c.in-End.is))

pub returns : goal.returns
returns c =
    let found : next_found c.args.iterator.now Any c.args.glyphs.now 0 ≡ At c.in-At.place = sym c.next.ensures.is ∙ c.in-At.is in
    let stays : skip_of c.args.iterator.now (glyph_at c.args.glyphs.now c.in-At.place) ≡ No = search rules in
    beside_at c.args.iterator.now c.args.glyphs.now c.in-At.place c.args.match_function.now
    (record { number = c.in_ok-number_of.field-0; end = 0; steps = 0 }) found stays c.in_ok-number_of.ensures
