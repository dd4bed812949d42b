use Rattle.std.proofs.Common.{◌≡◌, ◌+◌, ◌*◌, ◌∙◌, ℕ, Option, None, Some, ap, drop, sym, unwrap_or}
use Rattle.font_tables.specs.Bytes.{number_16}
use Rattle.ot_substitution.specs.Reverse.{backtrack_glyph_count, lookahead_glyph_count, substitute}
use Rattle.ot_substitution.proofs.ReverseLemmas.{reverse-after, reverse-before, reverse-here, reverse_end-by, reverse_start-by}
use Rattle.ot_substitution.proofs.substitution.reverse.Goals as goal

pub returns-in-Err-clause-is : goal.returns-in-Err-clause-is
returns-in-Err-clause-is c some =
    let t = c.args.subtable.now.table.now in
    let cs = drop c.args.subtable.now.first_coverage c.args.list.now.coverages.items in
    let backtrack : c.unwrap_or-backtrack.result ≡ backtrack_glyph_count t =
    c.unwrap_or-backtrack.ensures ∙ ap (λ (o : Option ℕ). unwrap_or o 0) c.u16_at.ensures in
    sym (reverse-before cs t c.args.index c.args.ctx.now
    (reverse_start-by cs t c.args.ctx.now _ _ None c.covered_sequence-parts.ensures.asks
    (c.covered_sequence-parts.ensures.count ∙ backtrack) (c.in-Err.ensures.misses some)))

pub returns-in-Err-match_lookahead-clause-is : goal.returns-in-Err-match_lookahead-clause-is
returns-in-Err-match_lookahead-clause-is c some =
    let t = c.args.subtable.now.table.now in
    let cs = drop c.args.subtable.now.first_coverage c.args.list.now.coverages.items in
    let backtrack : c.unwrap_or-backtrack.result ≡ backtrack_glyph_count t =
    c.unwrap_or-backtrack.ensures ∙ ap (λ (o : Option ℕ). unwrap_or o 0) c.u16_at.ensures in
    let lookahead : c.unwrap_or-lookahead.result ≡ lookahead_glyph_count t =
    c.unwrap_or-lookahead.ensures ∙ ap (λ (o : Option ℕ). unwrap_or o 0) c.u16_at-2.ensures
    ∙ ap (λ (n : ℕ). unwrap_or (number_16 t (6 + 2 * n)) 0) (c.from.ensures ∙ backtrack) in
    sym (reverse-after cs t c.args.index c.args.ctx.now
    (reverse_end-by cs t c.args.ctx.now _ _ _ None c.covered_sequence-parts-2.ensures.asks (c.from-2.ensures ∙ backtrack)
    (c.covered_sequence-parts-2.ensures.count ∙ lookahead) (c.in-Err-match_lookahead.ensures.misses some)))

pub returns-in-Ok-match_lookahead-clause-is : goal.returns-in-Ok-match_lookahead-clause-is
returns-in-Ok-match_lookahead-clause-is c some =
    let t = c.args.subtable.now.table.now in
    let cs = drop c.args.subtable.now.first_coverage c.args.list.now.coverages.items in
    let backtrack : c.unwrap_or-backtrack.result ≡ backtrack_glyph_count t =
    c.unwrap_or-backtrack.ensures ∙ ap (λ (o : Option ℕ). unwrap_or o 0) c.u16_at.ensures in
    let lookahead : c.unwrap_or-lookahead.result ≡ lookahead_glyph_count t =
    c.unwrap_or-lookahead.ensures ∙ ap (λ (o : Option ℕ). unwrap_or o 0) c.u16_at-2.ensures
    ∙ ap (λ (n : ℕ). unwrap_or (number_16 t (6 + 2 * n)) 0) (c.from.ensures ∙ backtrack) in
    let glyph : substitute t (backtrack_glyph_count t) (lookahead_glyph_count t) c.args.index ≡ Some c.in_ok-glyph.glyph =
    ap (λ (n : ℕ). substitute t (backtrack_glyph_count t) n c.args.index) (sym lookahead)
    ∙ ap (λ (n : ℕ). substitute t n c.unwrap_or-lookahead.result c.args.index) (sym backtrack)
    ∙ sym c.substitute.ensures ∙ c.in_ok-glyph.was in
    sym (reverse-here cs t c.args.index c.args.ctx.now c.in_ok-glyph.glyph c.in-Ok.from c.in-Ok-match_lookahead.to glyph
    (reverse_start-by cs t c.args.ctx.now _ _ (Some c.in-Ok.from) c.covered_sequence-parts.ensures.asks
    (c.covered_sequence-parts.ensures.count ∙ backtrack) c.in-Ok.ensures.fits)
    (reverse_end-by cs t c.args.ctx.now _ _ _ (Some c.in-Ok-match_lookahead.to) c.covered_sequence-parts-2.ensures.asks
    (c.from-2.ensures ∙ backtrack) (c.covered_sequence-parts-2.ensures.count ∙ lookahead) c.in-Ok-match_lookahead.ensures.fits))
