use Rattle.std.proofs.Common.{◌≡◌, ◌+◌, ◌*◌, ◌/◌, ◌%◌, ℕ, ◌<◌, ◌^◌, sym, ap, ◌∙◌, refl, arith, bit_and}
use Rattle.std.proofs.Common.{bit_or}
use Rattle.std.proofs.lemmas.Grind.{and_high_numeral, and_numeral}
use Rattle.std.proofs.lemmas.Nat.{or_shifted}
use Rattle.std.proofs.lemmas.Bool.{cond-false, ne_eqb}
use Rattle.glyph_lists.specs.Clusters.{with_cluster}
use Rattle.glyph_lists.proofs.clusters.set_cluster.Goals as goal

flags_set : (old new : ℕ) → old < 2 ^ 32 → bit_or (bit_and old 4294967288) (bit_and new 7) ≡ old / 8 * 8 + new % 8
flags_set old new h =
    let kept : bit_and old 4294967288 + old % 8 ≡ old = and_high_numeral old 4294967287 refl h in
    let high : bit_and old 4294967288 ≡ old / 8 * 8 = omega arith in
    let low : bit_and new 7 ≡ new % 8 = and_numeral new 6 refl in
    ap (λ x. bit_or x (bit_and new 7)) high ∙ ap (λ x. bit_or (old / 8 * 8) x) low
    ∙ or_shifted (old / 8) 3 (new % 8) (omega arith)

pub returns-then-info-cluster : goal.returns-then-info-cluster
unfolding with_cluster
returns-then-info-cluster c =
    ap (λ m. record c.args.info.now { mask = m; cluster = c.args.cluster })
    (flags_set c.args.info.now.mask c.args.mask (omega arith))
    ∙ sym (cond-false _ _ _ (ne_eqb _ _ c.if-info-cluster.true))
