use Rattle.std.proofs.Common.{◌≡◌, ◌∙◌, ◌++◌, ◌-◌, ◌+◌, ap, sym, refl, suc, arith, option_map, drop, subst, unwrap_or}
use Rattle.aat_tables.specs.Metamorphosis.{chains_in, number_or_0, read_chains}
use Rattle.font_tables.specs.Bytes.{number_16}
use Rattle.aat_tables.proofs.MetamorphosisLemmas.{AreReading, read_chains-all, option_map-next_chain, chains_in-none_first, chains_of-none, chains_of-no_version, option_map-nothing}
use Rattle.aat_tables.proofs.metamorphosis.Metamorphosis.read_all.Goals as goal

pub returns-then-unwrap_or-eq0-clause-none : goal.returns-then-unwrap_or-eq0-clause-none
returns-then-unwrap_or-eq0-clause-none c is = chains_of-no_version c.args.table.now (sym (c.unwrap_or.ensures ∙ ap (λ found. unwrap_or found 0) c.u16_at.ensures) ∙ c.if-unwrap_or-eq0.true)

pub loop-chain-init : goal.loop-chain-init
loop-chain-init c =
    let all : c.number_or_0-count.result - 0 ≡ c.number_or_0-count.result = omega arith in
    record {
      within = rw c.requires.chains tt;
      chains = rw (c.requires.subtables, c.requires.chains, all, c.tail-rest.ensures) (option_map-nothing _);
      glyphs = refl;
    }

pub returns-in-None-clause-none : goal.returns-in-None-clause-none
returns-in-None-clause-none c is =
    let left : c.number_or_0-count.result - c.loop-chain._chain ≡ suc (c.number_or_0-count.result - (c.loop-chain._chain + 1)) = omega arith in
    chains_of-none c.args.table.now (rw (sym c.number_or_0-count.ensures) (sym c.loop-chain.invariant.chains
    ∙ rw (
      left,
      chains_in-none_first (c.number_or_0-count.result - (c.loop-chain._chain + 1)) c.loop-chain.rest.now
          (c.in_ok-length.ensures.none c.in-None.is),
    ) refl))

pub loop-chain-preserved : goal.loop-chain-preserved
loop-chain-preserved c =
    let left : c.number_or_0-count.result - c.loop-chain._chain ≡ suc (c.number_or_0-count.result - (c.loop-chain._chain + 1)) = omega arith in
    let length : c.in-Some.length ≡ number_or_0 c.loop-chain.rest.now 4 = rw c.in-Some.is at c.in_ok-length.ensures.length in
    record {
      within = (rw c.in-Some.is at c.in_ok-length.ensures.within);
      chains = rw (c.tail-rest-in-Some.ensures, length)
          (option_map-next_chain (c.number_or_0-count.result - (c.loop-chain._chain + 1)) c.loop-chain.rest.now _ _ (rw c.in-Some.is at c.in_ok-length.ensures.read))
          ∙ ap (λ n. option_map (λ others. read_chains c.loop-chain.self.subtables.items c.loop-chain.self.chains.items ++ others)
          (chains_in n c.loop-chain.rest.now)) (sym left) ∙ c.loop-chain.invariant.chains;
      glyphs = c.in_ok-length.ensures.glyphs ∙ c.loop-chain.invariant.glyphs;
    }

pub returns-clause-chains : goal.returns-clause-chains
returns-clause-chains c whole =
    let end : c.number_or_0-count.result - c.loop-chain._chain ≡ 0 = omega arith in
    let version : unwrap_or (number_16 c.args.table.now 0) 0 ≡ 0 → ⊥ =
    λ is. c.if-unwrap_or-eq0.false (c.unwrap_or.ensures ∙ (ap (λ found. unwrap_or found 0) c.u16_at.ensures ∙ is)) in
    read_chains-all c.loop-chain.self c.args.self.now.glyph_count c.args.table.now c.loop-chain.rest.now version
    (subst (λ n. AreReading c.loop-chain.self c.args.self.now.glyph_count (chains_in (number_or_0 c.args.table.now 4) (drop 8 c.args.table.now))
    (chains_in n c.loop-chain.rest.now)) end
    (subst (λ n. AreReading c.loop-chain.self c.args.self.now.glyph_count (chains_in n (drop 8 c.args.table.now))
    (chains_in (c.number_or_0-count.result - c.loop-chain._chain) c.loop-chain.rest.now)) c.number_or_0-count.ensures
    c.loop-chain.invariant))
