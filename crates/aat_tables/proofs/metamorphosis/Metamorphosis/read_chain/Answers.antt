use Rattle.std.proofs.Common.{◌≡◌, ◌∙◌, ◌++◌, ◌-◌, sym, true, arith, drop, length, map, option_map, Some}
use Rattle.std.proofs.lemmas.Bool.Decides.{nat_tests}
use Rattle.std.proofs.lemmas.List.{length-map}
use Rattle.aat_tables.specs.Metamorphosis.{is_whole_chain, number_or_0, parts_of, subtables_in, subtables_start}
use Rattle.aat_tables.proofs.MetamorphosisLemmas.{option_map-one_chain, grown, within_and_one, within_more}
use Rattle.aat_tables.proofs.metamorphosis.Metamorphosis.read_chain.Goals as goal

pub returns-clause-within : goal.returns-clause-within
returns-clause-within c =
    let olds = c.args.self.now.subtables in
    let news = c.read_subtables.new.self.subtables in
    let up = grown _ _ _ (c.in_ok-read_subtables.ensures.whole c.if-not-branch.false) in
    let first : c.len-first.result ≡ length olds.items = c.len-first.ensures ∙ olds.ok.0 in
    let last : c.len.result ≡ length news.items = c.len.ensures ∙ news.ok.0 in
    rw (c.in_ok-push.ensures.items, c.in_ok-read_subtables.ensures.chains)
    (within_and_one _ _ _ (within_more _ _ _ up c.requires) (rw (first, last) up) (rw last (omega arith)))

pub returns-clause-read : goal.returns-clause-read
returns-clause-read c =
    let start = c.args.rest.now in
    let olds = c.args.self.now.subtables in
    let news = c.read_subtables.new.self.subtables in
    let whole : is_whole_chain start ≡ true =
    rw (sym c.number_or_0-length.ensures, sym c.number_or_0-feature_count.ensures) (grind (arith, nat_tests)) in
    let subtables : option_map (λ others. map parts_of olds.items ++ others)
    (subtables_in (number_or_0 start 12) (number_or_0 start 4 - subtables_start start) (drop (subtables_start start) start))
    ≡ Some (map parts_of news.items) =
    rw (sym c.number_or_0-count.ensures, sym c.number_or_0-length.ensures, sym c.number_or_0-feature_count.ensures, sym c.tail.ensures)
    (c.in_ok-read_subtables.ensures.whole c.if-not-branch.false) in
    let first : c.len-first.result ≡ length (map parts_of olds.items) =
    c.len-first.ensures ∙ (olds.ok.0 ∙ sym (length-map olds.items parts_of)) in
    let last : c.len.result ≡ length (map parts_of news.items) =
    c.len.ensures ∙ (news.ok.0 ∙ sym (length-map news.items parts_of)) in
    rw (c.in_ok-push.ensures.items, c.in_ok-read_subtables.ensures.chains)
    (option_map-one_chain (map parts_of olds.items) (map parts_of news.items) c.args.self.now.chains.items start _
    (rw (length-map olds.items parts_of) c.requires) whole subtables
    c.number_or_0.ensures (rw (sym c.number_or_0-feature_count.ensures) c.part.ensures) first last)
