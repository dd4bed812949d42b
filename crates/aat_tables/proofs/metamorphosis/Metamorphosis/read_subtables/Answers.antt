use Rattle.std.proofs.Common.{◌≡◌, ◌∙◌, ◌-◌, ◌+◌, ap, sym, refl, suc, arith, Some, map, option_map, ◌++◌}
use Rattle.std.proofs.lemmas.List.{append-nil}
use Rattle.aat_tables.specs.Metamorphosis.{parts_of, subtables_in}
use Rattle.aat_tables.proofs.MetamorphosisLemmas.{subtables_in-cut_short, option_map-next_subtable, none_of}
use Rattle.aat_tables.proofs.metamorphosis.Metamorphosis.read_subtables.Goals as goal

pub loop-subtable-init : goal.loop-subtable-init
loop-subtable-init c =
    let all : c.args.count - 0 ≡ c.args.count = omega arith in
    record { parts = rw all refl; chains = refl; glyphs = refl }

pub returns-then-length-lt-SUBTABLE_HEADER-clause-none : goal.returns-then-length-lt-SUBTABLE_HEADER-clause-none
returns-then-length-lt-SUBTABLE_HEADER-clause-none c is =
    let left : c.args.count - c.loop-subtable._subtable ≡ suc (c.args.count - (c.loop-subtable._subtable + 1)) = omega arith in
    none_of _ _ (sym c.loop-subtable.invariant.parts
    ∙ rw (
      left,
      subtables_in-cut_short (c.args.count - (c.loop-subtable._subtable + 1)) c.loop-subtable.left c.loop-subtable.rest.now
          (grind (arith)),
    ) refl)

pub loop-subtable-preserved : goal.loop-subtable-preserved
loop-subtable-preserved c =
    let left : c.args.count - c.loop-subtable._subtable ≡ suc (c.args.count - (c.loop-subtable._subtable + 1)) = omega arith in
    let length = c.number_or_0-length.ensures in
    record {
      parts = rw (c.tail-rest.ensures, length)
          (option_map-next_subtable (c.args.count - (c.loop-subtable._subtable + 1)) c.loop-subtable.left c.loop-subtable.rest.now _ _
          (omega arith) (omega arith) c.in_ok-read_subtable.ensures.read)
          ∙ ap (λ n. option_map (λ others. map parts_of c.loop-subtable.self.subtables.items ++ others)
          (subtables_in n c.loop-subtable.left c.loop-subtable.rest.now)) (sym left) ∙ c.loop-subtable.invariant.parts;
      chains = c.in_ok-read_subtable.ensures.chains ∙ c.loop-subtable.invariant.chains;
      glyphs = c.in_ok-read_subtable.ensures.glyphs ∙ c.loop-subtable.invariant.glyphs;
    }

pub returns-clause-whole : goal.returns-clause-whole
returns-clause-whole c whole =
    let end : c.args.count - c.loop-subtable._subtable ≡ 0 = omega arith in
    sym c.loop-subtable.invariant.parts ∙ rw end (ap Some (append-nil _))
