-- A lookup of reverse chaining at a place of a text.
use Rattle.std.proofs.Common.{◌≡◌, ℕ, ◌+◌, ◌≤◌, true, false, length}
use Rattle.std.proofs.Common.{ap, ◌∙◌}
use Rattle.std.proofs.lemmas.Bool.{cond-false}
use Rattle.std.proofs.lemmas.List.{get_or_past}
use Rattle.std.proofs.lemmas.Nat.{and_comm}
use Rattle.std.specs.Prelude.{Option, None, min, nat_le, nat_lt, ◌-◌, ◌^◌, not, ◌==◌, ◌&&◌}
use Rattle.glyph_lists.specs.Clusters.{zero_glyph}
use Rattle.std.specs.Int.Bits.{and_zero_r}
use Rattle.glyph_digests.specs.Digest.{may_have}
use Rattle.glyph_digests.specs.FirstGlyphs.{may_have_first}
use Rattle.ot_lookups.specs.Lookup.{is_for}
use Rattle.ot_lookups.specs.LookupProps.{passes_over, share}
use Rattle.ot_lookups.specs.declared.lookup_list.Lookup.{Lookup}
use Rattle.ot_layout.specs.declared.search.Reach.{Reach}
use Rattle.ot_substitution.specs.declared.substitution.Edit.{Edit}
use Rattle.shaping_buffer.specs.State.{State, len}
use Rattle.ot_gsub.specs.Nested.{now_of}
use Rattle.ot_gsub.specs.Runs.{IsPlaceDone, made_if, mark_around, takes}
use Rattle.ot_gsub.specs.Singles.{opened_at}
use Rattle.ot_gsub.specs.Turn.{IsDecided}
use Rattle.ot_gsub.specs.declared.substitution.Progress.{Progress}
use Rattle.ot_gsub.specs.declared.substitution.Substitutions.{Substitutions}
use Rattle.ot_gsub.proofs.SinglesLemmas.{and_false}

mark_around-none : (place : ℕ) (reach : Reach) (s : State) → reach.to ≡ 0 → mark_around place reach s ≡ s
mark_around-none place reach s none =
    cond-false _ _ _
    (ap (λ k. nat_lt 0 k && nat_le reach.from (min (min (place + reach.to) (2 ^ 64 - 1)) (len s))) none)

-- there is none behind the text
pub takes-past : (substitutions : Substitutions) (lookup : Lookup) (place : ℕ) (s : State) → length s.input ≤ place
    → takes substitutions lookup place s ≡ false
takes-past substitutions lookup place s past =
    let mask = substitutions.options.mask in
    let apart : share 0 mask ≡ false = ap (λ k. not (k == 0)) (and_comm 0 mask ∙ and_zero_r mask) in
    ap (is_for lookup mask) (get_or_past s.input place zero_glyph past)
    ∙ ap (λ b. may_have lookup.digest 0 && b && not (passes_over lookup.lookup_props zero_glyph) && may_have_first lookup.firsts 0)
    apart
    ∙ ap (λ b. b && not (passes_over lookup.lookup_props zero_glyph) && may_have_first lookup.firsts 0)
    (and_false (may_have lookup.digest 0))

-- what comes of the glyph at a place, by what is decided there, marked and made
pub place_done : (substitutions : Substitutions) (lookup : Lookup) (place : ℕ) (p q : Progress) (s m new : State)
    (edit : Option Edit)
    → (takes substitutions lookup place s ≡ true
    → IsDecided substitutions lookup false (opened_at place s) q.search.places.items edit)
    → (takes substitutions lookup place s ≡ false → (edit ≡ None) × (q.search.reach.to ≡ 0) × (now_of s q ≡ now_of s p))
    → q.random_state ≡ p.random_state → q.search.budget.nested ≤ p.search.budget.nested
    → m ≡ mark_around place q.search.reach s → new ≡ made_if substitutions.gdef.now.table.now place edit m
    → IsPlaceDone substitutions lookup place (now_of s p) (now_of new q)
place_done substitutions lookup place p q s m new edit decided passed same fewer marked made =
    let gdef = substitutions.gdef.now.table.now in
    record {
      others = λ fails.
          let w = passed fails in
          ap (λ (b : State). now_of b q)
          (made ∙ ap (λ (e : Option Edit). made_if gdef place e m) w.0 ∙ marked ∙ mark_around-none place q.search.reach s w.1)
          ∙ w.2;
      taken = λ holds. record {
        edit = edit;
        reach = q.search.reach;
        places = q.search.places.items;
        left = q.search.budget.nested;
        decided = decided holds;
        fewer = fewer;
        made = ap (λ (b : State). now_of b q) (made ∙ ap (made_if gdef place edit) marked)
            ∙ ap (λ k. record (now_of (made_if gdef place edit (mark_around place q.search.reach s)) q) { random = k }) same;
      };
    }
