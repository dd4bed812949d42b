-- Without contexts there is one text alone that comes of a lookup.
use Rattle.std.proofs.Common.{◌≡◌, ℕ, zero, suc, true, List, [], ◌∷◌, All, length, Option, Some, None, is_some, sym, ap, subst, ◌∙◌, inl, inr}
use Rattle.std.proofs.lemmas.Bool.{cases_Bool, cases_lt}
use Rattle.std.proofs.lemmas.List.Elements.{All-head, All-tail}
use Rattle.shaping_buffer.specs.State.{State}
use Rattle.glyph_digests.specs.Covered.{covered_index}
use Rattle.ot_lookups.specs.Lookup.{is_for}
use Rattle.ot_lookups.specs.LookupProps.{glyph_at}
use Rattle.ot_lookups.specs.Subtables.{subtables_of}
use Rattle.ot_lookups.specs.declared.subtable.Subtable.{Subtable}
use Rattle.ot_gpos.specs.Attachments.{nothing_sought}
use Rattle.ot_gpos.specs.Contexts.{Applies}
use Rattle.ot_gpos.specs.Lookups.{Applied, Outcome, Text, is_simple, text_of}
use Rattle.ot_gpos.specs.Nested.{AreTried, IsIndexTried, IsTried, nested}
use Rattle.ot_gpos.specs.Runs.{AreDoneBefore, IsGlyphDone, IsPositionedBy, Run, gone_on, run}

-- no subtable is a context
abbrev pub AreSimple : List Subtable → Type 0
AreSimple ts = All (λ (t : Subtable). is_simple t ≡ true) ts

module _ (applies : Applies) (a : Applied) (place glyph : ℕ) where
  index_once : (t : Subtable) (index : Option ℕ) (old : Text) (o p : Outcome) → is_simple t ≡ true
      → IsIndexTried applies a place t index old o → IsIndexTried applies a place t index old p → o ≡ p
  index_once t None old o p simple one other = one ∙ sym other
  index_once t (Some index) old o p simple one other = one.simple simple ∙ sym (other.simple simple)

  tried_once : (ts : List Subtable) (old : Text) (o p : Outcome) → AreSimple ts → AreTried applies a place glyph ts old o
      → AreTried applies a place glyph ts old p → o ≡ p
  unfolding AreTried
  tried_once [] old o p simple one other = one ∙ sym other
  tried_once (t ∷ rest) old o p simple one other =
      let first : one.first ≡ other.first =
      index_once t (covered_index t.coverage.table.now glyph) old one.first other.first
      (All-head (λ (x : Subtable). is_simple x ≡ true) t rest simple) one.tried other.tried in
      let next : is_some other.first.next ≡ is_some one.first.next = sym (ap (λ (x : Outcome). is_some x.next) first) in
      elim (cases_Bool (is_some one.first.next)) [
        | inl some ↦ one.ends some ∙ first ∙ sym (other.ends (next ∙ some))
        | inr none ↦
            tried_once rest one.first.text o p (All-tail (λ (x : Subtable). is_simple x ≡ true) t rest simple) (one.goes_on none)
            (subst (λ (x : Outcome). AreTried applies a place glyph rest x.text p) (sym first) (other.goes_on (next ∙ none)))
      ]

module _ (a : Applied) (simple : AreSimple (subtables_of a.list.subtables.items a.lookup)) where
  at_once : (place : ℕ) (old : Text) (o p : Outcome) → IsTried 64 a place old o → IsTried 64 a place old p → o ≡ p
  at_once place old o p one other =
      elim (cases_lt place (length old.buffer.input)) [
        | inl within ↦
            tried_once (nested 64 a) a place (glyph_at old.buffer.input place).glyph_id
            (subtables_of a.list.subtables.items a.lookup) old o p simple (one.within within) (other.within within)
        | inr past ↦ one.past past ∙ sym (other.past past)
      ]

  glyph_once : (place : ℕ) (w u v : Run) → IsGlyphDone a place w u → IsGlyphDone a place w v → u ≡ v
  glyph_once place w u v one other =
      elim (cases_lt place w.next) [
        | inl before ↦ one.before before ∙ sym (other.before before)
        | inr up ↦
            elim (cases_Bool (is_for a.lookup a.options.mask (glyph_at w.text.buffer.input place))) [
              | inl takes ↦
                  let x = one.here up takes in
                  let y = other.here up takes in
                  x.goes_on ∙ ap (gone_on place) (at_once place w.text x.outcome y.outcome x.tried y.tried) ∙ sym y.goes_on
              | inr none ↦ one.other up none ∙ sym (other.other up none)
            ]
      ]

  before_once : (place : ℕ) (old : Text) (u v : Run) → AreDoneBefore a place old u → AreDoneBefore a place old v → u ≡ v
  unfolding AreDoneBefore
  before_once zero old u v one other = one ∙ sym other
  before_once (suc place) old u v one other =
      let same : one.mid ≡ other.mid = before_once place old one.mid other.mid one.before other.before in
      glyph_once place other.mid u v (subst (λ (w : Run). IsGlyphDone a place w u) same one.last) other.last

  pub positioned_once : (left rest more : ℕ) (s t u : State) → IsPositionedBy a left s rest t → IsPositionedBy a left s more u
      → (t ≡ u) × (rest ≡ more)
  positioned_once left rest more s t u one other =
      let same : run (text_of t one.last rest) one.next ≡ run (text_of u other.last more) other.next =
      before_once (length s.input) (text_of s nothing_sought left) (run (text_of t one.last rest) one.next)
      (run (text_of u other.last more) other.next) one.done other.done in
      (ap (λ (w : Run). w.text.buffer) same, ap (λ (w : Run). w.text.left) same)
