-- A lookup at a glyph: its subtables are tried in order. And a lookup that another one applies (HarfBuzz, `recurse`).
use Rattle.std.specs.Prelude.{◌≡◌, ◌<◌, ◌≤◌, ℕ, zero, suc, ◌-◌, true, false, List, [], ◌∷◌, Option, None, Some, length, is_some}
use Rattle.glyph_digests.specs.Covered.{covered_index}
use Rattle.ot_lookups.specs.LookupProps.{glyph_at}
use Rattle.ot_lookups.specs.Subtables.{subtables_of}
use Rattle.ot_lookups.specs.declared.subtable.Subtable.{Subtable}
use Rattle.ot_gpos.specs.Contexts.{Applies, IsContextDone}
use Rattle.ot_gpos.specs.Lookups.{Applied, Outcome, Text, is_simple, outcome, outcome_at, visit_by}
use Rattle.ot_gpos.specs.Visit.{Visit}

-- ---- one subtable

-- at a glyph that it covers
pub record IsVisited (applies : Applies) (a : Applied) (visit : Visit) (old : Text) (o : Outcome) : Type 0 where
  pub simple : is_simple visit.subtable ≡ true → o ≡ outcome_at visit old
  pub context : is_simple visit.subtable ≡ false → IsContextDone applies a visit old o

-- it does nothing at a glyph that it does not cover
abbrev pub IsIndexTried : Applies → Applied → ℕ → Subtable → Option ℕ → Text → Outcome → Type 0
IsIndexTried applies a place subtable None old o = o ≡ outcome old None
IsIndexTried applies a place subtable (Some index) old o = IsVisited applies a (visit_by a place subtable index) old o

abbrev pub IsOneTried : Applies → Applied → ℕ → ℕ → Subtable → Text → Outcome → Type 0
IsOneTried applies a place glyph subtable old o =
    IsIndexTried applies a place subtable (covered_index subtable.coverage.table.now glyph) old o

-- ---- all of them

-- The first that does something ends it. One that does nothing may still have marked glyphs, or remembered a base, for those after it.
pub record IsTriedThen (one others : Text → Outcome → Type 0) (old : Text) (o : Outcome) : Type 0 where
  pub first : Outcome
  pub tried : one old first
  pub ends : is_some first.next ≡ true → o ≡ first
  pub goes_on : is_some first.next ≡ false → others first.text o

unfoldable pub AreTried : Applies → Applied → ℕ → ℕ → List Subtable → Text → Outcome → Type 0
AreTried applies a place glyph [] old o = o ≡ outcome old None
AreTried applies a place glyph (subtable ∷ rest) old o =
    IsTriedThen (IsOneTried applies a place glyph subtable) (AreTried applies a place glyph rest) old o

-- A lookup at the glyph of a place; behind the text there is none.
pub record IsTriedAt (applies : Applies) (a : Applied) (place : ℕ) (old : Text) (o : Outcome) : Type 0 where
  pub within : place < length old.buffer.input
      → AreTried applies a place (glyph_at old.buffer.input place).glyph_id (subtables_of a.list.subtables.items a.lookup) old o
  pub past : length old.buffer.input ≤ place → o ≡ outcome old None

-- ---- a lookup that another one applies

-- shaping is given up
abbrev pub given_up : Text → Text
given_up old = record old { buffer = record old.buffer { shaping_failed = true } }

-- where the lookup itself would go on does not matter
pub record HasTried (tries : Text → Outcome → Type 0) (old new : Text) : Type 0 where
  pub next : Option ℕ
  pub tried : tries old (outcome new next)

-- one more lookup is applied by another one, if that many may be
pub record IsNested (tries : Text → Outcome → Type 0) (old new : Text) : Type 0 where
  pub spent : old.left ≡ 0 → new ≡ given_up old
  pub some : 0 < old.left → HasTried tries (record old { left = old.left - 1 }) new

-- lookups apply others so many levels deep, each by its own flag
unfoldable pub nested : ℕ → Applied → Applies
nested zero a lookup place old new = new ≡ given_up old
nested (suc depth) a lookup place old new =
    IsNested (IsTriedAt (nested depth (record a { lookup = lookup })) (record a { lookup = lookup }) place) old new

-- a lookup at the glyph of a place, where lookups apply others so many levels deep
abbrev pub IsTried : ℕ → Applied → ℕ → Text → Outcome → Type 0
IsTried depth a place old o = IsTriedAt (nested depth a) a place old o
