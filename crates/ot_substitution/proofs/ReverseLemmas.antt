-- A reverse chaining substitution, by its parts.
use Rattle.std.proofs.Common.{◌≡◌, ◌∙◌, ℕ, List, Option, Some, None, ap, drop, refl, subst}
use Rattle.font_tables.specs.declared.coverage.Coverage.{Coverage}
use Rattle.ot_contexts.specs.Match.{backtrack_start, lookahead_end}
use Rattle.ot_contexts.specs.Pattern.{covered_by}
use Rattle.ot_substitution.specs.Reverse.{backtrack_glyph_count, lookahead_glyph_count, reverse, reverse_end, reverse_start, substitute}
use Rattle.ot_layout.specs.declared.matcher.Matcher.{Matcher}
use Rattle.ot_layout.specs.declared.search.ApplyContext.{ApplyContext}
use Rattle.ot_substitution.specs.declared.substitution.Edit.TheVariants.{ReplaceInPlace}

-- no substitute
pub reverse-none : (cs : List Coverage) (t : List ℕ) (i : ℕ) (s : ApplyContext)
    → substitute t (backtrack_glyph_count t) (lookahead_glyph_count t) i ≡ None → reverse cs t i s ≡ None
unfolding reverse
reverse-none cs t i s none = rw none refl

reverse-before_by : (cs : List Coverage) (t : List ℕ) (i : ℕ) (s : ApplyContext) (o : Option ℕ)
    → substitute t (backtrack_glyph_count t) (lookahead_glyph_count t) i ≡ o
    → reverse_start cs t s ≡ None → reverse cs t i s ≡ None
unfolding reverse
reverse-before_by cs t i s None is none = rw is refl
reverse-before_by cs t i s (Some g) is none = rw is (rw none refl)

-- other glyphs before the cursor
pub reverse-before : (cs : List Coverage) (t : List ℕ) (i : ℕ) (s : ApplyContext) → reverse_start cs t s ≡ None
    → reverse cs t i s ≡ None
reverse-before cs t i s none = reverse-before_by cs t i s _ refl none

reverse-after_by : (cs : List Coverage) (t : List ℕ) (i : ℕ) (s : ApplyContext) (o p : Option ℕ)
    → substitute t (backtrack_glyph_count t) (lookahead_glyph_count t) i ≡ o
    → reverse_start cs t s ≡ p → reverse_end cs t s ≡ None → reverse cs t i s ≡ None
unfolding reverse
reverse-after_by cs t i s None p is before none = rw is refl
reverse-after_by cs t i s (Some g) None is before none = rw is (rw before refl)
reverse-after_by cs t i s (Some g) (Some from) is before none = rw is (rw before (rw none refl))

-- other glyphs after it
pub reverse-after : (cs : List Coverage) (t : List ℕ) (i : ℕ) (s : ApplyContext) → reverse_end cs t s ≡ None
    → reverse cs t i s ≡ None
reverse-after cs t i s none = reverse-after_by cs t i s _ _ refl refl none

-- all that is asked for
pub reverse-here : (cs : List Coverage) (t : List ℕ) (i : ℕ) (s : ApplyContext) (g from to : ℕ)
    → substitute t (backtrack_glyph_count t) (lookahead_glyph_count t) i ≡ Some g → reverse_start cs t s ≡ Some from
    → reverse_end cs t s ≡ Some to
    → reverse cs t i s ≡ Some (ReplaceInPlace (record { glyph = g; from = from; to = to }))
unfolding reverse
reverse-here cs t i s g from to is before after = rw is (rw before (rw after refl))

-- where the glyphs before the cursor begin, by what was read
pub reverse_start-by : (cs : List Coverage) (t : List ℕ) (s : ApplyContext) (asked : ℕ → Option Matcher) (n : ℕ) (place : Option ℕ)
    → asked ≡ covered_by cs → n ≡ backtrack_glyph_count t → backtrack_start s asked n ≡ place → reverse_start cs t s ≡ place
reverse_start-by cs t s asked n place asks is there =
    subst (λ (f : ℕ → Option Matcher). backtrack_start s f (backtrack_glyph_count t) ≡ place) asks
    (subst (λ (k : ℕ). backtrack_start s asked k ≡ place) is there)

-- and where those after it end
pub reverse_end-by : (cs : List Coverage) (t : List ℕ) (s : ApplyContext) (asked : ℕ → Option Matcher) (b n : ℕ) (place : Option ℕ)
    → asked ≡ covered_by (drop b cs) → b ≡ backtrack_glyph_count t → n ≡ lookahead_glyph_count t → lookahead_end s asked 1 n ≡ place
    → reverse_end cs t s ≡ place
reverse_end-by cs t s asked b n place asks behind is there =
    subst (λ (f : ℕ → Option Matcher). lookahead_end s f 1 (lookahead_glyph_count t) ≡ place)
    (asks ∙ ap (λ (k : ℕ). covered_by (drop k cs)) behind)
    (subst (λ (k : ℕ). lookahead_end s asked 1 k ≡ place) is there)

pub ruleset reverse_parts = (reverse-none)
