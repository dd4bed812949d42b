-- No ligature stands at the cursor where the next glyph is the second one of none.
use Rattle.std.proofs.Common.{◌≡◌, ℕ, zero, suc, ◌+◌, ◌*◌, ◌<◌, false, List, length, Option, Some, None, refl, arith, subst, unwrap_or}
use Rattle.font_tables.specs.Bytes.{number_16, table_at_16}
use Rattle.rb_glyph.specs.declared.info.hb_glyph_info_t.{hb_glyph_info_t}
use Rattle.glyph_digests.specs.Digest.{may_have}
use Rattle.ot_contexts.specs.Match.{first_of, ligature_at}
use Rattle.ot_lookups.specs.Seconds.{HasSecondAt, HasSecondOfEach}
use Rattle.ot_layout.specs.SkippingIterator.{next_found, place_of}
use Rattle.glyph_digests.specs.declared.digest.Digest.{Digest}
use Rattle.ot_contexts.specs.declared.neighbours.Next.{Next}
use Rattle.ot_layout.specs.declared.search.ApplyContext.{ApplyContext}
use Rattle.ot_layout.specs.declared.skipping_iterator.SkippingIterator.{SkippingIterator}
use Rattle.ot_layout.specs.declared.matcher.Matcher.TheVariants.{Glyph}
use Rattle.ot_contexts.proofs.MatchLemmas.{first_of-nowhere, first_of-later, ligature_at-none, ligature_at-other}
use Rattle.ot_contexts.proofs.NeighbourLemmas.{place_of-last}
use Rattle.ot_layout.specs.ApplyContext.{input_iterator}
use Rattle.ot_contexts.specs.Neighbours.{IsNext}

-- the ligature of a number
ligature_at-missed : (s : ApplyContext) (set : List ℕ) (d : Digest) (next : Next) (k : ℕ) (o : Option (List ℕ))
    → table_at_16 set (2 + 2 * k) ≡ o
    → HasSecondAt set k d → IsNext (input_iterator s) s.input.now 0 next → may_have d next.glyph ≡ false
    → ligature_at s set k ≡ None
ligature_at-missed s set d next k None e has is none = ligature_at-none s set k e
ligature_at-missed s set d next k (Some t) e has is none =
    ligature_at-other s set t k next e (has t e next.glyph none) is

-- none of so many ligatures
pub first_of-missed : (s : ApplyContext) (set : List ℕ) (d : Digest) (next : Next) (n : ℕ) → HasSecondOfEach set d
    → IsNext (input_iterator s) s.input.now 0 next → may_have d next.glyph ≡ false → n < unwrap_or (number_16 set 0) 0 + 1
    → first_of s set n ≡ None
first_of-missed s set d next zero has is none within = first_of-nowhere s set
first_of-missed s set d next (suc k) has is none within =
    let so_far = first_of-missed s set d next k has is none (omega (arith, within)) in
    let e : k + 1 ≡ suc k = omega arith in
    subst (λ n. first_of s set n ≡ None) e
    (first_of-later s set k so_far (ligature_at-missed s set d next k _ refl (has k (omega (arith, within))) is none))

-- whoever asks for a glyph after the last one does not find it
pub place_of-past_end : (w : SkippingIterator) (gs : List hb_glyph_info_t) (i asked : ℕ) → i + 1 ≡ length gs
    → place_of (next_found w (Glyph asked) gs i) ≡ None
place_of-past_end w gs i asked end = place_of-last w (Glyph asked) gs i end
