use Rattle.std.proofs.Common.{length, ◌≡◌, ◌+◌, ◌≤◌, ℕ, Bool}
use Rattle.glyph_lists.specs.ClusterOrder.{is_any}
use Rattle.rb_glyph.specs.declared.info.hb_glyph_info_t.{hb_glyph_info_t}
use Rattle.glyph_lists.proofs.DeletingWalkLemmas.{Leads}
use Rattle.glyph_lists.proofs.deletion_in_place.delete_in_place.Given as goal

abbrev pub invariant-loop-at : goal.invariant-loop-at
invariant-loop-at g l =
    (turns : ℕ) × (l.at + turns ≡ length l.fn.info) × (l.kept ≤ l.at)
    × ((test : hb_glyph_info_t → Bool) → ((x : _) (r : _) → goal.F-post g l.deletes x r → r ≡ test x.now)
    → Leads (is_any l.order) test l.fn.info l.fn.pos turns l.kept l.at l.info l.pos l.merges)
