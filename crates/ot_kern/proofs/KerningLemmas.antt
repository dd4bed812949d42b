-- Kerning: subtables by their bytes, which glyphs are pairs, and the walk over a line.
use Rattle.std.proofs.Common.{◌≡◌, ℕ, ℤ, zero, suc, ◌+◌, ◌-◌, ◌^◌, ◌<◌, ◌≤◌, ◌==◌, ◌&&◌, ◌||◌, Bool, true, false, not, List, [], ◌∷◌, Option, Some, None}
use Rattle.std.proofs.Common.{length, map, drop, refl, sym, ap, ◌∙◌, arith, nat_eq, nat_le, nat_lt, if◌then◌else◌, bit_and, is_some, min}
use Rattle.std.specs.Prelude.{IfSome, option_map, unwrap_or}
use Rattle.std.specs.Option.{option_map_or}
use Rattle.std.proofs.lemmas.Bool.{cond-true, cond-false, cond_both, lt-ltb, le-ltb}
use Rattle.std.proofs.lemmas.Bool.Decides.{nat_tests}
use Rattle.std.proofs.lemmas.List.{length-map}
use Rattle.std.proofs.lemmas.Nat.{and_assoc}
use Rattle.rb_common.specs.Direction.{is_horizontal}
use Rattle.rb_glyph.specs.Fields.{field}
use Rattle.rb_glyph.specs.declared.info.hb_glyph_info_t.{hb_glyph_info_t}
use Rattle.rb_glyph.specs.declared.position.GlyphPosition.{GlyphPosition}
use Rattle.shaping_buffer.specs.State.{State, len}
use Rattle.shaping_buffer.specs.Lending.{with_positions}
use Rattle.glyph_digests.specs.Covered.{covered_index}
use Rattle.ot_lookups.specs.LookupProps.{glyph_at, passes_over, passes_over_mark, props, share}
use Rattle.ot_lookups.specs.declared.lookup_props.LookupProps.{LookupProps}
use Rattle.ot_layout.specs.SkippingIterator.{first_kept, is_format_with, is_within, kept_before, matches, may_ignore, next_found, passed_over, passes, previous_found, place_of}
use Rattle.ot_layout.specs.declared.matcher.Matcher.TheVariants.{Shown}
use Rattle.ot_layout.specs.declared.skipping_iterator.Found.TheVariants.{At, Other, End}
use Rattle.ot_layout.specs.declared.skipping_iterator.SkippingIterator.{SkippingIterator}
use Rattle.ot_gpos_tables.specs.KernTable.{IsHeader, kerning, subtable_bytes, subtable_length}
use Rattle.ot_gpos_tables.specs.declared.kern_table.KernCoverage.{KernCoverage}
use Rattle.ot_gpos_tables.specs.declared.kern_table.KernSubtable.{KernSubtable}
use Rattle.ot_kern.specs.Kerning.{Kern, Machine, PairTable, PassesMarks, applied, chains, described, first_crossed, in_line, is_passed, joined}
use Rattle.ot_kern.specs.Kerning.{kerned_from, machine_in, machine_of, next_backward, next_forward, pair_moved, pair_of, pair_table, pair_tried}
use Rattle.ot_kern.specs.Kerning.{rest_marked, scaled, table_at, value_in, walked}
use Rattle.ot_attachments.specs.Placing.{advanced, changed_at, half, on_positions, pair_kerned}
use Rattle.ot_kern.specs.declared.kern_pairs.KernMachine.{KernMachine}
use Rattle.ot_kern.specs.declared.kern_pairs.KernPair.{KernPair}
use Rattle.ot_attachments.proofs.PositionsLemmas.{length_changed_at, with_positions_on}

-- ---- subtables

pair_table_described : (apple last : Bool) (rest : List ℕ) (s : KernSubtable) → IsHeader apple rest s
    → s.table.now ≡ subtable_bytes last s.length rest → pair_table s ≡ described apple last rest s.length
pair_table_described apple last rest s head bytes =
    ap (λ (b : List ℕ). record (pair_table s) { bytes = b }) bytes
    ∙ ap (λ (n : ℕ). record (pair_table s) { bytes = subtable_bytes last s.length rest; header = n }) head.size
    ∙ ap (λ (o : Option ℕ). record (described apple last rest s.length) { format = unwrap_or o 0; coverage = s.coverage }) (sym head.format)
    ∙ ap (λ (c : KernCoverage). record (described apple last rest s.length) { coverage = c }) head.coverage

pub option_map_table : (apple last : Bool) (rest : List ℕ) (o : Option KernSubtable)
    → option_map (λ (s : KernSubtable). s.length) o ≡ subtable_length apple rest → IfSome o (IsHeader apple rest)
    → IfSome o (λ (s : KernSubtable). s.table.now ≡ subtable_bytes last s.length rest)
    → option_map pair_table o ≡ table_at apple last rest
unfolding table_at
option_map_table apple last rest None size head bytes = ap (option_map (described apple last rest)) size
option_map_table apple last rest (Some s) size head bytes =
    ap Some (pair_table_described apple last rest s head bytes) ∙ ap (option_map (described apple last rest)) size

pub kerning_is : (s : KernSubtable) (left right : ℕ) → kerning s left right ≡ value_in (pair_table s) left right
unfolding kerning value_in
kerning_is s left right = refl

-- ---- the next glyph of the line

and_false : (b : Bool) → (b && false) ≡ false
and_false true = refl
and_false false = refl

and_true : (b : Bool) → (b && true) ≡ b
and_true true = refl
and_true false = refl

or_none : (b : Bool) → (b || (b && false)) ≡ b
or_none true = refl
or_none false = refl

or_mark : (p : ℕ) → (share (bit_and p 8) 14 || (share p 8 && false)) ≡ share p 8
or_mark p = ap (λ (n : ℕ). not (n == 0) || (share p 8 && false)) (and_assoc 14 p 8) ∙ or_none (share p 8)

passes_over_by_marks : (f : LookupProps) (g : hb_glyph_info_t) → f.flags ≡ 8 → passes_over f g ≡ share (props g) 8
unfolding passes_over passes_over_mark
passes_over_by_marks f g marks =
    ap (λ (n : ℕ). share (bit_and (props g) n) 14 || (share (props g) 8
    && (if share n 16 then not (is_some (covered_index f.marks.table.now g.glyph_id))
    else share n 65280 && not (bit_and n 65280 == bit_and (props g) 65280)))) marks
    ∙ or_mark (props g)

may_ignore_invisible : (w : SkippingIterator) (u p : ℕ) → PassesMarks w
    → may_ignore w u p ≡ (share u 32 && not (share p 16) && (w.ignores_zwj || not (is_format_with u 256)))
unfolding may_ignore
may_ignore_invisible w u p is =
    let first = share u 32 && not (share p 16) in
    let third = w.ignores_zwj || not (is_format_with u 256) in
    ap (λ (b : Bool). first && (b || not (is_format_with u 512)) && third && (w.ignores_hidden || not (share u 64))) is.non_joiners
    ∙ ap (λ (b : Bool). first && true && third && (b || not (share u 64))) is.hidden
    ∙ and_true (first && true && third) ∙ ap (λ (b : Bool). b && third) (and_true first)

passes_is : (w : SkippingIterator) → PassesMarks w → (g : hb_glyph_info_t) → passes w Shown g ≡ is_passed w.ignores_zwj g
unfolding passes is_passed
passes_is w is g =
    let u = field g.var2 0 16 in
    let seen = share u 32 && not (share (props g) 16) && (w.ignores_zwj || not (is_format_with u 256)) in
    ap (λ (b : Bool). b || (may_ignore w u (props g) && not (is_within w g && false))) (passes_over_by_marks w.lookup_props g is.marks)
    ∙ ap (λ (b : Bool). share (props g) 8 || (b && not (is_within w g && false))) (may_ignore_invisible w u (props g) is)
    ∙ ap (λ (b : Bool). share (props g) 8 || (seen && not b)) (and_false (is_within w g))
    ∙ ap (λ (b : Bool). share (props g) 8 || b) (and_true seen)

module _ (p q : hb_glyph_info_t → Bool) (same : (g : hb_glyph_info_t) → p g ≡ q g) where
  passed_over_same : (gs : List hb_glyph_info_t) → passed_over p gs ≡ passed_over q gs
  passed_over_same [] = refl
  passed_over_same (g ∷ gs) =
      ap (λ (b : Bool). if b then suc (passed_over p gs) else 0) (same g)
      ∙ ap (λ (n : ℕ). if q g then suc n else 0) (passed_over_same gs)

  first_kept_same : (gs : List hb_glyph_info_t) (i : ℕ) → first_kept p gs i ≡ first_kept q gs i
  first_kept_same gs i = ap (λ (n : ℕ). i + n) (passed_over_same (drop i gs))

  kept_before_same : (gs : List hb_glyph_info_t) (i : ℕ) → kept_before p gs i ≡ kept_before q gs i
  kept_before_same gs zero = refl
  kept_before_same gs (suc i) =
      ap (λ (b : Bool). if b then kept_before p gs i else suc i) (same (glyph_at gs i))
      ∙ ap (λ (n : ℕ). if q (glyph_at gs i) then n else suc i) (kept_before_same gs i)

matches_featured : (w : SkippingIterator) → PassesMarks w → (g : hb_glyph_info_t) → matches w Shown g ≡ share g.mask w.mask
unfolding matches is_within
matches_featured w is g =
    ap (λ (n : ℕ). share g.mask w.mask && ((n == 0) || (n == field g.var1 24 8)) && true) is.syllables
    ∙ and_true (share g.mask w.mask && true) ∙ and_true (share g.mask w.mask)

place_of_if : (b m : Bool) (n : ℕ) → place_of (if b then (if m then At n else Other n) else End) ≡ (if b then (if m then Some n else None) else None)
place_of_if true true n = refl
place_of_if true false n = refl
place_of_if false m n = refl

place_of_unless : (b m : Bool) (n : ℕ) → place_of (if b then End else (if m then At n else Other n)) ≡ (if b then None else (if m then Some n else None))
place_of_unless true m n = refl
place_of_unless false true n = refl
place_of_unless false false n = refl

pub place_of_next : (m : KernMachine) (gs : List hb_glyph_info_t) (left : ℕ) → PassesMarks m.iterator
    → place_of (next_found m.iterator Shown gs left) ≡ next_forward (machine_of m) gs left
unfolding next_found next_forward
place_of_next m gs left is =
    let w : SkippingIterator = m.iterator in
    let n : ℕ = first_kept (passes w Shown) gs (left + 1) in
    place_of_if (nat_lt n (length gs)) (matches w Shown (glyph_at gs n)) n
    ∙ ap (λ (b : Bool). if nat_lt n (length gs) then (if b then Some n else None) else None) (matches_featured w is (glyph_at gs n))
    ∙ ap (λ (k : ℕ). if nat_lt k (length gs) then (if share (glyph_at gs k).mask w.mask then Some k else None) else None)
    (first_kept_same (passes w Shown) (is_passed w.ignores_zwj) (passes_is w is) gs (left + 1))

pub place_of_previous : (m : KernMachine) (gs : List hb_glyph_info_t) (left : ℕ) → PassesMarks m.iterator
    → place_of (previous_found m.iterator Shown gs left) ≡ next_backward (machine_of m) gs left
unfolding previous_found next_backward
place_of_previous m gs left is =
    let w : SkippingIterator = m.iterator in
    let n : ℕ = kept_before (passes w Shown) gs left in
    place_of_unless (n == 0) (matches w Shown (glyph_at gs (n - 1))) (n - 1)
    ∙ ap (λ (b : Bool). if n == 0 then None else (if b then Some (n - 1) else None)) (matches_featured w is (glyph_at gs (n - 1)))
    ∙ ap (λ (k : ℕ). if k == 0 then None else (if share (glyph_at gs (k - 1)).mask w.mask then Some (k - 1) else None))
    (kept_before_same (passes w Shown) (is_passed w.ignores_zwj) (passes_is w is) gs left)

-- ---- positions

length_kerned : (h : Bool) (value : ℤ) (left right : ℕ) (ps : List GlyphPosition)
    → length (pair_kerned h value left right ps) ≡ length ps
length_kerned h value left right ps =
    length_changed_at _ right (changed_at (advanced h (half value)) left ps) ∙ length_changed_at (advanced h (half value)) left ps

length_moved : (m : Machine) (pair : KernPair) (ps : List GlyphPosition) → length (pair_moved m pair ps) ≡ length ps
unfolding pair_moved
length_moved m pair ps =
    cond_both pair.is_cross_stream _ _ (λ (l : List GlyphPosition). length l ≡ length ps)
    (λ _. length_changed_at _ pair.right ps)
    (λ _. length_kerned (is_horizontal m.direction) (scaled m pair.value) pair.left pair.right ps)

pub with_positions_moved : (m : Machine) (pair : KernPair) (s : State) (ps ws : List GlyphPosition)
    → Some ps ≡ s.positions → ws ≡ pair_moved m pair ps → with_positions s ws ≡ on_positions (pair_moved m pair) s
with_positions_moved m pair s ps ws are is = with_positions_on (pair_moved m pair) s ps ws are is (length_moved m pair ps)

pub with_positions_chained : (chain : ℤ) (s : State) (ps ws : List GlyphPosition)
    → Some ps ≡ s.positions → ws ≡ map (joined chain) ps → with_positions s ws ≡ on_positions (map (joined chain)) s
with_positions_chained chain s ps ws are is =
    with_positions_on (map (joined chain)) s ps ws are is (length-map ps (joined chain))

-- ---- the walk over a line

pub len_closed : (s : State) → s.have_output ≡ false → len s ≡ length s.input
len_closed s closed = cond-false _ _ _ closed

-- the pair of the glyph whose turn it is
pub pair_of_seen : (m : Machine) (turn left n : ℕ) (gs : List hb_glyph_info_t) (s : State) (found : Option KernPair)
    → s.have_output ≡ false → n ≡ len s → gs ≡ s.input → left ≡ in_line m.direction n turn → found ≡ pair_of m gs left
    → pair_of m s.input (in_line m.direction (length s.input) turn) ≡ found
pair_of_seen m turn left n gs s found closed all glyphs place is =
    ap (λ (k : ℕ). pair_of m s.input (in_line m.direction k turn)) (sym (all ∙ len_closed s closed))
    ∙ ap (pair_of m s.input) (sym place) ∙ ap (λ (l : List hb_glyph_info_t). pair_of m l left) (sym glyphs) ∙ sym is

pub walked_pair : (m : Machine) (turn : ℕ) (across : Option ℕ) (s t : State) (pair : KernPair) (steps : ℕ)
    → turn < length s.input → pair_of m s.input (in_line m.direction (length s.input) turn) ≡ Some pair → t ≡ pair_tried m pair s
    → walked (suc steps) m turn across s
    ≡ walked steps m (in_line m.direction (length s.input) pair.right) (first_crossed pair across) t
walked_pair m turn across s t pair steps there is moved =
    cond-true _ _ _ (lt-ltb turn (length s.input) there)
    ∙ ap (λ (o : Option KernPair). option_map_or (λ (pair : KernPair). walked steps m (in_line m.direction (length s.input) pair.right)
    (first_crossed pair across) (pair_tried m pair s)) o (walked steps m (turn + 1) across s)) is
    ∙ ap (walked steps m (in_line m.direction (length s.input) pair.right) (first_crossed pair across)) (sym moved)

pub walked_lone : (m : Machine) (turn : ℕ) (across : Option ℕ) (s : State) (steps : ℕ)
    → turn < length s.input → pair_of m s.input (in_line m.direction (length s.input) turn) ≡ None
    → walked (suc steps) m turn across s ≡ walked steps m (turn + 1) across s
walked_lone m turn across s steps there is =
    cond-true _ _ _ (lt-ltb turn (length s.input) there)
    ∙ ap (λ (o : Option KernPair). option_map_or (λ (pair : KernPair). walked steps m (in_line m.direction (length s.input) pair.right)
    (first_crossed pair across) (pair_tried m pair s)) o (walked steps m (turn + 1) across s)) is

pub walked_end : (steps : ℕ) (m : Machine) (turn : ℕ) (across : Option ℕ) (s : State) → length s.input ≤ turn
    → walked steps m turn across s ≡ rest_marked m.direction across s
walked_end zero m turn across s behind = refl
walked_end (suc steps) m turn across s behind = cond-false _ _ _ (le-ltb turn (length s.input) behind)

pub walked_none : (steps : ℕ) (m : Machine) (turn : ℕ) (across : Option ℕ) (s : State) → steps ≡ 0
    → walked steps m turn across s ≡ rest_marked m.direction across s
walked_none steps m turn across s none = ap (λ (n : ℕ). walked n m turn across s) none

-- ---- all subtables

pub machine_of_is : (m : KernMachine) (k : Kern) → m.scale ≡ k.scale → m.iterator.mask ≡ k.options.mask
    → m.iterator.ignores_zwj ≡ k.options.auto_zwj → machine_of m ≡ machine_in k (pair_table m.subtable) m.direction
machine_of_is m k scale mask joiners =
    ap (λ z. record (machine_of m) { scale = z }) scale
    ∙ ap (λ (n : ℕ). record (machine_of m) { scale = k.scale; mask = n }) mask
    ∙ ap (λ (b : Bool). record (machine_of m) { scale = k.scale; mask = k.options.mask; passes_joiners = b }) joiners

pub kerned_from_next : (left : ℕ) (k : Kern) (at to : ℕ) (is_chained are_chained : Bool) (s t : State) (table : PairTable)
    → table_at k.table.is_apple (nat_eq left 0) (drop at k.table.table.now) ≡ Some table
    → to ≡ min (at + table.size) (2 ^ 64 - 1) → are_chained ≡ (is_chained || chains (machine_in k table s.direction))
    → t ≡ applied (machine_in k table s.direction) is_chained s
    → kerned_from (suc left) k at is_chained s ≡ kerned_from left k to are_chained t
kerned_from_next left k at to is_chained are_chained s t table here next chained is =
    let m : Machine = machine_in k table s.direction in
    ap (λ (o : Option PairTable). option_map_or (λ (u : PairTable). kerned_from left k (min (at + u.size) (2 ^ 64 - 1))
    (is_chained || chains (machine_in k u s.direction)) (applied (machine_in k u s.direction) is_chained s)) o s) here
    ∙ ap (λ (n : ℕ). kerned_from left k n (is_chained || chains m) (applied m is_chained s)) (sym next)
    ∙ ap (λ (b : Bool). kerned_from left k to b (applied m is_chained s)) (sym chained)
    ∙ ap (kerned_from left k to are_chained) (sym is)

pub kerned_from_end : (left : ℕ) (k : Kern) (at : ℕ) (is_chained : Bool) (s : State)
    → table_at k.table.is_apple (nat_eq left 0) (drop at k.table.table.now) ≡ None → kerned_from (suc left) k at is_chained s ≡ s
kerned_from_end left k at is_chained s none =
    ap (λ (o : Option PairTable). option_map_or (λ (u : PairTable). kerned_from left k (min (at + u.size) (2 ^ 64 - 1))
    (is_chained || chains (machine_in k u s.direction)) (applied (machine_in k u s.direction) is_chained s)) o s) none

-- the subtable that is applied, as the code has it
pub kerned_from_applied : (left : ℕ) (k : Kern) (at to : ℕ) (is_chained are_chained : Bool) (s t : State) (m : KernMachine)
    → m.scale ≡ k.scale → m.iterator.mask ≡ k.options.mask → m.iterator.ignores_zwj ≡ k.options.auto_zwj → m.direction ≡ s.direction
    → table_at k.table.is_apple (nat_eq left 0) (drop at k.table.table.now) ≡ Some (pair_table m.subtable)
    → to ≡ min (at + m.subtable.length) (2 ^ 64 - 1) → are_chained ≡ (is_chained || chains (machine_of m))
    → t ≡ applied (machine_of m) is_chained s
    → kerned_from (suc left) k at is_chained s ≡ kerned_from left k to are_chained t
kerned_from_applied left k at to is_chained are_chained s t m scale mask joiners direction here next chained is =
    let same : machine_of m ≡ machine_in k (pair_table m.subtable) s.direction =
    machine_of_is m k scale mask joiners ∙ ap (machine_in k (pair_table m.subtable)) direction in
    kerned_from_next left k at to is_chained are_chained s t (pair_table m.subtable) here next
    (chained ∙ ap (λ (z : Machine). is_chained || chains z) same) (is ∙ ap (λ (z : Machine). applied z is_chained s) same)

-- the last subtable has none behind it
pub nat_eq_last : (count number : ℕ) → nat_eq (count - (number + 1)) 0 ≡ nat_le count (number + 1)
nat_eq_last count number = grind (arith, nat_tests)
