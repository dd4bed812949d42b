-- Kerning by the table `kern` (OpenType, "kern"; HarfBuzz, `hb_kern_machine_t`).
use Rattle.std.specs.Prelude.{◌≡◌, ℕ, ℤ, pos, neg_ℤ, zero, suc, ◌+◌, ◌-◌, ◌^◌, ◌==◌, ◌&&◌, ◌||◌, Bool, true, false, not, List, Option, None, Some}
use Rattle.std.specs.Prelude.{length, map, drop, min, max, nat_eq, nat_le, nat_lt, unwrap_or, option_map, if◌then◌else◌}
use Rattle.std.specs.Option.{option_map_or}
use Rattle.std.specs.Ordering.{int_eq}
use Rattle.font_tables.specs.Bytes.{byte_at}
use Rattle.font_tables.specs.Scale.{em_scale}
use Rattle.font_tables.specs.declared.scale.Scale.{Scale}
use Rattle.rb_common.specs.Direction.{is_forward, is_horizontal}
use Rattle.rb_common.specs.declared.direction.Direction.{Direction}
use Rattle.rb_glyph.specs.Fields.{field, with_field}
use Rattle.rb_glyph.specs.declared.info.hb_glyph_info_t.{hb_glyph_info_t}
use Rattle.rb_glyph.specs.declared.position.GlyphPosition.{GlyphPosition}
use Rattle.shaping_buffer.specs.State.{State}
use Rattle.ot_lookups.specs.LookupProps.{glyph_at, props, share}
use Rattle.ot_layout.specs.SkippingIterator.{first_kept, is_format_with, kept_before}
use Rattle.ot_layout.specs.declared.skipping_iterator.LookupOptions.{LookupOptions}
use Rattle.ot_layout.specs.declared.skipping_iterator.SkippingIterator.{SkippingIterator}
use Rattle.ot_gpos_tables.specs.KernTable.{classed_value, coverage_of, pair_value, subtable_bytes, subtable_length}
use Rattle.ot_gpos_tables.specs.declared.kern_table.KernCoverage.{KernCoverage}
use Rattle.ot_gpos_tables.specs.declared.kern_table.KernSubtable.{KernSubtable}
use Rattle.ot_gpos_tables.specs.declared.kern_table.KernTable.{KernTable}
use Rattle.ot_attachments.specs.Chains.{with_chain}
use Rattle.ot_attachments.specs.Flags.{attachments_marked, break_marked, concat_marked}
use Rattle.ot_attachments.specs.Places.{behind, some_place}
use Rattle.ot_attachments.specs.Placing.{changed_at, on_positions, pair_kerned}
use Rattle.ot_kern.specs.declared.kern_pairs.KernMachine.{KernMachine}
use Rattle.ot_kern.specs.declared.kern_pairs.KernPair.{KernPair}

-- ---- subtables

-- a subtable: its bytes, how many of them are its header, its format, what its values are for, and how many bytes it says that it has
pub record PairTable : Type 0 where
  pub bytes : List ℕ
  pub header : ℕ
  pub format : ℕ
  pub coverage : KernCoverage
  pub size : ℕ

abbrev pub pair_table : KernSubtable → PairTable
pair_table s = record { bytes = s.table.now; header = s.header; format = s.format; coverage = s.coverage; size = s.length }

-- what a subtable of so many bytes says at the head of what is left of the table
abbrev pub described : Bool → Bool → List ℕ → ℕ → PairTable
described is_apple is_last rest size = record {
  bytes = subtable_bytes is_last size rest;
  header = if is_apple then 8 else 6;
  format = unwrap_or (byte_at rest (if is_apple then 5 else 4)) 0;
  coverage = coverage_of is_apple (unwrap_or (byte_at rest (if is_apple then 4 else 5)) 0);
  size = size;
}

-- the subtable at the head of what is left of the table
unfoldable pub table_at : Bool → Bool → List ℕ → Option PairTable
table_at is_apple is_last rest = option_map (described is_apple is_last rest) (subtable_length is_apple rest)

-- the value of two glyphs, in font units: by their row in format 0, by their classes in format 2, and 0 in others
unfoldable pub value_in : PairTable → ℕ → ℕ → ℤ
value_in t left right =
    if nat_eq t.format 0 then unwrap_or (pair_value t.bytes t.header left right) (pos 0)
    else if nat_eq t.format 2 then classed_value t.bytes t.header left right else pos 0

-- glyphs past 65,535 have none
abbrev pub value_of : PairTable → hb_glyph_info_t → hb_glyph_info_t → ℤ
value_of t left right =
    if nat_lt left.glyph_id 65536 && nat_lt right.glyph_id 65536 then value_in t left.glyph_id right.glyph_id else pos 0

-- a subtable as it is applied: at which size, to lines of which direction, to glyphs with one of these bits of a feature, and whether
-- zero width joiners are passed over
pub record Machine : Type 0 where
  pub subtable : PairTable
  pub scale : Scale
  pub direction : Direction
  pub mask : ℕ
  pub passes_joiners : Bool

abbrev pub machine_of : KernMachine → Machine
machine_of m = record {
  subtable = pair_table m.subtable;
  scale = m.scale;
  direction = m.direction;
  mask = m.iterator.mask;
  passes_joiners = m.iterator.ignores_zwj;
}

-- ---- the pair of a glyph

-- whether a glyph has one of the feature's bits
abbrev pub has_feature : Machine → hb_glyph_info_t → Bool
has_feature m g = share g.mask m.mask

-- whether a glyph is passed over: a mark (bit 3 of its properties), or one that is invisible by default (bit 5 of its Unicode properties)
-- and was not substituted (bit 4); a zero width joiner (bit 8) only where joiners are passed over
unfoldable pub is_passed : Bool → hb_glyph_info_t → Bool
is_passed passes_joiners g =
    share (props g) 8
    || (share (field g.var2 0 16) 32 && not (share (props g) 16)
    && (passes_joiners || not (is_format_with (field g.var2 0 16) 256)))

-- an iterator that passes over such glyphs
pub record PassesMarks (w : SkippingIterator) : Type 0 where
  pub marks : w.lookup_props.flags ≡ 8
  pub non_joiners : w.ignores_zwnj ≡ true
  pub hidden : w.ignores_hidden ≡ true
  pub syllables : w.syllable ≡ 0

abbrev pub if_featured : Machine → List hb_glyph_info_t → ℕ → Option ℕ
if_featured m gs place = if has_feature m (glyph_at gs place) then Some place else None

-- the next glyph that is not passed over, if it has the feature, in lines that run forward and in those that run backward
unfoldable pub next_forward : Machine → List hb_glyph_info_t → ℕ → Option ℕ
next_forward m gs left =
    let next = first_kept (is_passed m.passes_joiners) gs (left + 1) in
    if nat_lt next (length gs) then if_featured m gs next else None

unfoldable pub next_backward : Machine → List hb_glyph_info_t → ℕ → Option ℕ
next_backward m gs left =
    let end = kept_before (is_passed m.passes_joiners) gs left in
    if end == 0 then None else if_featured m gs (end - 1)

abbrev pub neighbour : Machine → List hb_glyph_info_t → ℕ → Option ℕ
neighbour m gs left = if is_forward m.direction then next_forward m gs left else next_backward m gs left

abbrev pub pair_with : Machine → List hb_glyph_info_t → ℕ → ℕ → KernPair
pair_with m gs left right = record {
  left = left;
  right = right;
  value = value_of m.subtable (glyph_at gs left) (glyph_at gs right);
  is_cross_stream = m.subtable.coverage.is_cross_stream;
}

-- the pair of the glyph at a place, if it has the feature, and the next one
unfoldable pub pair_of : Machine → List hb_glyph_info_t → ℕ → Option KernPair
pair_of m gs left =
    if has_feature m (glyph_at gs left) then option_map (pair_with m gs left) (neighbour m gs left) else None

-- ---- positions

-- a length along the line, at the font's size
unfoldable pub scaled : Machine → ℤ → ℤ
scaled m value =
    if is_horizontal m.direction then em_scale value m.scale.x m.scale.units_per_em
    else em_scale value m.scale.y m.scale.units_per_em

-- a glyph is put so far across the line
unfoldable pub crossed : Bool → ℤ → GlyphPosition → GlyphPosition
crossed is_horizontal value p = if is_horizontal then record p { y_offset = value } else record p { x_offset = value }

-- a pair is drawn together along the line, or its right glyph is put across it
unfoldable pub pair_moved : Machine → KernPair → List GlyphPosition → List GlyphPosition
pair_moved m pair ps =
    if pair.is_cross_stream
    then changed_at (crossed (is_horizontal m.direction) (scaled m pair.value)) pair.right ps
    else pair_kerned (is_horizontal m.direction) (scaled m pair.value) pair.left pair.right ps

-- each glyph is joined to the one before it in the line: what moves one across the line moves all that follow
unfoldable pub joined : ℤ → GlyphPosition → GlyphPosition
joined chain p = with_chain chain (record p { var = with_field p.var 16 8 2 })

abbrev pub chain_back : Direction → ℤ
chain_back direction = if is_forward direction then neg_ℤ (pos 1) else pos 1

-- ---- pairs that have a value, and others

-- the pair is moved, and a glyph that stands across the line is attached
unfoldable pub put : Machine → KernPair → State → State
put m pair s =
    let moved = on_positions (pair_moved m pair) s in
    if pair.is_cross_stream then attachments_marked moved else moved

-- a pair with a value is moved, and may not be parted
unfoldable pub kerned_pair : Machine → KernPair → State → State
kerned_pair m pair s = break_marked (min pair.left pair.right) (behind (max pair.left pair.right)) (put m pair s)

-- whether a glyph and another would be a pair with a value
abbrev pub would_kern : Machine → List hb_glyph_info_t → ℕ → ℕ → Bool
would_kern m gs left right =
    has_feature m (glyph_at gs left) && not (int_eq (value_of m.subtable (glyph_at gs left) (glyph_at gs right)) (pos 0))

-- whether one of the glyphs that a pair passes over would be kerned with its right glyph, if the line began there
abbrev pub passes_over_pair : Machine → List hb_glyph_info_t → KernPair → Bool
passes_over_pair m gs pair =
    let from = behind (min pair.left pair.right) in
    some_place (λ k. would_kern m gs k pair.right) from (max pair.left pair.right - from)

-- what a pair passes over may not be parted from its left glyph
unfoldable pub passed_marked : KernPair → State → State
passed_marked pair s =
    if nat_le pair.left pair.right then break_marked pair.left pair.right s
    else break_marked (behind pair.right) (behind pair.left) s

unfoldable pub unkerned : Machine → KernPair → State → State
unkerned m pair s = if passes_over_pair m s.input pair then passed_marked pair s else s

unfoldable pub pair_tried : Machine → KernPair → State → State
pair_tried m pair s = if int_eq pair.value (pos 0) then unkerned m pair s else kerned_pair m pair s

-- ---- the walk over a line

-- the number of a place in the order of the line, and the place of a number: lines that run backward begin at the end
abbrev pub in_line : Direction → ℕ → ℕ → ℕ
in_line direction len n = if is_forward direction then n else len - 1 - n

-- the left glyph of the first pair that is put across the line
abbrev pub first_crossed : KernPair → Option ℕ → Option ℕ
first_crossed pair None = if pair.is_cross_stream && not (int_eq pair.value (pos 0)) then Some pair.left else None
first_crossed pair (Some place) = Some place

-- what is put across the line moves all that follow, so that none of them may be parted from it
abbrev pub rest_marked : Direction → Option ℕ → State → State
rest_marked direction None s = s
rest_marked direction (Some left) s =
    if is_forward direction then break_marked left (2 ^ 64 - 1) s else break_marked 0 (behind left) s

-- From a glyph with a pair the walk goes on at the right glyph of the pair, whether it has a value or not, and from another at the next
-- glyph of the line. It has no more steps than there are glyphs.
abbrev pub walked : ℕ → Machine → ℕ → Option ℕ → State → State
walked zero m turn across s = rest_marked m.direction across s
walked (suc steps) m turn across s =
    let len = length s.input in
    if nat_lt turn len then
    option_map_or (λ pair.
    walked steps m (in_line m.direction len pair.right) (first_crossed pair across) (pair_tried m pair s))
    (pair_of m s.input (in_line m.direction len turn)) (walked steps m (turn + 1) across s)
    else rest_marked m.direction across s

-- the pairs of a line are kerned by a subtable
unfoldable pub line_kerned : Machine → State → State
line_kerned m s = walked (length s.input) m 0 None s

-- ---- all subtables

-- whether a subtable is for lines of this direction; one for variations of the font is for none
abbrev pub is_for : KernCoverage → Direction → Bool
is_for c direction = not c.is_variation && (if is_horizontal direction then c.is_horizontal else not c.is_horizontal)

-- whether a subtable puts glyphs across the line
abbrev pub chains : Machine → Bool
chains m = is_for m.subtable.coverage m.direction && m.subtable.coverage.is_cross_stream

-- the first such subtable joins all glyphs before
unfoldable pub chained : Machine → Bool → State → State
chained m is_chained s =
    if m.subtable.coverage.is_cross_stream && not is_chained
    then on_positions (map (joined (chain_back m.direction))) s else s

-- a subtable that is not for these lines is passed over
unfoldable pub applied : Machine → Bool → State → State
applied m is_chained s = if is_for m.subtable.coverage m.direction then line_kerned m (chained m is_chained s) else s

-- a table as it is applied, and its subtables as they are
pub record Kern : Type 0 where
  pub table : KernTable
  pub scale : Scale
  pub options : LookupOptions

abbrev pub machine_in : Kern → PairTable → Direction → Machine
machine_in k subtable direction = record {
  subtable = subtable;
  scale = k.scale;
  direction = direction;
  mask = k.options.mask;
  passes_joiners = k.options.auto_zwj;
}

-- Subtable by subtable, of which so many are left from a place on, each over what the earlier ones made of the buffer. Where one does not
-- lie in the table, none follows.
abbrev pub kerned_from : ℕ → Kern → ℕ → Bool → State → State
kerned_from zero k at is_chained s = s
kerned_from (suc left) k at is_chained s =
    option_map_or (λ t.
    let m = machine_in k t s.direction in
    kerned_from left k (min (at + t.size) (2 ^ 64 - 1)) (is_chained || chains m) (applied m is_chained s))
    (table_at k.table.is_apple (nat_eq left 0) (drop at k.table.table.now)) s

-- All subtables of a table, in order. All glyphs are unsafe to concatenate, where the buffer asks for that.
unfoldable pub kerned : KernTable → Scale → LookupOptions → State → State
kerned table scale options s =
    kerned_from table.count (record { table = table; scale = scale; options = options }) (if table.is_apple then 8 else 4) false
    (concat_marked 0 (2 ^ 64 - 1) s)
