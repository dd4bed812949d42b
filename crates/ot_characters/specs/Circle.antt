-- The dotted circle before a text that begins with a mark (HarfBuzz, `hb_insert_dotted_circle`).
use Rattle.std.specs.Prelude.{◌≡◌, ℕ, ◌==◌, ◌&&◌, Bool, true, not, length, MatchBool}
use Rattle.rb_glyph.specs.declared.info.hb_glyph_info_t.{hb_glyph_info_t}
use Rattle.rb_glyph.specs.declared.flag_sets.TheConstants.BufferFlags.{BEGINNING_OF_TEXT, DO_NOT_INSERT_DOTTED_CIRCLE}
use Rattle.shaping_buffer.specs.State.{State}
use Rattle.shaping_buffer.specs.ClusterStep.{asks, head_of}
use Rattle.shaping_buffer.specs.Step.{Outcome, clear_output, output_info, sync}
use Rattle.script_items.specs.Marks.{is_mark}
use Rattle.script_items.specs.Properties.{with_properties}

-- the text is said to begin a paragraph, and no circle is forbidden
abbrev pub may_have_circle : State → Bool
may_have_circle s = asks BEGINNING_OF_TEXT s && not (asks DO_NOT_INSERT_DOTTED_CIRCLE s)

-- nothing stands before it, and it begins with a mark
abbrev pub wants_circle : State → Bool
wants_circle s = may_have_circle s && ((length s.pre_context == 0) && is_mark (head_of s))

-- the circle, with its properties: it is in the mark's cluster, and has its features
abbrev pub circle_before : hb_glyph_info_t → hb_glyph_info_t
circle_before mark =
    with_properties (record { glyph_id = 0x25CC; mask = mark.mask; cluster = mark.cluster; var1 = 0; var2 = 0 })

-- put out, and then the text behind it
unfoldable pub with_circle : State → Outcome
with_circle s = sync (output_info (circle_before (head_of s)) (clear_output s)).state

abbrev pub HasCircle : State → State → Bool → Type 0
HasCircle old new done = (done ≡ (with_circle old).done) × (new ≡ (with_circle old).state)

-- where the text wants one, and the font has it
abbrev pub InsertsCircle : (ℕ → Bool) → State → State → Bool → Type 0
InsertsCircle has old new done =
    MatchBool (wants_circle old && has 0x25CC) (HasCircle old new done) ((done ≡ true) × (new ≡ old))
