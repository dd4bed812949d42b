-- Worked rows: lists of calls, what they answer and what they leave.
use Rattle.std.proofs.Common.{◌≡◌, ℕ, List, [], ◌∷◌, refl, true, false, pos, map}
use Rattle.rb_glyph.specs.declared.info.hb_glyph_info_t.{hb_glyph_info_t}
use Rattle.glyph_lists.specs.Clusters.{zero_glyph, run_merge, range_least, widened_start, widened_end, run_start}
use Rattle.glyph_lists.specs.Clusters.{run_end, least, with_cluster, cluster_merge}
use Rattle.glyph_lists.specs.Deletion.{merge_or_mark}
use Rattle.glyph_lists.specs.Marks.{mark_part, end_mark, with_glyph_flags, ends}
use Rattle.glyph_lists.specs.Scans.{scan_of}
use Rattle.std.specs.Prelude.{None, Some}
use Rattle.shaping_buffer.specs.State.{State, empty_state, cleared}
use Rattle.shaping_buffer.specs.Step.{with_id}
use Rattle.shaping_buffer.specs.Step as step
use Rattle.shaping_buffer.specs.Limits as limits
use Rattle.shaping_buffer.specs.Pushed.{pushed}
use Rattle.shaping_buffer.specs.Positions.{with_zero_positions}
use Rattle.rb_glyph.specs.declared.flag_sets.TheConstants.SerializeFlags.{NO_GLYPH_NAMES}
use Rattle.shaping_buffer.specs.Text.{text_of}
use Rattle.std.specs.Prelude.{codes}
use Rattle.std.specs.Char.{encode_utf8}
use Rattle.std.specs.Str.{chars}
use Rattle.std.specs.Fmt.{digits}
use Rattle.shaping_runs.specs.declared.call.Call.{Call}
use Rattle.shaping_runs.specs.declared.call.Call.TheVariants.{ClearOutput, NextGlyph, NextGlyphs, SkipGlyph}
use Rattle.shaping_runs.specs.declared.call.Call.TheVariants.{OutputGlyph, OutputInfo, CopyGlyph, MoveTo, Sync}
use Rattle.shaping_runs.specs.declared.call.Call.TheVariants.{MergeClusters, UnsafeToBreak}
use Rattle.shaping_runs.specs.declared.call.Answer.TheVariants.{Done, Refused, Outside}
use Rattle.shaping_buffer.specs.ClusterStep.{both}
use Rattle.shaping_runs.specs.Replay.{answers_of, after, turn}
use Rattle.shaping_runs.specs.Headline.{held, range_of}

-- one glyph, and room for one on each side
one : State
one = record (empty_state 1 (pos 0)) { input = zero_glyph ∷ [] }

calls : List Call
calls = ClearOutput ∷ OutputGlyph 7 ∷ NextGlyph ∷ MergeClusters 0 2 ∷ Sync ∷ SkipGlyph ∷ []

-- what is too long is refused, and so is `sync` after it; the calls between and behind go on
told : answers_of calls one ≡ Done ∷ Done ∷ Refused ∷ Outside ∷ Refused ∷ Done ∷ []
unfolding one calls
told = refl

left : after calls one ≡ record (empty_state 1 (pos 0)) {
  have_output = true;
  have_separate_output = true;
  out = with_id 7 zero_glyph ∷ [];
  idx = 1;
  successful = false;
}
unfolding one calls
left = refl

-- both sides together are too long
sync_is_too_long : after (ClearOutput ∷ OutputGlyph 7 ∷ Sync ∷ []) one
    ≡ record (empty_state 1 (pos 0)) {
      have_output = true;
      have_separate_output = true;
      out = with_id 7 zero_glyph ∷ [];
      input = zero_glyph ∷ [];
      successful = false;
    }
unfolding one
sync_is_too_long = refl

-- with both sides empty there is nothing to copy, whatever the limit
nothing_to_copy : answers_of (ClearOutput ∷ OutputGlyph 5 ∷ NextGlyph ∷ []) (empty_state 0 (pos 0))
    ≡ Done ∷ Done ∷ Outside ∷ []
nothing_to_copy = refl

-- a text of two characters, the first of which is put out
put_out : text_of (record { name = λ _. None; extents = λ _. None }) NO_GLYPH_NAMES
    (with_zero_positions (after (ClearOutput ∷ NextGlyph ∷ Sync ∷ [])
    (pushed (codes "ab") (empty_state 9 (pos 0))).state))
    ≡ codes "97=0+0|98=1+0"
unfolding chars encode_utf8 digits
put_out = refl

-- ---- steps of the cursor calls

-- a glyph with this id in this cluster
abbrev glyph : ℕ → ℕ → hb_glyph_info_t
glyph id c = record zero_glyph { glyph_id = id; cluster = c }

-- an output is open after a read, with one glyph put out, and two are left
abbrev opened : State
opened = record (empty_state 4 (pos 0)) {
  have_output = true;
  out = glyph 97 0 ∷ [];
  input = glyph 98 2 ∷ glyph 99 1 ∷ [];
  idx = 1;
}

two_are_put_out : step.next_glyphs 2 opened
    ≡ record {
      done = true;
      state = record opened {
        out = glyph 97 0 ∷ glyph 98 2 ∷ glyph 99 1 ∷ [];
        input = [];
        idx = 3;
      };
    }
two_are_put_out = refl

-- two glyphs are merged into the lower cluster, and two copies of the first stand in place of them
two_give_way_to_two : step.replace_glyphs 2 (7 ∷ 8 ∷ []) opened
    ≡ record {
      done = true;
      state = record opened {
        out = glyph 97 0 ∷ glyph 7 1 ∷ glyph 8 1 ∷ [];
        input = [];
        idx = 3;
      };
    }
unfolding merge_or_mark run_merge range_least widened_start widened_end run_start run_end least with_cluster
two_give_way_to_two = refl

-- four copies are too many, and nothing is merged
four_are_too_many : step.replace_glyphs 2 (5 ∷ 6 ∷ 7 ∷ 8 ∷ []) opened
    ≡ record { done = false; state = record opened { successful = false } }
unfolding merge_or_mark run_merge range_least widened_start widened_end run_start run_end least with_cluster
four_are_too_many = refl

another_is_put_out : step.output_info (glyph 5 9) opened
    ≡ record { done = true; state = record opened { have_separate_output = true; out = glyph 97 0 ∷ glyph 5 9 ∷ [] } }
another_is_put_out = refl

the_head_is_copied : step.copy_glyph opened
    ≡ record { done = true; state = record opened { have_separate_output = true; out = glyph 97 0 ∷ glyph 98 2 ∷ [] } }
the_head_is_copied = refl

moved_forward : step.move_to 2 opened
    ≡ record {
      done = true;
      state = record opened {
        out = glyph 97 0 ∷ glyph 98 2 ∷ [];
        input = glyph 99 1 ∷ [];
        idx = 2;
      };
    }
moved_forward = refl

moved_back : step.move_to 0 opened
    ≡ record {
      done = true;
      state = record opened {
        out = [];
        input = glyph 97 0 ∷ glyph 98 2 ∷ glyph 99 1 ∷ [];
        idx = 0;
      };
    }
moved_back = refl

-- three glyphs are taken back where two were read: the cursor stays at the start
more_are_taken_back : (step.move_to 0
    (record opened { out = glyph 7 0 ∷ glyph 8 0 ∷ glyph 9 0 ∷ []; input = []; idx = 2 })).state.idx ≡ 0
more_are_taken_back = refl

-- what is left to read would be too long
back_is_too_long : step.move_to 0 (record opened { max_len = 2 })
    ≡ record { done = false; state = record opened { max_len = 2; successful = false } }
back_is_too_long = refl

moved_after_a_refusal : step.move_to 0 (record opened { successful = false })
    ≡ record { done = false; state = record opened { successful = false } }
moved_after_a_refusal = refl

-- with no output only the cursor moves
moved_while_closed : step.move_to 2 (record opened { have_output = false; out = [] })
    ≡ record { done = true; state = record opened { have_output = false; out = []; idx = 2 } }
moved_while_closed = refl

room_for_four : step.ensure 4 opened ≡ record { done = true; state = record opened { room = 4 } }
room_for_four = refl

no_room_for_five : step.ensure 5 opened ≡ record { done = false; state = record opened { successful = false } }
no_room_for_five = refl

-- a list of them: the out side is full at the fourth, and each move after it is refused
ran : answers_of (ClearOutput ∷ NextGlyphs 2 ∷ CopyGlyph ∷ OutputInfo (glyph 5 0) ∷ MoveTo 0 ∷ NextGlyphs 9 ∷ MoveTo 3
    ∷ []) (record (empty_state 3 (pos 0)) { input = glyph 97 0 ∷ glyph 98 1 ∷ glyph 99 2 ∷ [] })
    ≡ Done ∷ Done ∷ Done ∷ Refused ∷ Refused ∷ Outside ∷ Refused ∷ []
ran = refl

-- ---- falling clusters, with an output open

-- four glyphs, and an output in which nothing stands
abbrev falling : State
falling = record (empty_state 9 (pos 0)) {
  have_output = true;
  input = glyph 97 4 ∷ glyph 98 3 ∷ glyph 99 3 ∷ glyph 100 1 ∷ [];
}

-- the glyph before the merged ones takes their cluster
first_two_are_merged : both (turn (MergeClusters 0 2) falling).state
    ≡ glyph 97 3 ∷ glyph 98 3 ∷ glyph 99 3 ∷ glyph 100 1 ∷ []
unfolding merge_or_mark run_merge range_least widened_start widened_end run_start run_end least with_cluster
first_two_are_merged = refl

last_three_are_merged : both (turn (MergeClusters 1 4) falling).state
    ≡ glyph 97 4 ∷ glyph 98 1 ∷ glyph 99 1 ∷ glyph 100 1 ∷ []
unfolding merge_or_mark run_merge range_least widened_start widened_end run_start run_end least with_cluster
last_three_are_merged = refl

-- it is the cluster merge of the range, here across the cursor
merged_across_the_cursor : both (after (NextGlyphs 2 ∷ MergeClusters 2 4 ∷ []) falling)
    ≡ cluster_merge (both falling) (range_of (MergeClusters 2 4) falling)
unfolding merge_or_mark run_merge cluster_merge range_least widened_start widened_end run_start run_end least
    with_cluster
merged_across_the_cursor = refl

-- all but the least cluster are marked
break_before_the_least : map (λ g. g.mask) (both (turn (UnsafeToBreak (Some 0) (Some 4)) falling).state)
    ≡ 3 ∷ 3 ∷ 3 ∷ 0 ∷ []
unfolding scan_of end_mark mark_part with_glyph_flags ends least
break_before_the_least = refl

-- what is held is one too many
held_is_too_long : held (NextGlyphs 4) falling ∷ held (MoveTo 3) falling ∷ held Sync falling ∷ held SkipGlyph falling
    ∷ [] ≡ 4 ∷ 3 ∷ 4 ∷ 0 ∷ []
held_is_too_long = refl

-- ---- room

-- room is made up to the limit, never taken away, and asked for past the limit it is refused
room_is_made : step.ensure 4 opened ∷ step.ensure 3 (record opened { room = 4 }) ∷ step.ensure 5 opened ∷ []
    ≡ record { done = true; state = record opened { room = 4 } }
    ∷ record { done = true; state = record opened { room = 4 } }
    ∷ record { done = false; state = record opened { successful = false } } ∷ []
room_is_made = refl

room_stays : (limits.leave (record opened { room = 2 })).room ∷ (cleared (record opened { room = 3 })).room ∷ [] ≡ 2 ∷ 3 ∷ []
room_stays = refl

-- ---- limits and the numbers of ligatures

limits_of_three : limits.enter (record opened { idx = 1 }) ≡ record opened { max_len = 16384; max_ops = pos 16384 }
limits_of_three = refl

limits_of_none : limits.leave opened ≡ record opened { max_len = 1073741823; max_ops = pos 536870911 }
limits_of_none = refl

numbers_of_ligatures : limits.next_lig_serial 254 ∷ limits.next_lig_serial 255 ∷ limits.next_lig_serial 7 ∷ []
    ≡ 255 ∷ 1 ∷ 9 ∷ []
numbers_of_ligatures = refl
