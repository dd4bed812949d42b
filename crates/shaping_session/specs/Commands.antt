-- Which line is which command: its name, and then what belongs to it, word by word, up to the end of the line.
use Rattle.std.specs.Prelude.{ℕ, zero, suc, List, [], ◌∷◌, Option, Some, None, codes, nat_le, if◌then◌else◌}
use Rattle.std.specs.Option.{option_copied}
use Rattle.std.specs.Str.{bytes_eq, is_utf8}
use Rattle.shaping_buffer.specs.ClusterLevel.{level_of}
use Rattle.shaping_runs.specs.declared.call.Call.{Call}
use Rattle.shaping_runs.specs.declared.call.Call.TheVariants.{ClearOutput, NextGlyph, NextGlyphs, SkipGlyph, MoveTo}
use Rattle.shaping_runs.specs.declared.call.Call.TheVariants.{Sync}
use Rattle.shaping_runs.specs.declared.call.Call.TheVariants.{ReplaceGlyph, OutputGlyph, CopyGlyph, DeleteGlyph}
use Rattle.shaping_runs.specs.declared.call.Call.TheVariants.{MergeClusters, MergeOutClusters, UnsafeToBreak}
use Rattle.shaping_runs.specs.declared.call.Call.TheVariants.{MergeGraphemeClusters}
use Rattle.shaping_runs.specs.declared.call.Call.TheVariants.{UnsafeToBreakFromOutbuffer, SafeToInsertTatweel}
use Rattle.shaping_runs.specs.declared.call.Call.TheVariants.{UnsafeToConcat, UnsafeToConcatFromOutbuffer}
use Rattle.shaping_session.specs.Words.{Rest, first_word, past_first_word, past_space}
use Rattle.shaping_session.specs.Words.{next_character, next_language, next_u64, next_script, next_u32}
use Rattle.shaping_session.specs.declared.command.Command.{Command}
use Rattle.shaping_session.specs.declared.command.Command.TheVariants.{Push, Add, Level, Flags, Limit, Make}
use Rattle.shaping_session.specs.declared.command.Command.TheVariants.{ReplaceGlyphs, State, Serialize, New, Feature}
use Rattle.shaping_session.specs.declared.command.Command.TheVariants.{Tags, Compose, Decompose}

-- What a line asks for: a command with its texts and its numbers.
pub data Request : Type 0 where
  push : (text : List ℕ) → Request
  add : (character cluster : ℕ) → Request
  level : (number : ℕ) → Request
  flags : (number : ℕ) → Request
  limit : (number : ℕ) → Request
  call : (call : Call) → Request
  replace_glyphs : (num_in : ℕ) (ids : List ℕ) → Request
  state : Request
  serialize : (flags : ℕ) → Request
  new : Request
  feature : (text : List ℕ) → Request
  tags : (script : Option ℕ) (language : Option (List ℕ)) → Request
  compose : (first second : ℕ) → Request
  decompose : (character : ℕ) → Request

-- what a command asks for
abbrev pub request_of : Command → Request
request_of (Push text) = push text.now
request_of (Add character cluster) = add character cluster
request_of (Level l) = level (level_of l)
request_of (Flags number) = flags number
request_of (Limit number) = limit number
request_of (Make c) = call c
request_of (ReplaceGlyphs num_in ids) = replace_glyphs num_in ids.items
request_of State = state
request_of (Serialize number) = serialize number
request_of New = new
request_of (Feature text) = feature text.now
request_of (Tags script language) = tags script (option_copied language)
request_of (Compose a b) = compose a b
request_of (Decompose c) = decompose c

-- what the next words write, and what is left of the line behind them
abbrev pub Taken : Type 0 → Type 0
Taken A = Option (A × Rest)

-- no word belongs to it
abbrev pub alone : {A : Type 0} → A → Rest → Taken A
alone a rest = Some (a, rest)

-- one word belongs to it, which writes a number
abbrev pub with_word : {A : Type 0} → Option ℕ → (ℕ → A) → Rest → Taken A
with_word None make rest = None
with_word (Some a) make rest = Some (make a, past_first_word rest)

-- two words belong to it, which write numbers
abbrev pub with_words : {A : Type 0} → Option ℕ → Option ℕ → (ℕ → ℕ → A) → Rest → Taken A
with_words None b make rest = None
with_words (Some a) None make rest = None
with_words (Some a) (Some b) make rest = Some (make a b, past_first_word (past_first_word rest))

-- the rest of the line belongs to it, from behind one space on
abbrev pub with_text : {A : Type 0} → (List ℕ → A) → Rest → Taken A
with_text make None = None
with_text make (Some text) = Some (make text, None)

-- the number of a glyph belongs to it
abbrev pub with_glyph : {A : Type 0} → (ℕ → A) → Rest → Taken A
with_glyph make rest = with_word (next_u32 rest) make rest

-- a place, or a number of glyphs, belongs to it
abbrev pub with_u64 : {A : Type 0} → (ℕ → A) → Rest → Taken A
with_u64 make rest = with_word (next_u64 rest) make rest

-- a number that is the highest at most
abbrev pub at_most : ℕ → Option ℕ → Option ℕ
at_most highest None = None
at_most highest (Some n) = if nat_le n highest then Some n else None

-- a number up to the highest belongs to it
abbrev pub with_number_to : {A : Type 0} → ℕ → (ℕ → A) → Rest → Taken A
with_number_to highest make rest = with_word (at_most highest (next_u32 rest)) make rest

-- a character belongs to it; a character and a cluster; two characters
abbrev pub with_character : (ℕ → Request) → Rest → Taken Request
with_character make rest = with_word (next_character rest) make rest

abbrev pub with_character_and_number : (ℕ → ℕ → Request) → Rest → Taken Request
with_character_and_number make rest = with_words (next_character rest) (next_u32 (past_first_word rest)) make rest

abbrev pub with_characters : (ℕ → ℕ → Request) → Rest → Taken Request
with_characters make rest = with_words (next_character rest) (next_character (past_first_word rest)) make rest

-- a script and a language belong to it
abbrev pub with_names : Option (Option ℕ) → Option (Option (List ℕ)) → Rest → Taken Request
with_names None language rest = None
with_names (Some script) None rest = None
with_names (Some script) (Some language) rest = Some (tags script language, past_first_word (past_first_word rest))

abbrev pub with_script_and_language : Rest → Taken Request
with_script_and_language rest = with_names (next_script rest) (next_language (past_first_word rest)) rest

-- the calls that take a start and an end, by their names
unfoldable pub range_call_in : List ℕ → ℕ → ℕ → Option Call
range_call_in name start end =
    if bytes_eq name (codes "merge_clusters") then Some (MergeClusters start end)
    else if bytes_eq name (codes "merge_out_clusters") then Some (MergeOutClusters start end)
    else if bytes_eq name (codes "merge_grapheme_clusters") then Some (MergeGraphemeClusters start end)
    else if bytes_eq name (codes "unsafe_to_break") then Some (UnsafeToBreak (Some start) (Some end))
    else if bytes_eq name (codes "unsafe_to_break_from_outbuffer")
    then Some (UnsafeToBreakFromOutbuffer (Some start) (Some end))
    else if bytes_eq name (codes "safe_to_insert_tatweel") then Some (SafeToInsertTatweel (Some start) (Some end))
    else if bytes_eq name (codes "unsafe_to_concat") then Some (UnsafeToConcat (Some start) (Some end))
    else if bytes_eq name (codes "unsafe_to_concat_from_outbuffer")
    then Some (UnsafeToConcatFromOutbuffer (Some start) (Some end))
    else None

-- one of them, and what is left of the line behind its two places
abbrev pub taken_call : Option Call → Rest → Taken Call
taken_call None rest = None
taken_call (Some c) rest = Some (c, rest)

abbrev pub with_range : List ℕ → Option ℕ → Option ℕ → Rest → Taken Call
with_range name None end rest = None
with_range name (Some start) None rest = None
with_range name (Some start) (Some end) rest =
    taken_call (range_call_in name start end) (past_first_word (past_first_word rest))

-- the calls, by the names of their methods
unfoldable pub call_in : List ℕ → Rest → Taken Call
call_in name rest =
    if bytes_eq name (codes "clear_output") then alone ClearOutput rest
    else if bytes_eq name (codes "next_glyph") then alone NextGlyph rest
    else if bytes_eq name (codes "next_glyphs") then with_u64 NextGlyphs rest
    else if bytes_eq name (codes "skip_glyph") then alone SkipGlyph rest
    else if bytes_eq name (codes "move_to") then with_u64 MoveTo rest
    else if bytes_eq name (codes "sync") then alone Sync rest
    else if bytes_eq name (codes "replace_glyph") then with_glyph ReplaceGlyph rest
    else if bytes_eq name (codes "output_glyph") then with_glyph OutputGlyph rest
    else if bytes_eq name (codes "copy_glyph") then alone CopyGlyph rest
    else if bytes_eq name (codes "delete_glyph") then alone DeleteGlyph rest
    else with_range name (next_u64 rest) (next_u64 (past_first_word rest)) rest

-- a call is a request too
abbrev pub call_request : Taken Call → Taken Request
call_request None = None
call_request (Some (c, rest)) = Some (call c, rest)

-- the commands, by their names: the text and how it is treated, what is printed, questions, and calls of the buffer; the
-- eight flags of a buffer are the bits of the numbers up to 255, the six flags to print by of those up to 63
unfoldable pub command_in : List ℕ → Rest → Taken Request
command_in name rest =
    if bytes_eq name (codes "push") then with_text push rest
    else if bytes_eq name (codes "add") then with_character_and_number add rest
    else if bytes_eq name (codes "new") then alone new rest
    else if bytes_eq name (codes "level") then with_number_to 3 level rest
    else if bytes_eq name (codes "flags") then with_number_to 255 flags rest
    else if bytes_eq name (codes "limit") then with_u64 limit rest
    else if bytes_eq name (codes "state") then alone state rest
    else if bytes_eq name (codes "serialize") then with_number_to 63 serialize rest
    else if bytes_eq name (codes "feature") then with_text feature rest
    else if bytes_eq name (codes "tags") then with_script_and_language rest
    else if bytes_eq name (codes "compose") then with_characters compose rest
    else if bytes_eq name (codes "decompose") then with_character decompose rest
    else call_request (call_in name rest)

-- an id before others
abbrev pub id_before : Option ℕ → Taken (List ℕ) → Taken (List ℕ)
id_before None taken = None
id_before (Some id) None = None
id_before (Some id) (Some (ids, rest)) = Some (id ∷ ids, rest)

-- so many ids belong to it
abbrev pub ids_in : ℕ → Rest → Taken (List ℕ)
ids_in zero rest = Some ([], rest)
ids_in (suc count) rest = id_before (next_u32 rest) (ids_in count (past_first_word rest))

-- how many glyphs are replaced, and the ids of those that take their place
abbrev pub replacement_by : ℕ → Taken (List ℕ) → Taken Request
replacement_by num_in None = None
replacement_by num_in (Some (ids, rest)) = Some (replace_glyphs num_in ids, rest)

-- the same, with the number of ids before them
abbrev pub with_ids : Option ℕ → Option ℕ → Rest → Taken Request
with_ids None num_out rest = None
with_ids (Some num_in) None rest = None
with_ids (Some num_in) (Some num_out) rest = replacement_by num_in (ids_in num_out rest)

abbrev pub replacement_in : Rest → Taken Request
replacement_in rest =
    with_ids (next_u64 rest) (next_u64 (past_first_word rest)) (past_first_word (past_first_word rest))

-- the request of a name: a replacement, whose line may be long, or one of the others
unfoldable pub request_named : List ℕ → Rest → Taken Request
request_named name rest =
    if bytes_eq name (codes "replace_glyphs") then replacement_in rest else command_in name rest

-- nothing may be left of the line
abbrev pub whole : Taken Request → Option Request
whole None = None
whole (Some (request, None)) = Some request
whole (Some (request, Some text)) = None

-- what the name and the rest of a line ask for
abbrev pub request_behind : Option (List ℕ) → Rest → Option Request
request_behind None rest = None
request_behind (Some name) rest = whole (request_named name rest)

-- what a line asks for: nothing where it is no command
abbrev pub request_in : List ℕ → Option Request
request_in line = request_behind (first_word (Some line)) (past_space line)

-- the same of bytes, which have to be UTF-8
abbrev pub request_in_bytes : List ℕ → Option Request
request_in_bytes line = if is_utf8 line then request_in line else None
