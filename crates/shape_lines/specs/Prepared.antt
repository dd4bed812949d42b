-- The text that a line is shaped as.
use Rattle.std.specs.Prelude.{ℕ, ◌==◌, Bool, List, length, map, Option, Some, None, string_bytes, if◌then◌else◌}
use Rattle.std.specs.Char.{to_ascii_lowercase}
use Rattle.shaping_buffer.specs.ClusterLevel.{level_of}
use Rattle.shaping_buffer.specs.Properties.{with_pre_context, with_post_context, with_clusters_reset, guessed, or_else}
use Rattle.shaping_buffer.specs.State.{State}
use Rattle.shape_options.specs.declared.options.LineOptions.{LineOptions}

-- clusters are numbers of characters, or of bytes, as a text that is pushed has them
abbrev pub numbered : Bool → State → State
numbered utf8_clusters s = if utf8_clusters then s else with_clusters_reset s

abbrev pub language_of : List ℕ → Option (List ℕ)
language_of text = if length text == 0 then None else Some (map to_ascii_lowercase text)

-- what stands before a line and after it
abbrev pub with_contexts : List ℕ → List ℕ → State → State
with_contexts before after s = with_post_context after (with_pre_context before s)

-- what is said of a text that nothing was said of
abbrev pub with_properties : LineOptions → State → State
with_properties o s = record s {
  direction = o.direction;
  script = or_else o.script s.script;
  language = or_else (language_of o.language.now) s.language;
  flags = o.flags;
  cluster_level = level_of o.cluster_level;
  not_found_variation_selector = or_else o.not_found_variation_selector_glyph s.not_found_variation_selector;
}

-- the text of a line, with its clusters, its contexts and its properties, where what is not said is guessed
abbrev pub prepared : LineOptions → State → State
prepared o s =
    guessed (with_properties o (with_contexts (string_bytes o.before) (string_bytes o.after) (numbered o.utf8_clusters s)))
