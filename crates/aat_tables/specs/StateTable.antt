-- State tables of the extended form (`STXHeader`): for each state and each class of glyphs an entry.
use Rattle.std.specs.Prelude.{◌≡◌, ◌<◌, ◌+◌, ◌*◌, ◌∷◌, [], ℕ, List, Option, Some, nat_lt, unwrap_or, if◌then◌else◌, drop, option_and_then, option_map}
use Rattle.font_tables.specs.Bytes.{number_16, number_32}
use Rattle.aat_tables.specs.Lookup.{IsValueOf}
use Rattle.aat_tables.specs.declared.state_table.Entry.{Entry}

-- how many classes there are, of which a row of states has an entry each
abbrev pub class_count : List ℕ → ℕ
class_count table = unwrap_or (number_32 table 0) 0

-- the part of a table that the number at a place leads to
abbrev pub part_behind : List ℕ → ℕ → List ℕ
part_behind table at = drop (unwrap_or (number_32 table at) 0) table

-- a class that the table does not have is class 1, of glyphs that are out of bounds
abbrev pub column : List ℕ → ℕ → ℕ
column table class = if nat_lt class (class_count table) then class else 1

-- the number of the entry of a class in a state
unfoldable pub entry_number : List ℕ → ℕ → ℕ → Option ℕ
entry_number table state class =
    number_16 (part_behind table 8) (2 * (state * class_count table + column table class))

-- a field of an entry, where entries have so many bytes: the new state, the flags, and numbers of the kind of table
unfoldable pub entry_field : List ℕ → ℕ → ℕ → ℕ → Option ℕ
entry_field table size number field = number_16 (part_behind table 12) (size * number + field)

-- a number that an entry has beside its state and its flags: of some kinds of tables none, one or two; 65535 stands for none
abbrev pub entry_data : List ℕ → ℕ → ℕ → ℕ → Option ℕ
entry_data table data_count number k =
    if nat_lt k data_count then entry_field table (4 + 2 * data_count) number (4 + 2 * k) else Some 65535

-- the entry of a number: its new state, its flags, and its numbers, of which the kind of table has so many
abbrev pub entry_at : List ℕ → ℕ → ℕ → Option Entry
entry_at table data_count number =
    option_and_then (λ state. option_and_then (λ flags. option_and_then (λ first. option_map
    (λ second. record { new_state = state; flags = flags; «data» = first ∷ second ∷ [] })
    (entry_data table data_count number 1)) (entry_data table data_count number 0))
    (entry_field table (4 + 2 * data_count) number 2)) (entry_field table (4 + 2 * data_count) number 0)

-- the entry of a class in a state
abbrev pub entry_of : List ℕ → ℕ → ℕ → ℕ → Option Entry
entry_of table data_count state class = option_and_then (entry_at table data_count) (entry_number table state class)

-- the class of a glyph: 2 for one that was deleted, which stands as glyph 65535, and for another the value that the classes give it, or
-- 1, out of bounds
pub record IsClassOf (classes : List ℕ) (glyph_count glyph class : ℕ) : Type 0 where
  pub deleted : glyph ≡ 65535 → class ≡ 2
  pub beyond : 65535 < glyph → class ≡ 1
  pub listed : glyph < 65535 → (value : Option ℕ) × (IsValueOf classes glyph_count glyph value × (class ≡ unwrap_or value 1))
