-- The calls that make a ligature of two glyphs.
use Rattle.std.specs.Prelude.{ℕ, List, [], ◌∷◌}
use Rattle.std.specs.Borrow.{Bor}
use Rattle.shaping_runs.specs.declared.call.Call.{Call}
use Rattle.shaping_runs.specs.declared.call.Call.TheVariants as call

-- a slice with one id; a call reads what it holds, and not where it lies
abbrev pub slice_of : ℕ → Bor (List ℕ)
slice_of id = record { ref_ptr = (0, 0); now = id ∷ [] }

-- an output is opened, the ligature stands for the first two glyphs, and the output is closed
abbrev pub ligature_calls : ℕ → List Call
ligature_calls ligature = call.ClearOutput ∷ call.ReplaceGlyphs 2 1 (slice_of ligature) ∷ call.Sync ∷ []
