-- What functions over a buffer need, and what always stays while they work on it.
use Rattle.std.specs.Prelude.{◌≡◌, ◌<◌, Bool, true, false, length, Result, IfOk}
use Rattle.std.specs.declared.alloc.AllocError.{AllocError}
use Rattle.shaping_buffer.specs.KeepsClusters.{KeepsClusters}
use Rattle.shaping_buffer.specs.State.{State}
use Rattle.shaping_passes.specs.Refusals.{IsRefusal}

-- an output is open, and a glyph is left to be read
abbrev pub HasCurrent : State → Type 0
HasCurrent s = record {
  opened : s.have_output ≡ true;
  glyph : 0 < length s.input;
}

-- no output is open, and the clusters are kept
abbrev pub StaysClosed : State → State → Type 0
StaysClosed old new = record {
  closed : new.have_output ≡ false;
  keeps : KeepsClusters old new;
}

-- an output is open, and the clusters are kept
abbrev pub StaysOpen : State → State → Type 0
StaysOpen old new = record {
  opened : new.have_output ≡ true;
  keeps : KeepsClusters old new;
}

-- of a function that asks for memory: if that runs out, the clusters alone are kept. It answers `told` only where the buffer refused a
-- call for length
abbrev pub StaysOpenAndTells : {A : Type 0} → A → Result A AllocError → State → State → Type 0
StaysOpenAndTells told r old new = record {
  opened : IfOk r (λ _. new.have_output ≡ true);
  refusal : IsRefusal told r new;
  keeps : KeepsClusters old new;
}

-- of one that opens an output, and closes it unless the buffer refused a call and the answer is false
abbrev pub Closes : Result Bool AllocError → State → State → Type 0
Closes r old new = record {
  closed : IfOk r (λ done. done ≡ true → new.have_output ≡ false);
  refusal : IsRefusal false r new;
  keeps : KeepsClusters old new;
}
