-- What always stays while glyphs change places.
use Rattle.std.specs.Prelude.{◌≡◌, Bool, true, false, Result, IfOk}
use Rattle.std.specs.declared.alloc.AllocError.{AllocError}
use Rattle.shaping_buffer.specs.State.{State}
use Rattle.shaping_passes.specs.Refusals.{IsRefusal}
use Rattle.script_syllables.specs.KeepsNumbers.{KeepsNumbers}

-- no output is open, and the numbers of clusters are kept
abbrev pub NumbersStay : State → State → Type 0
NumbersStay old new = record {
  closed : new.have_output ≡ false;
  keeps : KeepsNumbers old new;
}

-- of a function that may open an output, and closes it unless the buffer refused a call and the answer is false
abbrev pub Reorders : Result Bool AllocError → State → State → Type 0
Reorders r old new = record {
  closed : IfOk r (λ done. done ≡ true → new.have_output ≡ false);
  refusal : IsRefusal false r new;
  keeps : KeepsNumbers old new;
}

-- of one that asks for memory: if that runs out, the numbers of clusters alone are kept
abbrev pub NumbersStayIfOk : {A : Type 0} → Result A AllocError → State → State → Type 0
NumbersStayIfOk r old new = record {
  closed : IfOk r (λ _. new.have_output ≡ false);
  keeps : KeepsNumbers old new;
}
