-- What always stays while subtables are applied to a text, and what the functions over a buffer leave, unless memory ran out.
use Rattle.std.specs.Prelude.{◌≡◌, Bool, true, false, Result, IfOk}
use Rattle.std.specs.declared.alloc.AllocError.{AllocError}
use Rattle.ot_layout.specs.Budget.{IsNotMore}
use Rattle.shaping_buffer.specs.KeepsClusters.{KeepsClusters}
use Rattle.shaping_buffer.specs.State.{State}
use Rattle.shaping_passes.specs.Refusals.{IsRefusal}
use Rattle.aat_substitution.specs.declared.work.Work.{Work}

-- an output is open as it was before, and the clusters are kept
abbrev pub Stays : State → State → Type 0
Stays old new = record {
  left : new.have_output ≡ old.have_output;
  keeps : KeepsClusters old new;
}

-- of a function that asks for memory: if that runs out, the clusters alone are kept. It answers `told` only where the buffer refused a
-- call for length
abbrev pub StaysAndTells : {A : Type 0} → A → Result A AllocError → State → State → Type 0
StaysAndTells told r old new = record {
  left : IfOk r (λ _. new.have_output ≡ old.have_output);
  refusal : IsRefusal told r new;
  keeps : KeepsClusters old new;
}

-- and it takes from the budget, if anything
abbrev pub Works : {A : Type 0} → A → Result A AllocError → State → State → Work → Work → Type 0
Works told r old new before after = record {
  stays : StaysAndTells told r old new;
  spent : IsNotMore before.budget after.budget;
}

-- the output is closed, unless the buffer refused a call and the answer is false
abbrev pub IsLeftClosed : Result Bool AllocError → State → Type 0
IsLeftClosed r s = IfOk r (λ done. done ≡ true → s.have_output ≡ false)

-- of a function that opens an output and closes it
abbrev pub Closes : Result Bool AllocError → State → State → Work → Work → Type 0
Closes r old new before after = record {
  left : IsLeftClosed r new;
  refusal : IsRefusal false r new;
  keeps : KeepsClusters old new;
  spent : IsNotMore before.budget after.budget;
}

-- of one that may turn the text, which is turned back unless the answer is false
abbrev pub TurnsBack : Result Bool AllocError → State → State → Type 0
TurnsBack r old new = record {
  left : IsLeftClosed r new;
  refusal : IsRefusal false r new;
  keeps : IfOk r (λ done. done ≡ true → KeepsClusters old new);
}
