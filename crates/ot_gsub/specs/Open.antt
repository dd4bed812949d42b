-- What the functions of substitution keep.
use Rattle.std.specs.Prelude.{◌≡◌, Bool, true, false, Result, IfOk}
use Rattle.std.specs.declared.alloc.AllocError.{AllocError}
use Rattle.shaping_buffer.specs.State.{State}

-- the output is still open, unless memory ran out
abbrev pub IsLeftOpen : {A : Type 0} → Result A AllocError → State → Type 0
IsLeftOpen r s = IfOk r (λ _. s.have_output ≡ true)

-- the output is closed, unless memory ran out, or the buffer refused a call and the answer is false
abbrev pub IsLeftClosed : Result Bool AllocError → State → Type 0
IsLeftClosed r s = IfOk r (λ done. done ≡ true → s.have_output ≡ false)
