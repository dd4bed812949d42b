-- When a pass says that the text would become too long.
use Rattle.std.specs.Prelude.{◌≡◌, false, Result, IfOk}
use Rattle.std.specs.declared.alloc.AllocError.{AllocError}
use Rattle.shaping_buffer.specs.State.{State}

-- this answer comes only where the buffer has refused a call for length: a side would have passed the limit
abbrev pub IsRefusal : {A : Type 0} → A → Result A AllocError → State → Type 0
IsRefusal told result state = IfOk result (λ answer. answer ≡ told → state.successful ≡ false)
