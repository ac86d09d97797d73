-- Consecutive steps of a hart, up to one that halts the board or finds it halted.
use Rattle.std.specs.Prelude.{ℕ, zero, suc, ◌==◌, Bool, true, false, ◌&&◌, not, is_some, Option, Some, None}
use Rattle.rvm_hart.specs.declared.outcome.Stepped.{Stepped}
use Rattle.rvm_hart.specs.declared.outcome.Stepped.TheVariants.{Retired, Trapped, Interrupted, Halted}
use Rattle.rvm_hart.specs.Machine.{Machine}
use Rattle.rvm_hart.specs.Step.{step}
use Rattle.rvm_hart.specs.Straight.{steps}

-- the status that a step reports, if it halted the board or found it halted
abbrev pub status_in : Stepped → Option ℕ
status_in Retired = None
status_in (Trapped e) = None
status_in (Interrupted i) = None
status_in (Halted s) = Some s

-- none of the first n steps halts the board or finds it halted
unfoldable pub all_go : (n : ℕ) → Machine → Bool
all_go zero m = true
all_go (suc n) m = all_go n m && not (is_some (status_in (step (steps n m).machine).answer))

-- an answer has this status
abbrev pub has_status : (status : ℕ) → Option ℕ → Bool
has_status s (Some t) = t == s
has_status s None = false

-- n steps, of which only the last reports this status; without a status, none of them halts the
-- board or finds it halted
unfoldable pub ends_so : (status : Option ℕ) → (n : ℕ) → Machine → Bool
ends_so None n m = all_go n m
ends_so (Some s) zero m = false
ends_so (Some s) (suc n) m = all_go n m && has_status s (status_in (step (steps n m).machine).answer)
