-- Traps and interrupts that the guest has no handler for: the next step of the same hart, the first of the handler,
-- traps too.
use Rattle.std.specs.Prelude.{ℕ, ◌+◌, ◌==◌, if◌then◌else◌, List, [], ◌∷◌, length, Option, Some, None, option_map}
use Rattle.rvm_csr.specs.declared.cause.Cause.{Cause}
use Rattle.rvm_csr.specs.declared.cause.Cause.TheVariants as cause
use Rattle.rvm_board.specs.declared.event.BoardReply.{BoardReply}
use Rattle.rvm_board.specs.declared.event.BoardReply.TheVariants.{Trapped, Interrupted}
use Rattle.rvm_board.specs.Board.{hart_at}
use Rattle.rvm_board.specs.Events.{pc_of}
use Rattle.rvm_board.specs.Guest.{Guest}
use Rattle.rvm_command.specs.declared.fault.Fault.{Fault}
use Rattle.rvm_command.specs.Taken.{Taken}
use Rattle.rvm_command.specs.WordAt.{word_at}

-- why a step entered a handler, if it did
abbrev pub cause_of : BoardReply → Option Cause
cause_of (Trapped e) = Some (cause.Exception e)
cause_of (Interrupted i) = Some (cause.Interrupt i)
cause_of reply = None

-- what is reported of a trap of a hart, by its pc before it and the guest after it
abbrev pub fault_at : (hart pc : ℕ) → Guest → Cause → Fault
fault_at h pc g c =
    record { hart = h; cause = c; pc = pc; value = (hart_at h g.board).csrs.mtval; word = word_at pc g }

-- what is reported of a step if the guest turns out to have no handler: nothing if the step entered none
abbrev pub fault_of : Taken → Option Fault
fault_of t = option_map (fault_at t.hart (pc_of t.hart t.before) t.after) (cause_of t.reply)

-- the same of the latest step of a hart, if there is one, among steps of which the latest comes first
unfoldable pub latest_fault : (hart : ℕ) → (earlier : List Taken) → Option Fault
latest_fault h [] = None
latest_fault h (t ∷ earlier) = if t.hart == h then fault_of t else latest_fault h earlier

-- the fault that a step with this answer shows, by what is reported of its hart's latest step: none unless it traps
abbrev pub shown : BoardReply → (latest : Option Fault) → Option Fault
shown (Trapped e) latest = latest
shown reply latest = None

-- a fault, and how many steps were made up to and with the one that shows it
pub record Shown : Type 0 where
  pub steps : ℕ
  pub fault : Fault

-- a fault that was shown after this many steps, or else a later one
abbrev pub or_later : Option Fault → (steps : ℕ) → Option Shown → Option Shown
or_later (Some f) n later = Some (record { steps = n; fault = f })
or_later None n later = later

-- the first fault that steps show, after earlier ones of which the latest comes first
unfoldable pub first_fault : (earlier : List Taken) → List Taken → Option Shown
first_fault earlier [] = None
first_fault earlier (t ∷ ts) =
    or_later (shown t.reply (latest_fault t.hart earlier)) (length earlier + 1) (first_fault (t ∷ earlier) ts)
