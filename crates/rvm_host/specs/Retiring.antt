-- Steps of harts in turn at a host.
use Rattle.std.specs.Prelude.{◌≡◌, ℕ, zero, suc, ◌+◌, ◌%◌, ◌<◌, ◌≤◌, true, Option, Some, None, is_some}
use Rattle.rvm_hart.specs.declared.outcome.Stepped.{Stepped}
use Rattle.rvm_hart.specs.declared.outcome.Stepped.TheVariants.{Retired}
use Rattle.rvm_board.specs.declared.retiring.Retired as told
use Rattle.rvm_board.specs.Guest.{Guest, GuestState}
use Rattle.rvm_board.specs.Retiring.{RetiresThen}
use Rattle.rvm_message.specs.declared.step.StepReply.TheVariants as step
use Rattle.rvm_message.specs.Events.{event_of}
use Rattle.rvm_message.specs.Exchanges.{step_of_hart}
use Rattle.rvm_message.specs.Steps.{reply_to_step}
use Rattle.rvm_source.specs.Retiring.{SourceRetires}
use Rattle.rvm_source.specs.Sources.{PlainSource}
use Rattle.rvm_host.specs.Hosts.{PlainHost, Steps}
use Rattle.rvm_host.specs.Modes.{PlainMode, Empty, Run, Leaving, Given, Staging, Held}

-- a host answers the step of hart h with this reply
abbrev pub IsStep : (h : ℕ) → Stepped → (old new : PlainHost) → Type 0
IsStep h s old new = Steps old (event_of (step_of_hart h)) (reply_to_step (step.Stepped s), None) new

-- n steps of this many harts in turn, from this turn on, each of which retired an instruction
abbrev pub AreRetired : (harts n turn : ℕ) → (old new : PlainHost) → Type 0
AreRetired harts zero turn old new = new ≡ old
AreRetired harts (suc n) turn old new =
    (between : PlainHost) × (IsStep (turn % harts) Retired old between) × AreRetired harts n (turn + 1) between new

-- the step of hart h that was made after these, if one was
abbrev pub IsLast : (h : ℕ) → Option Stepped → (old new : PlainHost) → Type 0
IsLast h None old new = new ≡ old
IsLast h (Some s) old new = IsStep h s old new

-- a host made at most this many steps, each of which retired an instruction, except perhaps the last
pub record HostRetires (harts turn count : ℕ) (old new : PlainHost) (made : told.Retired) : Type 0 where
  pub between : PlainHost
  pub few : made.count ≤ count
  pub fewer : is_some made.last ≡ true → made.count < count
  pub retired : AreRetired harts made.count turn old between
  pub last : IsLast ((turn + made.count) % harts) made.last between new

-- the guest that runs here made these steps
pub record RunRetires (harts turn count move : ℕ) (guest : Guest) (new : PlainMode) (made : told.Retired) : Type 0 where
  pub from : GuestState
  pub to : GuestState
  pub from_is : from.guest ≡ guest
  pub to_is : new ≡ Run move to.guest
  pub retired : RetiresThen harts turn count from to made

-- the guest that is being moved made these steps
pub record LeavingRetires (harts turn count : ℕ) (s : PlainSource) (new : PlainMode) (made : told.Retired) : Type 0 where
  pub to : PlainSource
  pub to_is : new ≡ Leaving to
  pub retired : SourceRetires harts turn count s to made

-- no step was made, since no guest runs here
abbrev pub MakesNone : (old new : PlainMode) → told.Retired → Type 0
MakesNone old new made = (new ≡ old) × (made ≡ record { count = 0; last = None })

-- the steps that are made in each mode
abbrev pub ModeRetires : (harts turn count : ℕ) → (old new : PlainMode) → told.Retired → Type 0
ModeRetires harts turn count (Run k g) new made = RunRetires harts turn count k g new made
ModeRetires harts turn count (Leaving s) new made = LeavingRetires harts turn count s new made
ModeRetires harts turn count (Empty k) new made = MakesNone (Empty k) new made
ModeRetires harts turn count (Given k kept) new made = MakesNone (Given k kept) new made
ModeRetires harts turn count (Staging k s) new made = MakesNone (Staging k s) new made
ModeRetires harts turn count (Held k g) new made = MakesNone (Held k g) new made
