-- What a live run shows, and what its status tells.
use Rattle.std.specs.Prelude.{◌≡◌, ◌≢◌, ℕ, true, List, is_some, Option, None, Some}
use Rattle.rvm_arguments.specs.declared.arguments.LiveArguments.{LiveArguments}
use Rattle.rvm_arguments.specs.declared.arguments.StatusOf.{StatusOf}
use Rattle.rvm_board.specs.Guest.{GuestState}
use Rattle.rvm_station.specs.declared.host_harts.HartsEnd.{HartsEnd}
use Rattle.rvm_station.specs.declared.host_harts.HartsEnd.TheVariants.{Stopped, Halted, Spent, ConsoleFault}
use Rattle.rvm_command.specs.declared.run.Ended.TheVariants.{HaltedWith, StepsSpent}
use Rattle.rvm_command.specs.Ends.{run_status}
use Rattle.rvm_host_command.specs.Hosted.{HasWorked, IsGuestOf, opening_of}

-- a live run began, and came to this end: its guest is the one of the image, or the saved guest, and began at the first of
-- two hosts; if its console could be written, the host worked until that end; and all turns were made that may be made
-- only if there is a limit of turns
pub record IsLiveRun (a : LiveArguments) (image : List ℕ) (end : HartsEnd) (before now : Option (List ℕ)) : Type 0 where
  pub guest : GuestState
  pub guest_is : IsGuestOf (Some a.guest) image (Some guest)
  pub worked : end ≢ ConsoleFault → HasWorked (opening_of (Some guest) 0 2) end before now
  pub limited : end ≡ Spent → is_some a.steps ≡ true

-- a live run came to this end, or did not begin; then nothing was written
abbrev pub IsLiveEnd : LiveArguments → (image : List ℕ) → Option HartsEnd → (before now : Option (List ℕ)) → Type 0
IsLiveEnd a image None before now = now ≡ before
IsLiveEnd a image (Some end) before now = IsLiveRun a image end before now

-- the status of a live run that came to this end, or did not begin: that of a run whose guest halted, or whose turns were
-- all made; and 1 if it broke off or did not begin
abbrev pub live_status : StatusOf → Option HartsEnd → ℕ
live_status asked (Some (Halted status)) = run_status asked (HaltedWith status)
live_status asked (Some Spent) = run_status asked StepsSpent
live_status asked (Some Stopped) = 1
live_status asked (Some ConsoleFault) = 1
live_status asked None = 1

-- a live run came to an end, or did not begin, and this is its status
abbrev pub IsLiveTo : LiveArguments → (image : List ℕ) → (status : ℕ) → (before now : Option (List ℕ)) → Type 0
IsLiveTo a image status before now =
    (end : Option HartsEnd) × (status ≡ live_status a.status end) × IsLiveEnd a image end before now
