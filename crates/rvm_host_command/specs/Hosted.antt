-- What a host process shows.
use Rattle.std.specs.Prelude.{◌≡◌, ◌≢◌, ◌<◌, ℕ, zero, suc, Bool, if◌then◌else◌, List, true, length, Option, None, Some, Result, Ok, Err}
use Rattle.rvm_arguments.specs.declared.arguments.GuestArguments.{GuestArguments}
use Rattle.rvm_arguments.specs.declared.arguments.HostArguments.{HostArguments}
use Rattle.rvm_command.specs.GuestFiles.{IsGuestIn}
use Rattle.rvm_host.specs.Hosts.{PlainHost, new_host}
use Rattle.rvm_board.specs.Guest.{GuestState}
use Rattle.rvm_station.specs.Events.{IsAnswer}
use Rattle.rvm_station.specs.Console.{IsShown}
use Rattle.rvm_station.specs.Halts.{EndsSo}
use Rattle.rvm_station.specs.declared.host_harts.HartsEnd.{HartsEnd}
use Rattle.rvm_station.specs.declared.host_harts.HartsEnd.TheVariants.{Stopped, Halted, Spent, ConsoleFault}
use Rattle.rvm_link.specs.Peers.{is_letter_of, peers_in}
use Rattle.rvm_debug.specs.Words.{lines}

-- the host of a process at its start, with this guest or none: its number, and how many hosts the world has
abbrev pub opening_of : Option GuestState → (id count : ℕ) → PlainHost
opening_of guest id count = new_host guest id count 4096 3

-- this guest, or none, is the one that begins at a host with this image, or this saved guest
abbrev pub IsGuestOf : Option GuestArguments → (image : List ℕ) → Option GuestState → Type 0
IsGuestOf None image guest = guest ≡ None
IsGuestOf (Some a) image None = ⊥
IsGuestOf (Some a) image (Some g) = IsGuestIn a.raw a.harts a.pages image g.guest

-- the host with this number, among this many, has this name
abbrev pub IsNamed : (name : List ℕ) → (count number : ℕ) → Type 0
IsNamed name count number = (number < count) × (is_letter_of number name ≡ true)

-- the file of peers names this world, whose host with this number has this name
pub record IsMember (name peers : List ℕ) (world : List (List ℕ)) (number : ℕ) : Type 0 where
  pub world_is : peers_in (lines peers) ≡ Some world
  pub named : IsNamed name (length world) number

-- the console shows what drains took of hosts that events reach from the opening host
abbrev pub IsShownBy : (opening : PlainHost) → (before now : Option (List ℕ)) → Type 0
IsShownBy opening before now = IsShown (IsAnswer opening) None None before now

-- a host worked until it came to this end: its console shows what drains took, and if it ended since the guest is
-- halted, a host that events reach from the opening host replied so
pub record HasWorked (opening : PlainHost) (end : HartsEnd) (before now : Option (List ℕ)) : Type 0 where
  pub shown : IsShownBy opening before now
  pub halted : EndsSo (IsAnswer opening) end

-- a host worked until it came to this end, and its console shows what the guest sent while it was here: the world is
-- the one that the file of peers names, the host is the one with its name there, and it began with the guest of the
-- image, or the saved guest, if one was given
pub record IsHosted (a : HostArguments) (peers image : List ℕ) (end : HartsEnd) (before now : Option (List ℕ)) : Type 0 where
  pub world : List (List ℕ)
  pub number : ℕ
  pub guest : Option GuestState
  pub world_is : peers_in (lines peers) ≡ Some world
  pub named : IsNamed a.name.now (length world) number
  pub guest_is : IsGuestOf a.guest image guest
  pub worked : HasWorked (opening_of guest number (length world)) end before now

-- the status of a host that ended so: if a verdict is asked for, 3 if the guest halted here with a status other than 0. A
-- host has no limit of turns; one that had spent them would be as one that was stopped
abbrev pub host_status : (verdict : Bool) → HartsEnd → ℕ
host_status verdict Stopped = 0
host_status verdict (Halted zero) = 0
host_status verdict (Halted (suc n)) = if verdict then 3 else 0
host_status verdict Spent = 0
host_status verdict ConsoleFault = 1

-- the status of a host that ended so, and 1 if it did not begin
abbrev pub status_told : {F : Type 0} → (verdict : Bool) → Result HartsEnd F → ℕ
status_told verdict (Ok end) = host_status verdict end
status_told verdict (Err fault) = 1

-- a host worked until it was ended, and wrote all that it had to write
abbrev pub HasBegun : {F : Type 0} → Result HartsEnd F → Type 0
HasBegun (Ok end) = end ≢ ConsoleFault
HasBegun (Err fault) = ⊥

-- a host worked until it came to an end that has this status
abbrev pub IsHostedTo : HostArguments → (peers image : List ℕ) → (status : ℕ) → (before now : Option (List ℕ)) → Type 0
IsHostedTo a peers image status before now =
    (end : HartsEnd) × (status ≡ host_status a.verdict end) × IsHosted a peers image end before now
