-- What a host of its world shows, and that its status is that of its end.
use Rattle.std.proofs.Common.{◌≡◌, ◌≢◌, ℕ, List, length, Option, Result, Ok, Err}
use Rattle.std.specs.Prelude.{IfOk}
use Rattle.rvm_arguments.specs.declared.arguments.HostArguments.{HostArguments}
use Rattle.rvm_board.specs.Guest.{GuestState}
use Rattle.rvm_station.specs.declared.host_harts.HartsEnd.{HartsEnd}
use Rattle.rvm_station.specs.declared.host_harts.HartsEnd.TheVariants.{ConsoleFault}
use Rattle.rvm_host_command.specs.Hosted.{HasBegun, HasWorked, IsGuestOf, IsHosted, IsHostedTo, IsMember, opening_of, status_told}

-- a host of its world, with its guest, worked until it came to its end
pub hosted : (a : HostArguments) (peers image : List ℕ) (world : List (List ℕ)) (number : ℕ) (guest : Option GuestState)
    (end : HartsEnd) (before now : Option (List ℕ)) → IsMember a.name.now peers world number → IsGuestOf a.guest image guest
    → HasWorked (opening_of guest number (length world)) end before now → IsHosted a peers image end before now
hosted a peers image world number guest end before now member guest_is worked = record {
  world = world;
  number = number;
  guest = guest;
  world_is = member.world_is;
  named = member.named;
  guest_is = guest_is;
  worked = worked;
}

pub hosted_to : {F : Type 0} (a : HostArguments) (peers image : List ℕ) (before now : Option (List ℕ))
    (ended : Result HartsEnd F) (status : ℕ) → IfOk ended (λ end. end ≢ ConsoleFault → IsHosted a peers image end before now)
    → status ≡ status_told a.verdict ended → (status ≢ 1 → HasBegun ended) → status ≢ 1
    → IsHostedTo a peers image status before now
hosted_to a peers image before now (Ok end) status worked told begun done = (end, told, worked (begun done))
hosted_to a peers image before now (Err fault) status worked told begun done = absurd (begun done)
