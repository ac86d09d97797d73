-- What a host shows of its guest.
use Rattle.std.specs.Prelude.{◌≡◌, Result}
use Rattle.rvm_board.specs.declared.snapshot.Snapshot.{Snapshot}
use Rattle.rvm_board.specs.Guest.{Guest}
use Rattle.rvm_host.specs.Hosts.{PlainHost}
use Rattle.rvm_host.specs.Looks.{asked_guest}
use Rattle.rvm_message.specs.declared.reply.HostRefusal.{HostRefusal}
use Rattle.rvm_source.specs.Looks.{IsLook}
use Rattle.rvm_station.specs.Events.{IsReached}

-- the guest to which a host that events reach from the opening host gives events, or why it refuses them
pub record IsShown (opening : PlainHost) (guest : Result Guest HostRefusal) : Type 0 where
  pub host : PlainHost
  pub reached : IsReached opening host
  pub shown : guest ≡ asked_guest host.mode

-- a look gave a snapshot of the guest that the host showed, or why the host refused to show it
pub record HasLooked (showed : Result Guest HostRefusal → Type 0) (seen : Result Snapshot HostRefusal) : Type 0 where
  pub guest : Result Guest HostRefusal
  pub shown : showed guest
  pub look : IsLook guest seen
