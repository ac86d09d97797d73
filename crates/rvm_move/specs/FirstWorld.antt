-- The world in which a script begins.
use Rattle.std.specs.Prelude.{ℕ, List, Option, Some, None, replicate}
use Rattle.rvm_arguments.specs.declared.arguments.ScriptArguments.{ScriptArguments}
use Rattle.rvm_host.specs.Hosts.{version_of}
use Rattle.rvm_board.specs.Guest.{Guest}
use Rattle.rvm_guest.specs.TheGuest.{board}
use Rattle.rvm_protocol.specs.Told.{at_start}
use Rattle.rvm_protocol.specs.World.{new_world}
use Rattle.rvm_core.specs.Worlds.{limit_at}
use Rattle.rvm_core.specs.Runs.{standing}
use Rattle.rvm_core.specs.WorldScript.{Standing}

-- the limits of hosts, each of which takes a guest of any size
abbrev pub limits_of : (hosts : ℕ) → List ℕ
limits_of hosts = replicate hosts 4096

-- the version that is given, or else the one that this many hosts speak
abbrev pub version_if : (given : Option ℕ) → (hosts : ℕ) → ℕ
version_if (Some version) hosts = version
version_if None hosts = version_of hosts

-- the version of the stream that the hosts of a script speak
abbrev pub version_asked : ScriptArguments → ℕ
version_asked a = version_if a.stream a.hosts

-- the standing in which a script begins: the first host has the guest, no other has one, and nothing was sent
abbrev pub at_first : (version hosts : ℕ) → Guest → Standing
at_first version hosts g = standing (new_world board version 0 g hosts (limit_at (limits_of hosts))) (at_start 0 g)
