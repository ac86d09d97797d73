-- The events that a line of a script can say, and the lines that make them.
use Rattle.std.specs.Prelude.{ℕ, ◌^◌, ◌<◌, ◌≤◌, List, [], ◌∷◌, length, Some}
use Rattle.hex.specs.Hex.{IsBytes}
use Rattle.rvm_board.specs.declared.event.BoardEvent.{BoardEvent}
use Rattle.rvm_board.specs.declared.event.BoardEvent.TheVariants as asked
use Rattle.rvm_core.specs.EventLines.{named}
use Rattle.rvm_message.specs.declared.event.Command.{Command}
use Rattle.rvm_message.specs.declared.event.Command.TheVariants as command
use Rattle.rvm_debug.specs.declared.line.Line.{Line}
use Rattle.rvm_debug.specs.declared.line.Line.TheVariants as guest
use Rattle.rvm_core.specs.declared.event.Event.{Event}
use Rattle.rvm_core.specs.declared.event.Event.TheVariants as event
use Rattle.rvm_core.specs.declared.world_line.Asked.{Asked}
use Rattle.rvm_core.specs.declared.world_line.Asked.TheVariants as host
use Rattle.rvm_core.specs.declared.world_line.WorldLine.{WorldLine}
use Rattle.rvm_core.specs.declared.world_line.WorldLine.TheVariants as line

-- an event of the guest can be said: a byte is a byte, there are 1 to 256 bytes, a register is x0 to x31 or pc, and
-- numbers are below 2^32
abbrev pub IsAskable : BoardEvent → Type 0
IsAskable (asked.Step h) = h < 2 ^ 32
IsAskable (asked.Input b) = b < 256
IsAskable (asked.Drain n) = n < 2 ^ 32
IsAskable (asked.Break a) = a < 2 ^ 32
IsAskable (asked.Clear a) = a < 2 ^ 32
IsAskable (asked.Regs h) = h < 2 ^ 32
IsAskable (asked.Mem a n) = (a < 2 ^ 32) × (n < 2 ^ 32)
IsAskable (asked.Dis a) = a < 2 ^ 32
IsAskable (asked.PokeReg h r v) = (h < 2 ^ 32) × (r ≤ 32) × (v < 2 ^ 32)
IsAskable (asked.PokeMem a bytes) = (a < 2 ^ 32) × (0 < length bytes) × (length bytes ≤ 256) × IsBytes bytes

-- a command to a host can be said: a target has a letter, and a policy has numbers below 2^32
abbrev pub IsTellable : Command → Type 0
IsTellable (command.Board e) = IsAskable e
IsTellable (command.Begin to p) =
    (to < 8) × (p.max_rounds < 2 ^ 32) × (p.min_left < 2 ^ 32) × (p.factor < 2 ^ 32)
IsTellable command.Copy = Unit {0}
IsTellable command.Resend = Unit {0}
IsTellable command.Abort = Unit {0}

-- an event of a world of this many hosts can be said: the host is there, and the place of a frame is below 2^32
abbrev pub IsSayable : (hosts : ℕ) → Event → Type 0
IsSayable n (event.At h c) = (h < n) × IsTellable c
IsSayable n (event.Deliver k) = k < 2 ^ 32

-- each of these events can be said
abbrev pub AreSayable : (hosts : ℕ) → List Event → Type 0
AreSayable n [] = Unit {0}
AreSayable n (e ∷ es) = IsSayable n e × AreSayable n es

-- the line that makes one event of the guest
abbrev pub asking : BoardEvent → Line
asking (asked.Step h) = guest.Steps h 1
asking (asked.Input b) = guest.Input (b ∷ [])
asking e = guest.Ask e

-- what a line asks of a host, of this many, to give it a command
abbrev pub telling : (hosts told : ℕ) → Command → Asked
telling n h (command.Board e) = host.Guest (asking e)
telling n h (command.Begin to p) = host.Begin (named n h to) p
telling n h command.Copy = host.Copy
telling n h command.Resend = host.Resend
telling n h command.Abort = host.Abort

-- the line that makes one event of a world of this many hosts
abbrev pub line_making : (hosts : ℕ) → Event → WorldLine
line_making n (event.At h c) = line.Host (Some h) (telling n h c)
line_making n (event.Deliver k) = line.Deliver k
