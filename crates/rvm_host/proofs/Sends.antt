-- A host may be sent to another thread if its memory may.
use denote.RattleType.{RattleType}
use denote.Enum.Declared.{shape}
use denote.Enum.Enum.{Enum}
use denote.Param.Send.{IsSend, sendable}
use Rattle.std.proofs.Crossing.{crosses}
use Rattle.circular_buffer.proofs.Crosses.{Cells-send, Deed-send}
use Rattle.rvm_mem.specs.declared.memory.Memory as Memory
use Rattle.rvm_mem.specs.contracts.page_set.PageSet as PageSet
use Rattle.rvm_dev.specs.contracts.devices.Devices as Devices
use Rattle.rvm_res.specs.contracts.reservations.Reservations as Reservations
use Rattle.rvm_hart.specs.contracts.hart.Hart as Hart
use Rattle.rvm_hart.specs.contracts.bus.Bus as Bus
use Rattle.rvm_board.specs.contracts.board.Board as Board
use Rattle.rvm_board.specs.contracts.breakpoints.Breakpoints as Breakpoints
use Rattle.rvm_board.specs.contracts.debugged.Debugged as Debugged
use Rattle.rvm_precopy.specs.contracts.rounds.Rounds as Rounds
use Rattle.rvm_source.specs.contracts.source.Source as Source
use Rattle.rvm_handover.specs.contracts.staging.Staging as Staging
use Rattle.rvm_host.specs.contracts.mode.Mode as Mode
use Rattle.rvm_host.specs.contracts.host.Host as Host

devices_send : IsSend Devices.the_row
devices_send = search (Cells-send, Deed-send, sendable, crosses) depth 60 fits 20000

reservations_send : IsSend Reservations.the_row
reservations_send = search (sendable, crosses) depth 40 fits 10000

bus_send : (M : RattleType) (g : Memory.Ghosts M.Denot) → IsSend M → IsSend (Bus.the_row M g)
bus_send M g s = search (devices_send, reservations_send, sendable, crosses) depth 40 fits 10000

hart_send : IsSend Hart.the_row
hart_send = search (sendable, crosses) depth 40 fits 10000

board_send : (M : RattleType) (g : Memory.Ghosts M.Denot) → IsSend M → IsSend (Board.the_row M g)
board_send M g s = search (bus_send, hart_send, sendable, crosses) depth 40 fits 10000

breakpoints_send : IsSend Breakpoints.the_row
breakpoints_send = search (sendable, crosses) depth 40 fits 10000

debugged_send : (M : RattleType) (g : Memory.Ghosts M.Denot) → IsSend M → IsSend (Debugged.the_row M g)
debugged_send M g s = search (board_send, breakpoints_send, sendable, crosses) depth 40 fits 10000

set_send : IsSend PageSet.the_row
set_send = search (sendable, crosses) depth 40 fits 10000

rounds_send : IsSend Rounds.the_row
rounds_send = search (set_send, sendable, crosses) depth 40 fits 10000

source_send : (M : RattleType) (g : Memory.Ghosts M.Denot) → IsSend M → IsSend (Source.the_row M g)
source_send M g s = search (debugged_send, rounds_send, sendable, crosses) depth 40 fits 10000

staging_send : (M : RattleType) (g : Memory.Ghosts M.Denot) → IsSend M → IsSend (Staging.the_row M g)
staging_send M g s = search (sendable, crosses) depth 40 fits 10000

mode_send : (M : RattleType) (g : Memory.Ghosts M.Denot) → IsSend M → IsSend (Enum (shape (Mode.the_type M g)))
mode_send M g s = search (debugged_send, source_send, staging_send, sendable, crosses) depth 40 fits 10000

pub host_send : (M : RattleType) (g : Memory.Ghosts M.Denot) → IsSend M → IsSend (Host.the_row M g)
host_send M g s = search (mode_send, sendable, crosses) depth 40 fits 10000
