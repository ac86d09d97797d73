-- How runs fail.
use Rattle.std.proofs.Common.{◌≡◌, true, ap}
use Rattle.rvm_cell.specs.declared.end.WorkEnd.{WorkEnd}
use Rattle.rvm_cell.specs.declared.end.WorkEnd.TheVariants.{BadFrame, Done, Failed, GivenUp, GuestStopped, LinkEnded, LinkFault, NoThread, OutOfMemory, OutOfRange, RecorderFull, Stopped, TooLong}
use Rattle.rvm_cell.specs.Ends.{is_short_of_room, is_unsliced}
use Rattle.rvm_cell.specs.Turns.{fails_calling, fails_running}

-- a slice was refused
pub unsliced_fails : (end : WorkEnd) → is_unsliced end ≡ true → fails_calling end ≡ true
unsliced_fails Done is = absurd cc
unsliced_fails LinkEnded is = absurd cc
unsliced_fails GivenUp is = absurd cc
unsliced_fails Stopped is = absurd cc
unsliced_fails GuestStopped is = absurd cc
unsliced_fails NoThread is = absurd cc
unsliced_fails OutOfMemory is = is
unsliced_fails (RecorderFull n) is = is
unsliced_fails OutOfRange is = is
unsliced_fails LinkFault is = absurd cc
unsliced_fails BadFrame is = absurd cc
unsliced_fails TooLong is = absurd cc
unsliced_fails Failed is = absurd cc

-- there was no room
pub short_fails : (end : WorkEnd) → is_short_of_room end ≡ true → fails_calling end ≡ true
short_fails Done is = absurd cc
short_fails LinkEnded is = absurd cc
short_fails GivenUp is = absurd cc
short_fails Stopped is = absurd cc
short_fails GuestStopped is = absurd cc
short_fails NoThread is = absurd cc
short_fails OutOfMemory is = is
short_fails (RecorderFull n) is = is
short_fails OutOfRange is = absurd cc
short_fails LinkFault is = absurd cc
short_fails BadFrame is = absurd cc
short_fails TooLong is = absurd cc
short_fails Failed is = absurd cc

-- the worker was stopped at its gate
pub stopped_fails : (end : WorkEnd) → end ≡ Stopped → fails_calling end ≡ true
stopped_fails end is = ap fails_calling is

-- a run fails as its turns and drains do
pub calling_fails : (end : WorkEnd) → fails_calling end ≡ true → fails_running end ≡ true
calling_fails Done is = absurd cc
calling_fails LinkEnded is = absurd cc
calling_fails GivenUp is = absurd cc
calling_fails Stopped is = is
calling_fails GuestStopped is = is
calling_fails NoThread is = absurd cc
calling_fails OutOfMemory is = is
calling_fails (RecorderFull n) is = is
calling_fails OutOfRange is = is
calling_fails LinkFault is = absurd cc
calling_fails BadFrame is = absurd cc
calling_fails TooLong is = absurd cc
calling_fails Failed is = absurd cc

-- a run fails with its writer
pub writer_fails : (end : WorkEnd) → end ≡ LinkFault → fails_running end ≡ true
writer_fails end is = ap fails_running is
