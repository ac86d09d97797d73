-- How a worker ends if a call, a slice, a reader or a sending end refuses.
use Rattle.std.specs.Prelude.{Bool, true, false}
use Rattle.rvm_frame.specs.declared.fault.FrameFault.{FrameFault}
use Rattle.rvm_frame.specs.declared.fault.FrameFault.TheVariants as fault
use Rattle.rvm_recorder.specs.declared.error.RecordError.{RecordError}
use Rattle.rvm_recorder.specs.declared.error.RecordError.TheVariants as record_error
use Rattle.rvm_recorder.specs.declared.error.SliceError.{SliceError}
use Rattle.rvm_recorder.specs.declared.error.SliceError.TheVariants as slice_error
use Rattle.rvm_link.specs.declared.error.SendError.{SendError}
use Rattle.rvm_link.specs.declared.error.SendError.TheVariants as send_error
use Rattle.rvm_cell.specs.declared.end.WorkEnd.{WorkEnd}
use Rattle.rvm_cell.specs.declared.end.WorkEnd.TheVariants.{BadFrame, Failed, LinkFault, OutOfMemory, OutOfRange, RecorderFull, TooLong}

-- how a worker ends if its call could not be recorded
abbrev pub of_record : RecordError → WorkEnd
of_record record_error.OutOfMemory = OutOfMemory
of_record (record_error.RecorderFull n) = RecorderFull n

-- how a worker ends if its slice was refused
abbrev pub of_slice : SliceError → WorkEnd
of_slice slice_error.OutOfRange = OutOfRange
of_slice slice_error.OutOfMemory = OutOfMemory
of_slice (slice_error.RecorderFull n) = RecorderFull n

-- how a worker ends if it could not read a frame
abbrev pub of_frame : FrameFault → WorkEnd
of_frame fault.OutOfMemory = OutOfMemory
of_frame fault.BadFrame = BadFrame
of_frame fault.TooLong = TooLong
of_frame fault.Failed = Failed

-- how a worker ends if it could not send a frame
abbrev pub of_send : SendError → WorkEnd
of_send send_error.OutOfMemory = OutOfMemory
of_send send_error.LinkFault = LinkFault
of_send send_error.BadFrame = BadFrame

-- memory ran out, or a journal is full
abbrev pub is_short_of_room : WorkEnd → Bool
is_short_of_room OutOfMemory = true
is_short_of_room (RecorderFull n) = true
is_short_of_room e = false

-- no slice has this many steps, memory ran out, or a journal is full
abbrev pub is_unsliced : WorkEnd → Bool
is_unsliced OutOfRange = true
is_unsliced e = is_short_of_room e
