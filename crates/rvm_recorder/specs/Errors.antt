-- When a recorder refuses, and the number of each refusal.
use Rattle.std.specs.Prelude.{◌≡◌, ℕ, ◌+◌, ◌<◌, ◌≤◌}
use Rattle.rvm_recorder.specs.declared.error.RecordError.{RecordError}
use Rattle.rvm_recorder.specs.declared.error.RecordError.TheVariants as record_error
use Rattle.rvm_recorder.specs.declared.error.SliceError.{SliceError}
use Rattle.rvm_recorder.specs.declared.error.SliceError.TheVariants as slice_error
use Rattle.rvm_refusal.specs.declared.refusal.Refusal.{Refusal}
use Rattle.rvm_refusal.specs.declared.refusal.Refusal.TheVariants.{OutOfMemory, OutOfRange, RecorderFull}

-- the number of each refusal of an event, or of room for more
abbrev pub record_refusal : RecordError → Refusal
record_refusal record_error.OutOfMemory = OutOfMemory
record_refusal (record_error.RecorderFull n) = RecorderFull

-- the number of each refusal of a slice
abbrev pub slice_refusal : SliceError → Refusal
slice_refusal slice_error.OutOfRange = OutOfRange
slice_refusal slice_error.OutOfMemory = OutOfMemory
slice_refusal (slice_error.RecorderFull n) = RecorderFull

-- an event is refused as full exactly if a journal of this many entries takes no more
abbrev pub IsRecordError : RecordError → (count capacity : ℕ) → Type 0
IsRecordError record_error.OutOfMemory count capacity = count < capacity
IsRecordError (record_error.RecorderFull c) count capacity = (c ≡ capacity) × (count ≡ capacity)

-- room for n more entries is refused as full exactly if fewer than n places are free
abbrev pub IsReserveError : RecordError → (count n capacity : ℕ) → Type 0
IsReserveError record_error.OutOfMemory count n capacity = count + n ≤ capacity
IsReserveError (record_error.RecorderFull c) count n capacity = (c ≡ capacity) × (capacity < count + n)

-- 1 to 64 steps, of 1 to 8 harts
abbrev pub IsSized : (harts n : ℕ) → Type 0
IsSized harts n = (1 ≤ harts) × (harts ≤ 8) × (1 ≤ n) × (n ≤ 64)

-- a slice is refused as out of range exactly if it does not have 1 to 64 steps of 1 to 8 harts, and else as full
-- exactly if no place is free
abbrev pub IsSliceError : SliceError → (harts n count capacity : ℕ) → Type 0
IsSliceError slice_error.OutOfRange harts n count capacity = IsSized harts n → ⊥
IsSliceError slice_error.OutOfMemory harts n count capacity = IsSized harts n × (count < capacity)
IsSliceError (slice_error.RecorderFull c) harts n count capacity =
    IsSized harts n × (c ≡ capacity) × (count ≡ capacity)
