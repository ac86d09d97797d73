-- The refusals: their numbers and names.
use Rattle.std.specs.Prelude.{ℕ, List, ◌++◌, codes}
use Rattle.std.specs.Fmt.{decimal}
use Rattle.rvm_refusal.specs.declared.refusal.Refusal.{Refusal}
use Rattle.rvm_refusal.specs.declared.refusal.Refusal.TheVariants.{OutOfMemory, OutOfRange, BadSize, InputFull, BadHart, BadToken, UnknownName, OutOfReach, Defined, Overlap, BadMagic, NotRiscV32, Truncated, OutsideRam, TooMany, TooManyBreaks, BadFrame, TooLong, Failed, BadState, SeqSpent, NotHere, Paused, Busy, NoMove, EpochsSpent, Ignored, NoFrame, RecorderFull, Mismatch, LinkFault, NoOrder, BadHost}

-- the number that stands for a refusal in text
abbrev pub number_of : Refusal → ℕ
number_of OutOfMemory = 1
number_of OutOfRange = 2
number_of BadSize = 3
number_of InputFull = 4
number_of BadHart = 5
number_of BadToken = 6
number_of UnknownName = 7
number_of OutOfReach = 8
number_of Defined = 9
number_of Overlap = 10
number_of BadMagic = 11
number_of NotRiscV32 = 12
number_of Truncated = 13
number_of OutsideRam = 14
number_of TooMany = 15
number_of TooManyBreaks = 16
number_of BadFrame = 17
number_of TooLong = 18
number_of Failed = 19
number_of BadState = 20
number_of SeqSpent = 21
number_of NotHere = 22
number_of Paused = 23
number_of Busy = 24
number_of NoMove = 25
number_of EpochsSpent = 26
number_of Ignored = 27
number_of NoFrame = 28
number_of RecorderFull = 29
number_of Mismatch = 30
number_of LinkFault = 31
number_of NoOrder = 32
number_of BadHost = 33

-- the name of a refusal in text
abbrev pub name_of : Refusal → List ℕ
name_of OutOfMemory = codes "OutOfMemory"
name_of OutOfRange = codes "OutOfRange"
name_of BadSize = codes "BadSize"
name_of InputFull = codes "InputFull"
name_of BadHart = codes "BadHart"
name_of BadToken = codes "BadToken"
name_of UnknownName = codes "UnknownName"
name_of OutOfReach = codes "OutOfReach"
name_of Defined = codes "Defined"
name_of Overlap = codes "Overlap"
name_of BadMagic = codes "BadMagic"
name_of NotRiscV32 = codes "NotRiscV32"
name_of Truncated = codes "Truncated"
name_of OutsideRam = codes "OutsideRam"
name_of TooMany = codes "TooMany"
name_of TooManyBreaks = codes "TooManyBreaks"
name_of BadFrame = codes "BadFrame"
name_of TooLong = codes "TooLong"
name_of Failed = codes "Failed"
name_of BadState = codes "BadState"
name_of SeqSpent = codes "SeqSpent"
name_of NotHere = codes "NotHere"
name_of Paused = codes "Paused"
name_of Busy = codes "Busy"
name_of NoMove = codes "NoMove"
name_of EpochsSpent = codes "EpochsSpent"
name_of Ignored = codes "Ignored"
name_of NoFrame = codes "NoFrame"
name_of RecorderFull = codes "RecorderFull"
name_of Mismatch = codes "Mismatch"
name_of LinkFault = codes "LinkFault"
name_of NoOrder = codes "NoOrder"
name_of BadHost = codes "BadHost"

-- a refusal in text: `refused N NAME`
abbrev pub text_of : Refusal → List ℕ
text_of r = codes "refused " ++ decimal (number_of r) ++ codes " " ++ name_of r
