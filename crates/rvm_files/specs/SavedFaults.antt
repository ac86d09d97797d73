-- What is wrong with a saved guest, for which refusal, and what a report says of it.
use Rattle.std.specs.Prelude.{◌≡◌, ℕ, List, ◌∷◌, codes}
use Rattle.rvm_refusal.specs.declared.refusal.Refusal.{Refusal}
use Rattle.rvm_refusal.specs.declared.refusal.Refusal.TheVariants as refusal
use Rattle.rvm_files.specs.declared.saved_fault.SavedFault.{SavedFault}
use Rattle.rvm_files.specs.declared.saved_fault.SavedFault.TheVariants.{CutOff, NoFrame, LongFrame}

-- a file is read as a saved guest: it begins with a byte 0
abbrev pub BeginsSaved : (file : List ℕ) → Type 0
BeginsSaved file = (rest : List ℕ) × (file ≡ 0 ∷ rest)

-- the refusal of a run of a saved guest that has this fault
abbrev pub saved_refusal : SavedFault → Refusal
saved_refusal CutOff = refusal.Truncated
saved_refusal NoFrame = refusal.BadFrame
saved_refusal LongFrame = refusal.TooLong

-- what a report says of it
abbrev pub saved_words : SavedFault → List ℕ
saved_words CutOff = codes "this begins with a byte 0, so it is read as a saved guest, and was cut off: plain bytes want --raw"
saved_words NoFrame = codes "this begins with a byte 0, so it is read as a saved guest, and was changed: plain bytes want --raw"
saved_words LongFrame = codes "this begins with a byte 0, so it is read as a saved guest, and was changed: plain bytes want --raw"
