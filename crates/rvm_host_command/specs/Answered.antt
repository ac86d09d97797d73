-- What a host answers to the lines that it is told.
use Rattle.std.specs.Io.BufRead.{drop_through, take_through}
use Rattle.std.specs.Io.KnownBytes.{Appends}
use Rattle.std.specs.Prelude.{◌≡◌, ◌≢◌, ◌⊎◌, ℕ, zero, suc, List, [], ◌∷◌, ◌++◌, codes, Option, IfSome}
use Rattle.rvm_refusal.specs.declared.refusal.Refusal.TheVariants.{TooLong}
use Rattle.rvm_refusal.specs.Refusal.{text_of}
use Rattle.rvm_host_command.specs.Lines.{IsLongLine, IsToldLine}
use Rattle.rvm_host_command.specs.declared.tell_command.Told.{Told}
use Rattle.rvm_host_command.specs.declared.tell_command.Told.TheVariants.{Done, NotDone}

-- the last line of an answer says whether what was asked happened
abbrev pub last_line : Told → List ℕ
last_line Done = codes "end 0\n"
last_line NotDone = codes "end 1\n"

-- a line is not the last one of an answer
pub record GoesOn (line : List ℕ) : Type 0 where
  pub not_done : line ≢ last_line Done
  pub not_undone : line ≢ last_line NotDone

-- these bytes begin with this many lines of an answer, and those come after them
abbrev pub AreBefore : (lines : ℕ) → (bytes after : List ℕ) → Type 0
AreBefore zero bytes after = after ≡ bytes
AreBefore (suc n) bytes after = GoesOn (take_through 10 bytes) × AreBefore n (drop_through 10 bytes) after

-- these bytes begin with an answer that says so, and those come after it
pub record Says (told : Told) (bytes after : List ℕ) : Type 0 where
  pub lines : ℕ
  pub last : List ℕ
  pub before : AreBefore lines bytes last
  pub says : take_through 10 last ≡ last_line told
  pub rest : after ≡ drop_through 10 last

-- these bytes begin with consecutive answers, which say so, and those come after them
abbrev pub AreAnswers : List Told → (bytes after : List ℕ) → Type 0
AreAnswers [] bytes after = after ≡ bytes
AreAnswers (t ∷ ts) bytes after = (between : List ℕ) × Says t bytes between × AreAnswers ts between after

-- these bytes begin with a line for each answer, none too long, and those come after them
abbrev pub AreLinesFor : List Told → (bytes after : List ℕ) → Type 0
AreLinesFor [] bytes after = after ≡ bytes
AreLinesFor (t ∷ ts) bytes after = IsToldLine bytes × AreLinesFor ts (drop_through 10 bytes) after

-- whether both happened
abbrev pub both_done : Told → Told → Told
both_done one Done = one
both_done one NotDone = NotDone

-- whether all happened
abbrev pub all_done : List Told → Told
all_done [] = Done
all_done (t ∷ ts) = both_done (all_done ts) t

-- each line was answered, and `told` says whether all happened
pub record AreAnswered (lines answers : Option (List ℕ)) (told : Told) : Type 0 where
  pub each : List Told
  pub asked : IfSome lines (λ bytes. AreLinesFor each bytes [])
  pub answered : IfSome answers (λ bytes. (after : List ℕ) × AreAnswers each bytes after)
  pub says : told ≡ all_done each

-- what was written stands after what was there before
abbrev pub Grows : (before now : Option (List ℕ)) → Type 0
Grows before now = (written : List ℕ) × Appends before now written

-- each line before one that is too long was answered, and that one was refused, which was written last
pub record IsCutShort (lines answers before shown : Option (List ℕ)) : Type 0 where
  pub each : List Told
  pub asked : IfSome lines (λ bytes. (after : List ℕ) × AreLinesFor each bytes after × IsLongLine after)
  pub answered : IfSome answers (λ bytes. (after : List ℕ) × AreAnswers each bytes after)
  pub written : List ℕ
  pub reported : Appends before shown (written ++ (text_of TooLong ++ codes "\n"))

-- each line was answered, and `told` says whether all happened; or one was too long, and then not all happened
abbrev pub HasTold : (lines answers before shown : Option (List ℕ)) → Told → Type 0
HasTold lines answers before shown Done = AreAnswered lines answers Done
HasTold lines answers before shown NotDone = AreAnswered lines answers NotDone ⊎ IsCutShort lines answers before shown
