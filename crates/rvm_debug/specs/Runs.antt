-- How a script ended, and what stands then.
use Rattle.std.specs.Prelude.{◌≡◌, ◌⊎◌, ℕ, ◌^◌, ◌<◌, List, [], ◌∷◌, ◌++◌, length, Option, Some, None, Result, Ok, Err, IfSome}
use Rattle.std.specs.Io.KnownBytes.{Appends}
use Rattle.rvm_mem.specs.Pages.{mark_all}
use Rattle.rvm_refusal.specs.declared.refusal.Refusal.{Refusal}
use Rattle.rvm_refusal.specs.declared.refusal.Refusal.TheVariants as refusal
use Rattle.rvm_board.specs.Guest.{GuestState}
use Rattle.rvm_debug.specs.declared.script.ScriptError.{ScriptError}
use Rattle.rvm_debug.specs.declared.script.ScriptError.TheVariants.{OutOfMemory, TooLong, BadToken, LinkFault}
use Rattle.rvm_debug.specs.declared.line.Line.{Line}
use Rattle.rvm_debug.specs.declared.line.Line.TheVariants.{Empty}
use Rattle.rvm_debug.specs.Lines.{line_of}
use Rattle.rvm_debug.specs.Script.{Answers, done_by, script_of}

-- the answers were written, and the guest and its dirty log are what the lines leave
pub record Leaves (told : Answers) (old new : GuestState) (before after : Option (List ℕ))
    : Type 0 where
  pub guest : new.guest ≡ told.guest
  pub dirty : new.dirty ≡ mark_all told.pages old.dirty
  pub text : Appends before after told.text

-- a line has an answer, unless it is empty
abbrev pub HasAnswer : Line → Type 0
HasAnswer Empty = ⊥
HasAnswer l = Unit {0}

-- the last of these lines has an answer
pub record EndsAnswered (done : List (List ℕ)) : Type 0 where
  pub first : List (List ℕ)
  pub last : List ℕ
  pub line : Line
  pub whole : first ++ last ∷ [] ≡ done
  pub is_line : line_of last ≡ Some line
  pub answered : HasAnswer line

-- the first lines were done, each to its end, and none of the others was begun; the answer to the last of them was not
-- written, or no line was done since the script was not read
pub record IsPartWay (lines : List (List ℕ)) (old new : GuestState) : Type 0 where
  pub done : List (List ℕ)
  pub left : List (List ℕ)
  pub whole : done ++ left ≡ lines
  pub on : (script_of done 1 old.guest).end ≡ None
  pub last : (done ≡ []) ⊎ EndsAnswered done
  pub guest : new.guest ≡ (script_of done 1 old.guest).guest
  pub dirty : new.dirty ≡ mark_all (script_of done 1 old.guest).pages old.dirty

-- the lines of a script were done to its end, or up to a line that is not in the grammar, or up to an answer that was
-- not written; if the script was not read, no line was done
abbrev pub IsRun : Result (Unit {0}) ScriptError → (lines : List (List ℕ))
    → (old new : GuestState) → (before after : Option (List ℕ)) → Type 0
IsRun (Ok u) lines old new before after =
    let told = script_of lines 1 old.guest in (told.end ≡ None) × Leaves told old new before after
IsRun (Err (BadToken n)) lines old new before after =
    let told = script_of lines 1 old.guest in (told.end ≡ Some n) × Leaves told old new before after
IsRun (Err OutOfMemory) lines old new before after = (new ≡ old) × (after ≡ before)
IsRun (Err TooLong) lines old new before after = (new ≡ old) × (after ≡ before)
IsRun (Err LinkFault) lines old new before after = IsPartWay lines old new

-- no line of a script was done
abbrev pub IsUnread : Result (Unit {0}) ScriptError → Type 0
IsUnread (Ok u) = ⊥
IsUnread (Err (BadToken n)) = ⊥
IsUnread (Err OutOfMemory) = Unit {0}
IsUnread (Err TooLong) = Unit {0}
IsUnread (Err LinkFault) = Unit {0}

-- why a script can't be read: it has more than 2^26 bytes, memory ran out or a read failed
abbrev pub IsReadError : Option (List ℕ) → ScriptError → Type 0
IsReadError script TooLong = IfSome script (λ s. 2 ^ 26 < length s)
IsReadError script (BadToken n) = ⊥
IsReadError script OutOfMemory = Unit {0}
IsReadError script LinkFault = Unit {0}

-- why not all lines are done: one is not in the grammar, or a write failed
abbrev pub IsLineError : ScriptError → Type 0
IsLineError TooLong = ⊥
IsLineError OutOfMemory = ⊥
IsLineError (BadToken n) = Unit {0}
IsLineError LinkFault = Unit {0}

-- a line was done, even if its answer was not written; or it is not in the grammar, and nothing was done
abbrev pub IsLineRun : Result (Unit {0}) ScriptError → (number : ℕ) → Option Line
    → (old new : GuestState) → (before after : Option (List ℕ)) → Type 0
IsLineRun (Ok u) n None old new before after = ⊥
IsLineRun (Ok u) n (Some l) old new before after =
    (new.guest ≡ (done_by l old.guest).guest)
    × (new.dirty ≡ mark_all (done_by l old.guest).pages old.dirty)
    × Appends before after (done_by l old.guest).text
IsLineRun (Err (BadToken k)) n None old new before after = (k ≡ n) × (new ≡ old) × (after ≡ before)
IsLineRun (Err (BadToken k)) n (Some l) old new before after = ⊥
IsLineRun (Err OutOfMemory) n l old new before after = ⊥
IsLineRun (Err TooLong) n l old new before after = ⊥
IsLineRun (Err LinkFault) n None old new before after = ⊥
IsLineRun (Err LinkFault) n (Some l) old new before after =
    HasAnswer l
    × (new.guest ≡ (done_by l old.guest).guest)
    × (new.dirty ≡ mark_all (done_by l old.guest).pages old.dirty)

-- the error in the list of all refusals
abbrev pub refusal_of_error : ScriptError → Refusal
refusal_of_error OutOfMemory = refusal.OutOfMemory
refusal_of_error TooLong = refusal.TooLong
refusal_of_error (BadToken n) = refusal.BadToken
refusal_of_error LinkFault = refusal.LinkFault
