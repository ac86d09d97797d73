-- How an extended session ended, and what stands then.
use Rattle.std.specs.Prelude.{◌≡◌, ◌⊎◌, ℕ, Bool, true, false, List, [], ◌∷◌, ◌++◌, Option, Some, None, Result, Ok, Err}
use Rattle.std.specs.Io.KnownBytes.{Appends}
use Rattle.rvm_mem.specs.Pages.{mark_all}
use Rattle.rvm_board.specs.Guest.{Guest, GuestState}
use Rattle.rvm_debug.specs.declared.script.ScriptError.{ScriptError}
use Rattle.rvm_debug.specs.declared.script.ScriptError.TheVariants.{OutOfMemory, TooLong, BadToken, LinkFault}
use Rattle.rvm_debug.specs.Runs.{HasAnswer, IsRun, Leaves}
use Rattle.rvm_debug.specs.Script.{Answers}
use Rattle.rvm_command.specs.declared.extended_line.ExtendedLine.{ExtendedLine}
use Rattle.rvm_command.specs.declared.extended_line.ExtendedLine.TheVariants.{Plain}
use Rattle.rvm_command.specs.ExtendedLines.{extended_line_of}
use Rattle.rvm_command.specs.ExtendedScript.{extended_done_by, session_of}

-- what a session answers from its first line on, before any turn
abbrev pub session_told : List (List ℕ) → Guest → Answers
session_told lines g = (session_of lines 1 0 g).told

-- a line has an answer, unless it is an empty line of a script
abbrev pub IsAnswered : ExtendedLine → Type 0
IsAnswered (Plain l) = HasAnswer l
IsAnswered l = Unit {0}

-- the last of these lines has an answer
pub record EndsAnswered (done : List (List ℕ)) : Type 0 where
  pub first : List (List ℕ)
  pub last : List ℕ
  pub line : ExtendedLine
  pub whole : first ++ last ∷ [] ≡ done
  pub is_line : extended_line_of last ≡ Some line
  pub answered : IsAnswered line

-- the first lines were done, each to its end, and none of the others was begun; the answer to the last of them was not
-- written, or no line was done since the session was not read
pub record IsPartWay (lines : List (List ℕ)) (old new : GuestState) : Type 0 where
  pub done : List (List ℕ)
  pub left : List (List ℕ)
  pub whole : done ++ left ≡ lines
  pub on : (session_told done old.guest).end ≡ None
  pub last : (done ≡ []) ⊎ EndsAnswered done
  pub guest : new.guest ≡ (session_told done old.guest).guest
  pub dirty : new.dirty ≡ mark_all (session_told done old.guest).pages old.dirty

-- the lines of a session were done to its end, or up to a line that is not in the grammar, or up to an answer that was
-- not written; if the session was not read, no line was done
abbrev pub IsSession : Result (Unit {0}) ScriptError → (lines : List (List ℕ))
    → (old new : GuestState) → (before after : Option (List ℕ)) → Type 0
IsSession (Ok u) lines old new before after =
    let told = session_told lines old.guest in (told.end ≡ None) × Leaves told old new before after
IsSession (Err (BadToken n)) lines old new before after =
    let told = session_told lines old.guest in (told.end ≡ Some n) × Leaves told old new before after
IsSession (Err OutOfMemory) lines old new before after = (new ≡ old) × (after ≡ before)
IsSession (Err TooLong) lines old new before after = (new ≡ old) × (after ≡ before)
IsSession (Err LinkFault) lines old new before after = IsPartWay lines old new

-- the lines of an extended session, or else of a script, were done so
abbrev pub IsRunOf : (extended : Bool) → Result (Unit {0}) ScriptError → (lines : List (List ℕ))
    → (old new : GuestState) → (before after : Option (List ℕ)) → Type 0
IsRunOf true result lines old new before after = IsSession result lines old new before after
IsRunOf false result lines old new before after = IsRun result lines old new before after

-- a line was done after t turns, even if its answer was not written; or it is not in the grammar, and nothing was done
abbrev pub IsLineOf : Result ℕ ScriptError → (number t : ℕ) → Option ExtendedLine
    → (old new : GuestState) → (before after : Option (List ℕ)) → Type 0
IsLineOf (Ok turns) n t None old new before after = ⊥
IsLineOf (Ok turns) n t (Some l) old new before after =
    let d = extended_done_by l t old.guest in
    (turns ≡ d.turns)
    × (new.guest ≡ d.replied.guest)
    × (new.dirty ≡ mark_all d.replied.pages old.dirty)
    × Appends before after d.replied.text
IsLineOf (Err (BadToken k)) n t None old new before after = (k ≡ n) × (new ≡ old) × (after ≡ before)
IsLineOf (Err (BadToken k)) n t (Some l) old new before after = ⊥
IsLineOf (Err OutOfMemory) n t l old new before after = ⊥
IsLineOf (Err TooLong) n t l old new before after = ⊥
IsLineOf (Err LinkFault) n t None old new before after = ⊥
IsLineOf (Err LinkFault) n t (Some l) old new before after =
    let d = extended_done_by l t old.guest in
    IsAnswered l
    × (new.guest ≡ d.replied.guest)
    × (new.dirty ≡ mark_all d.replied.pages old.dirty)
