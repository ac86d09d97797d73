-- How a world's script ended, and the world that it leaves.
use Rattle.std.specs.Prelude.{◌≡◌, ◌⊎◌, ℕ, ◌+◌, List, [], ◌∷◌, ◌++◌, length, codes, Option, Some, None, Result, Ok, Err}
use Rattle.std.specs.Io.KnownBytes.{Appends}
use Rattle.std.specs.Fmt.{decimal}
use Rattle.rvm_board.specs.declared.event.BoardReply.{BoardReply}
use Rattle.rvm_board.specs.Guest.{Guest}
use Rattle.rvm_message.specs.Replies.{refusal_of}
use Rattle.rvm_precopy.specs.Policies.{policy_of}
use Rattle.rvm_protocol.specs.Replies.{Refused, Reply}
use Rattle.rvm_protocol.specs.Told.{Told}
use Rattle.rvm_debug.specs.Runs.{HasAnswer}
use Rattle.rvm_core.specs.Driving.{WasLeft}
use Rattle.rvm_core.specs.declared.drive.Driven.{Driven}
use Rattle.rvm_core.specs.declared.drive.Driven.TheVariants as driven
use Rattle.rvm_core.specs.Worlds.{BoardWorld}
use Rattle.rvm_core.specs.declared.world_line.Asked.{Asked}
use Rattle.rvm_core.specs.declared.world_line.Asked.TheVariants as asked
use Rattle.rvm_core.specs.declared.world_line.WorldLine.{WorldLine}
use Rattle.rvm_core.specs.declared.world_line.WorldLine.TheVariants as lines
use Rattle.rvm_core.specs.Replies.{guest_text, move_text}
use Rattle.rvm_core.specs.WorldLines.{world_line_of}
use Rattle.rvm_core.specs.declared.script_lines.LineFault.{LineFault}
use Rattle.rvm_core.specs.declared.script_lines.LineFault.TheVariants as fault
use Rattle.rvm_core.specs.declared.script.WorldScriptError.{WorldScriptError}
use Rattle.rvm_core.specs.declared.script.WorldScriptError.TheVariants.{OutOfMemory, LineOutOfMemory, TooLong, BadToken, LinkFault}
use Rattle.rvm_core.specs.WorldScript.{Replied, Standing, done_by, host_in, target, world_script_of}

-- memory ran out at what was asked of host x: the first events of a whole move were made, none of any other command,
-- and a line for the guest takes no memory
abbrev pub IsSpentAsking : (x : ℕ) → Asked → (s : Standing) → (new : BoardWorld) → Type 0
IsSpentAsking x (asked.Guest l) s new = ⊥
IsSpentAsking x (asked.Begin to p) s new = new ≡ s.world
IsSpentAsking x (asked.Move to p) s new = WasLeft s.world new x (target x to) (policy_of p)
IsSpentAsking x asked.Copy s new = new ≡ s.world
IsSpentAsking x asked.Resend s new = new ≡ s.world
IsSpentAsking x asked.Abort s new = new ≡ s.world

-- memory ran out in this line
abbrev pub IsSpentIn : Option WorldLine → (s : Standing) → (new : BoardWorld) → Type 0
IsSpentIn None s new = ⊥
IsSpentIn (Some lines.Empty) s new = ⊥
IsSpentIn (Some (lines.Host host a)) s new = IsSpentAsking (host_in host s) a s new
IsSpentIn (Some (lines.Deliver k)) s new = new ≡ s.world

-- memory may run out in this line: an empty line and one for the guest take none
abbrev pub AsksMemory : Option WorldLine → Type 0
AsksMemory None = ⊥
AsksMemory (Some lines.Empty) = ⊥
AsksMemory (Some (lines.Host host (asked.Guest l))) = ⊥
AsksMemory (Some (lines.Host host a)) = Unit {0}
AsksMemory (Some (lines.Deliver k)) = Unit {0}

-- memory may run out in the line of these bytes, if the script stands here before it
abbrev pub AsksMemoryIn : (line : List ℕ) → Standing → Type 0
AsksMemoryIn line s = AsksMemory (world_line_of s.world.count line)

-- what is asked of a host has an answer
abbrev pub IsToldOfHost : Asked → Type 0
IsToldOfHost (asked.Guest l) = HasAnswer l
IsToldOfHost a = Unit {0}

-- a line has an answer, unless it is empty
abbrev pub IsAnswered : Option WorldLine → Type 0
IsAnswered None = ⊥
IsAnswered (Some lines.Empty) = ⊥
IsAnswered (Some (lines.Host host a)) = IsToldOfHost a
IsAnswered (Some (lines.Deliver k)) = Unit {0}

-- the last of these lines has an answer
pub record EndsAnswered (done : List (List ℕ)) (s : Standing) : Type 0 where
  pub first : List (List ℕ)
  pub last : List ℕ
  pub whole : first ++ last ∷ [] ≡ done
  pub answered : IsAnswered (world_line_of (world_script_of first 1 s).standing.world.count last)

-- some of the first lines were done, each to its end, and none of the others was begun; the answer to the last was not
-- written, or none was done, since the script could not be read
pub record IsPartWay (lines : List (List ℕ)) (s : Standing) (new : BoardWorld) : Type 0 where
  pub done : List (List ℕ)
  pub left : List (List ℕ)
  pub whole : done ++ left ≡ lines
  pub on : (world_script_of done 1 s).end ≡ None
  pub world : new ≡ (world_script_of done 1 s).standing.world
  pub last : (done ≡ []) ⊎ EndsAnswered done s

-- memory ran out in the line with this number; those before it were done, and their answers were written
pub record IsSpent (n : ℕ) (lines : List (List ℕ)) (s : Standing) (new : BoardWorld) (before after : Option (List ℕ))
    : Type 0 where
  pub done : List (List ℕ)
  pub line : List ℕ
  pub left : List (List ℕ)
  pub whole : done ++ line ∷ left ≡ lines
  pub number : length done + 1 ≡ n
  pub on : (world_script_of done 1 s).end ≡ None
  pub spent : let d = (world_script_of done 1 s).standing in IsSpentIn (world_line_of d.world.count line) d new
  pub text : Appends before after (world_script_of done 1 s).text

-- the lines of a script were done to its end, or up to a line that is not in the grammar, for which memory ran out, or
-- whose answer could not be written; if the script could not be read, none was done
abbrev pub IsWorldRun : Result (Unit {0}) WorldScriptError → (lines : List (List ℕ)) → (s : Standing)
    → (new : BoardWorld) → (before after : Option (List ℕ)) → Type 0
IsWorldRun (Ok u) lines s new before after =
    let a = world_script_of lines 1 s in (a.end ≡ None) × (new ≡ a.standing.world) × Appends before after a.text
IsWorldRun (Err (BadToken n)) lines s new before after =
    let a = world_script_of lines 1 s in (a.end ≡ Some n) × (new ≡ a.standing.world) × Appends before after a.text
IsWorldRun (Err (LineOutOfMemory n)) lines s new before after = IsSpent n lines s new before after
IsWorldRun (Err OutOfMemory) lines s new before after = (new ≡ s.world) × (after ≡ before)
IsWorldRun (Err TooLong) lines s new before after = (new ≡ s.world) × (after ≡ before)
IsWorldRun (Err LinkFault) lines s new before after = IsPartWay lines s new

-- no line of a script was done
abbrev pub IsUnread : Result (Unit {0}) WorldScriptError → Type 0
IsUnread (Err OutOfMemory) = Unit {0}
IsUnread (Err TooLong) = Unit {0}
IsUnread (Err LinkFault) = Unit {0}
IsUnread r = ⊥

-- the error is one that stops a script at a line
abbrev pub IsLineError : WorldScriptError → Type 0
IsLineError OutOfMemory = ⊥
IsLineError TooLong = ⊥
IsLineError e = Unit {0}

-- where a script stands: a world, and what its replies told
abbrev pub standing : BoardWorld → Told Guest → Standing
standing w t = record { world = w; told = t }

-- all events of a line were made, and its answer was written, or the write failed; or memory ran out before the answer
abbrev pub IsDone : Result (Unit {0}) LineFault → Replied → (spent : Type 0) → (new : BoardWorld)
    → (before after : Option (List ℕ)) → Type 0
IsDone (Ok u) r spent new before after = (new ≡ r.standing.world) × Appends before after r.text
IsDone (Err fault.OutOfMemory) r spent new before after = spent × (after ≡ before)
IsDone (Err fault.LinkFault) r spent new before after = new ≡ r.standing.world

-- line n was done; or it is not in the grammar, and nothing was; or memory ran out in it, or its answer was not written
abbrev pub IsLineRun : Result (Unit {0}) WorldScriptError → (n : ℕ) → Option WorldLine → (s : Standing)
    → (new : BoardWorld) → (before after : Option (List ℕ)) → Type 0
IsLineRun (Ok u) n None s new before after = ⊥
IsLineRun (Ok u) n (Some l) s new before after = IsDone (Ok u) (done_by l s) ⊥ new before after
IsLineRun (Err (BadToken k)) n None s new before after = (k ≡ n) × (new ≡ s.world) × (after ≡ before)
IsLineRun (Err (BadToken k)) n (Some l) s new before after = ⊥
IsLineRun (Err (LineOutOfMemory k)) n None s new before after = ⊥
IsLineRun (Err (LineOutOfMemory k)) n (Some l) s new before after =
    (k ≡ n) × IsDone (Err fault.OutOfMemory) (done_by l s) (IsSpentIn (Some l) s new) new before after
IsLineRun (Err LinkFault) n None s new before after = ⊥
IsLineRun (Err LinkFault) n (Some l) s new before after =
    IsAnswered (Some l) × IsDone (Err fault.LinkFault) (done_by l s) ⊥ new before after
IsLineRun (Err OutOfMemory) n l s new before after = ⊥
IsLineRun (Err TooLong) n l s new before after = ⊥

-- the text of the answer to a whole move
abbrev pub driven_text : Driven → List ℕ
driven_text (driven.Moved n events) = codes "moved " ++ decimal n ++ codes " events " ++ decimal events ++ codes "\n"
driven_text (driven.Declined limit) = codes "declined " ++ decimal limit ++ codes "\n"
driven_text (driven.Refused why) = move_text (Refused (refusal_of why)) None

-- the world that bytes of input leave, and the text of the reply to the last one
pub record IsInput (r : Replied) (new : BoardWorld) (last : Reply BoardReply) : Type 0 where
  pub world : new ≡ r.standing.world
  pub text : guest_text None last ≡ r.text
