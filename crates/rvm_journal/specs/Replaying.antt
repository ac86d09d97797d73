-- A journal that is read: a recorded host does what its lines tell.
use Rattle.std.specs.Prelude.{◌≡◌, ◌⊎◌, ⊤, ℕ, ◌+◌, ◌-◌, ◌<◌, ◌≤◌, Bool, if◌then◌else◌, List, [], ◌∷◌, ◌++◌, codes, length, take, Option, Some, None}
use Rattle.std.specs.Fmt.{decimal}
use Rattle.std.specs.Str.{bytes_eq}
use Rattle.rvm_debug.specs.Words.{lines}
use Rattle.rvm_message.specs.declared.event.HostEvent.{HostEvent}
use Rattle.rvm_journal.specs.declared.replay_error.ReplayError.{ReplayError}
use Rattle.rvm_journal.specs.declared.replay_error.ReplayError.TheVariants as replay_error
use Rattle.rvm_recorder.specs.History.{Recording, count_of}
use Rattle.rvm_journal.specs.Recorders.{Records, room_of}
use Rattle.rvm_journal.specs.declared.noted.Noted.{Noted}
use Rattle.rvm_journal.specs.declared.noted.Noted.TheVariants.{Turns, Command as Commanded, Came, Met, End}
use Rattle.rvm_journal.specs.declared.replay.JournalFault.{JournalFault}
use Rattle.rvm_journal.specs.declared.replay.JournalFault.TheVariants.{BadLine, LongLine, TooLong, OutOfMemory, LinkFault}
use Rattle.rvm_journal.specs.Noting.{noted_of}
use Rattle.rvm_journal.specs.Told.{Told, mark, text_in, told_by, told_in, told_of}

-- the last of some lines that come after this one
abbrev pub last_of : (line : List ℕ) → (lines : List (List ℕ)) → List ℕ
last_of line [] = line
last_of line (l ∷ ls) = last_of l ls

-- whether a journal is whole: its last line tells its end
abbrev pub is_whole : (bytes : List ℕ) → Bool
is_whole bytes = bytes_eq (text_in (last_of [] (lines bytes))) (codes "end")

-- the first of some events: at most this many, or all of them
abbrev pub first_of : (most : Option ℕ) → List HostEvent → List HostEvent
first_of None es = es
first_of (Some n) es = take n es

-- how many more events are wanted after these
abbrev pub left_of : (most : Option ℕ) → List HostEvent → Option ℕ
left_of None es = None
left_of (Some n) es = Some (n - length es)

-- these events are fewer than are wanted
abbrev pub AreFewer : (most : Option ℕ) → List HostEvent → Type 0
AreFewer None es = ⊤
AreFewer (Some n) es = length es < n

-- an event is wanted
abbrev pub IsWanted : (most : Option ℕ) → Type 0
IsWanted most = AreFewer most []

-- the recorder had no room for this many entries, if they were refused for that
abbrev pub LacksRoom : ReplayError → Recording → (count : ℕ) → Type 0
LacksRoom replay_error.OutOfMemory r n = ⊤
LacksRoom (replay_error.TooMany most) r n = (room_of r < n) × (most ≡ r.capacity)

-- the lines before the one with this number, from 1, tell something, and fewer events than are wanted, and that line tells
-- nothing
pub record IsBadLine (most : Option ℕ) (hosts host : ℕ) (ls : List (List ℕ)) (number : ℕ) : Type 0 where
  pub before : List (List ℕ)
  pub line : List ℕ
  pub rest : List (List ℕ)
  pub lines_are : ls ≡ before ++ line ∷ rest
  pub number_is : number ≡ length before + 1
  pub told : Told
  pub before_told : told_of hosts host before ≡ Some told
  pub few : AreFewer most told.events
  pub refused : told_by hosts host told line ≡ None

-- first lines of a journal tell more events that are wanted than there is room for
pub record IsTooLong (most : Option ℕ) (hosts host : ℕ) (ls : List (List ℕ)) (room : ℕ) : Type 0 where
  pub read : List (List ℕ)
  pub rest : List (List ℕ)
  pub lines_are : ls ≡ read ++ rest
  pub told : Told
  pub told_is : told_of hosts host read ≡ Some told
  pub many : room < length (first_of most told.events)

-- what is reported of a fault
abbrev pub fault_text : JournalFault → List ℕ
fault_text OutOfMemory = codes "out of memory"
fault_text LinkFault = codes "refused 31 LinkFault"
fault_text (TooLong most) = codes "more than " ++ decimal most ++ codes " events"
fault_text (LongLine number) = codes "line " ++ decimal number ++ codes ": more than 131072 bytes"
fault_text (BadLine number) = codes "line " ++ decimal number ++ codes ": no line of this journal"

-- why not all events that are wanted of a journal were done: the first line that tells nothing, or too little room in a
-- recorder that takes `capacity` entries at most
abbrev pub IsJournalFault : JournalFault → (most : Option ℕ) → (hosts host : ℕ) → (ls : List (List ℕ)) → (capacity room : ℕ)
    → Type 0
IsJournalFault (BadLine number) most n h ls capacity room = IsBadLine most n h ls number
IsJournalFault (LongLine number) most n h ls capacity room = ⊤
IsJournalFault (TooLong m) most n h ls capacity room = IsTooLong most n h ls room × (m ≡ capacity)
IsJournalFault OutOfMemory most n h ls capacity room = ⊤
IsJournalFault LinkFault most n h ls capacity room = ⊤

-- the recorder takes no more entries, if a journal was too long for it
abbrev pub IsSpent : JournalFault → Recording → Type 0
IsSpent (BadLine number) r = ⊤
IsSpent (LongLine number) r = ⊤
IsSpent (TooLong most) r = count_of r ≡ r.capacity
IsSpent OutOfMemory r = ⊤
IsSpent LinkFault r = ⊤

-- all lines of a journal were done: what they tell was recorded
abbrev pub IsReplayed : (hosts host : ℕ) → (bytes : List ℕ) → (old new : Recording) → Type 0
IsReplayed n h bytes old new = (t : Told) × (told_in n h bytes ≡ Some t) × Records old t.events new

-- these are the first events that a journal tells: this many, by its first lines, or all of them, if it tells no more
pub record AreFirstTold (most hosts host : ℕ) (bytes : List ℕ) (events : List HostEvent) : Type 0 where
  pub read : List (List ℕ)
  pub rest : List (List ℕ)
  pub lines_are : lines bytes ≡ read ++ rest
  pub told : Told
  pub told_is : told_of hosts host read ≡ Some told
  pub enough : (rest ≡ []) ⊎ (most ≤ length told.events)
  pub events_are : events ≡ take most told.events

-- the events of a journal that are wanted were done: the first, or those of all lines
abbrev pub IsReplayedTo : (most : Option ℕ) → (hosts host : ℕ) → (bytes : List ℕ) → (old new : Recording) → Type 0
IsReplayedTo None n h bytes old new = IsReplayed n h bytes old new
IsReplayedTo (Some m) n h bytes old new =
    (events : List HostEvent) × AreFirstTold m n h bytes events × Records old events new

-- the harts of turns are 1 to 8
abbrev pub HasHarts : Noted → Type 0
HasHarts (Turns run) = (1 ≤ run.harts) × (run.harts ≤ 8)
HasHarts (Commanded c) = ⊤
HasHarts (Came from f) = ⊤
HasHarts (Met m) = ⊤
HasHarts End = ⊤

-- what the text of a line tells, if the line shows this digest
abbrev pub noted_at : (hosts host : ℕ) → (digest line : List ℕ) → Option Noted
noted_at n h d line = if bytes_eq (take 17 line) (mark d) then noted_of n h (text_in line) else None

-- why a line with this number and digest was not read: it tells nothing, or memory ran out
abbrev pub IsLineFault : JournalFault → (hosts host number : ℕ) → (digest line : List ℕ) → Type 0
IsLineFault (BadLine k) n h number d line = (k ≡ number) × (noted_at n h d line ≡ None)
IsLineFault (LongLine k) n h number d line = ⊥
IsLineFault (TooLong most) n h number d line = ⊥
IsLineFault OutOfMemory n h number d line = ⊤
IsLineFault LinkFault n h number d line = ⊥

-- why this many events, as a line tells, were not done: too little room in the recorder, or memory ran out
abbrev pub IsRoomFault : JournalFault → (count : ℕ) → Recording → Type 0
IsRoomFault (BadLine k) n r = ⊥
IsRoomFault (LongLine k) n r = ⊥
IsRoomFault (TooLong most) n r = (room_of r < n) × (most ≡ r.capacity)
IsRoomFault OutOfMemory n r = ⊤
IsRoomFault LinkFault n r = ⊥
