-- The other hosts that a host met, as the lines of its journal tell.
use Rattle.std.specs.Prelude.{⊤, ◌⊎◌, ℕ, List, [], ◌∷◌, ◌++◌, Option, Some, None}
use Rattle.rvm_debug.specs.Words.{words}
use Rattle.rvm_station.specs.declared.log.Meeting.{Meeting}
use Rattle.rvm_journal.specs.Noting.{meeting_in}
use Rattle.rvm_journal.specs.Told.{text_in}

-- the meeting that a line tells, if it tells one
abbrev pub meeting_of : (line : List ℕ) → Option Meeting
meeting_of line = meeting_in (words (text_in line))

-- one meeting, or none
abbrev pub one_or_none : Option Meeting → List Meeting
one_or_none None = []
one_or_none (Some m) = m ∷ []

-- the meetings that lines tell, in order
abbrev pub meetings_in : (lines : List (List ℕ)) → List Meeting
meetings_in [] = []
meetings_in (l ∷ ls) = one_or_none (meeting_of l) ++ meetings_in ls

-- of each of some meetings this holds
abbrev pub AllMeetings : (P : Meeting → Type 0) → List Meeting → Type 0
AllMeetings P [] = ⊤
AllMeetings P (m ∷ ms) = P m × AllMeetings P ms

-- of one of some meetings this holds
abbrev pub SomeMeeting : (P : Meeting → Type 0) → List Meeting → Type 0
SomeMeeting P [] = ⊥
SomeMeeting P (m ∷ ms) = P m ⊎ SomeMeeting P ms
