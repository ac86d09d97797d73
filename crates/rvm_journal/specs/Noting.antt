-- What the text of a line of a journal tells, without the digest before it and without the line feed.
use Rattle.std.specs.Prelude.{ℕ, ◌-◌, ◌==◌, ◌&&◌, nat_le, nat_lt, if◌then◌else◌, List, [], ◌∷◌, Option, Some, None, Result, Ok, Err, codes, option_map}
use Rattle.std.specs.Str.{bytes_eq}
use Rattle.hex.specs.Hex.{decode_of}
use Rattle.hex.specs.declared.error.FromHexError.{FromHexError}
use Rattle.rvm_board.specs.declared.event.BoardEvent.{BoardEvent}
use Rattle.rvm_board.specs.declared.event.BoardEvent.TheVariants as board
use Rattle.rvm_codec.specs.Codec.{◌>>=◌}
use Rattle.rvm_debug.specs.declared.line.Line.{Line}
use Rattle.rvm_debug.specs.declared.line.Line.TheVariants as guest
use Rattle.rvm_debug.specs.Lines.{numeral}
use Rattle.rvm_debug.specs.Words.{words}
use Rattle.rvm_frame.specs.declared.fault.ReadFault.{ReadFault}
use Rattle.rvm_frame.specs.Grammar.{Received}
use Rattle.rvm_frame.specs.Verdict.{one_frame_of, verdict}
use Rattle.rvm_message.specs.declared.event.Command.{Command}
use Rattle.rvm_message.specs.declared.event.Command.TheVariants as command
use Rattle.rvm_message.specs.declared.event.HostEvent.{HostEvent}
use Rattle.rvm_message.specs.declared.event.HostEvent.TheVariants as event
use Rattle.rvm_core.specs.declared.world_line.Asked.{Asked}
use Rattle.rvm_core.specs.declared.world_line.Asked.TheVariants as asked
use Rattle.rvm_core.specs.declared.world_line.WorldLine.{WorldLine}
use Rattle.rvm_core.specs.declared.world_line.WorldLine.TheVariants as line
use Rattle.rvm_core.specs.WorldLines.{world_line_of}
use Rattle.rvm_station.specs.declared.log.Meeting.{Meeting}
use Rattle.rvm_station.specs.Logs.{steps_from}
use Rattle.rvm_journal.specs.Numbers.{field}
use Rattle.rvm_journal.specs.declared.noted.Noted.{Noted}
use Rattle.rvm_journal.specs.declared.noted.Noted.TheVariants.{Turns, Command as Commanded, Came, Met, End}

-- turns of 1 to 8 harts, the first of which is that of one of them
abbrev pub run_of : (first harts count : ℕ) → Option Noted
run_of first harts count =
    if nat_le harts 8 && nat_lt first harts
    then Some (Turns (record { first = first; harts = harts; count = count })) else None

-- the turns that three numbers tell, if all are there
abbrev pub run_if : (first harts count : Option ℕ) → Option Noted
run_if (Some f) (Some h) (Some n) = run_of f h n
run_if f h n = None

-- the words after `turns`: FIRST HARTS COUNT
abbrev pub turns_noted : List (List ℕ) → Option Noted
turns_noted (f ∷ h ∷ n ∷ []) = run_if (numeral f) (numeral h) (numeral n)
turns_noted ws = None

-- a frame, if it is for this host
abbrev pub frame_noted : (host : ℕ) → Result Received ReadFault → Option Noted
frame_noted h (Ok (Some hosts, frame)) = if hosts.1 == h then Some (Came hosts.0 frame) else None
frame_noted h received = None

-- the frame that all of these bytes are, in a stream of version 3
abbrev pub bytes_noted : (host : ℕ) → Result (List ℕ) FromHexError → Option Noted
bytes_noted h (Ok bytes) = frame_noted h (one_frame_of (verdict (Some 3) bytes))
bytes_noted h (Err e) = None

-- the words after `came`: the bytes of the frame
abbrev pub came_noted : (host : ℕ) → List (List ℕ) → Option Noted
came_noted h (w ∷ []) = bytes_noted h (decode_of w)
came_noted h ws = None

-- the one event that a line asks the guest for
abbrev pub event_in : Line → Option BoardEvent
event_in guest.Empty = None
event_in (guest.Steps h n) = if n == 1 then Some (board.Step h) else None
event_in (guest.Input (b ∷ [])) = Some (board.Input b)
event_in (guest.Input bytes) = None
event_in (guest.Ask e) = Some e

-- the target of a move: the one that is named, or the other host of two
abbrev pub target_of : (host : ℕ) → Option ℕ → ℕ
target_of h (Some to) = to
target_of h None = 1 - h

-- the one command that a line gives a host
abbrev pub commanded : (host : ℕ) → Asked → Option Command
commanded h (asked.Guest l) = option_map command.Board (event_in l)
commanded h (asked.Begin to p) = Some (command.Begin (target_of h to) p)
commanded h (asked.Move to p) = None
commanded h asked.Copy = Some command.Copy
commanded h asked.Resend = Some command.Resend
commanded h asked.Abort = Some command.Abort

-- the one command that a line gives this host, by its letter
abbrev pub command_in : (host : ℕ) → Option WorldLine → Option Command
command_in h (Some (line.Host (Some x) a)) = if x == h then commanded h a else None
command_in h l = None

-- a meeting, if no word comes after it
abbrev pub meeting_if : Meeting → (rest : List (List ℕ)) → Option Meeting
meeting_if m [] = Some m
meeting_if m (w ∷ ws) = None

-- the meeting that words tell: met HOST process PROCESS world WORLD
abbrev pub meeting_in : List (List ℕ) → Option Meeting
meeting_in ws =
    field (codes "met") 0 7 ws >>= λ h.
    field (codes "process") 0 18446744073709551615 h.1 >>= λ p.
    field (codes "world") 0 18446744073709551615 p.1 >>= λ w.
    meeting_if (record { host = h.0; process = p.0; world = w.0 }) w.1

-- the end of a journal, if no word comes after `end`
abbrev pub end_noted : List (List ℕ) → Option Noted
end_noted [] = Some End
end_noted (w ∷ ws) = None

-- what words tell, which are those of this text
abbrev pub noted_by : (hosts host : ℕ) → (text : List ℕ) → List (List ℕ) → Option Noted
noted_by n h text [] = None
noted_by n h text (w ∷ ws) =
    if bytes_eq w (codes "turns") then turns_noted ws
    else (if bytes_eq w (codes "came") then came_noted h ws
    else (if bytes_eq w (codes "met") then option_map Met (meeting_in (w ∷ ws))
    else (if bytes_eq w (codes "end") then end_noted ws
    else option_map Commanded (command_in h (world_line_of n text)))))

-- what a text tells of host `host` of this many hosts; none if it tells nothing
unfoldable pub noted_of : (hosts host : ℕ) → (text : List ℕ) → Option Noted
noted_of n h text = noted_by n h text (words text)

-- the events that a line tells
abbrev pub events_of : Noted → List HostEvent
events_of (Turns run) = steps_from run.first run.harts run.count
events_of (Commanded c) = event.Do c ∷ []
events_of (Came from frame) = event.Came from frame ∷ []
events_of (Met m) = []
events_of End = []
