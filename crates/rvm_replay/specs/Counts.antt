-- What the entries of journals add up to, and the lines that say so.
use Rattle.std.specs.Prelude.{◌≡◌, ℕ, ◌+◌, ◌-◌, ◌^◌, min, List, [], ◌∷◌, ◌++◌, codes, flat_map, length, sum_by}
use Rattle.std.specs.Fmt.{decimal}
use Rattle.rvm_board.specs.declared.event.BoardEvent.TheVariants.{Step}
use Rattle.rvm_message.specs.declared.event.Command.TheVariants.{Board}
use Rattle.rvm_message.specs.declared.event.HostEvent.{HostEvent}
use Rattle.rvm_message.specs.declared.event.HostEvent.TheVariants.{Came, Do}
use Rattle.rvm_message.specs.declared.reply.HostReply.{HostReply}
use Rattle.rvm_message.specs.declared.reply.HostReply.TheVariants.{Committed}
use Rattle.rvm_recorder.specs.Entries.{PlainEntry}
use Rattle.rvm_recorder.specs.History.{Recording}
use Rattle.rvm_replay.specs.Consoles.{taken_in}
use Rattle.rvm_replay.specs.declared.counts.Counts.{Counts}

-- one turn, if an event is a step of a hart
abbrev pub turns_in : HostEvent → ℕ
turns_in (Do (Board (Step hart))) = 1
turns_in event = 0

-- one frame, if an event is that a frame came
abbrev pub frames_in : HostEvent → ℕ
frames_in (Came from frame) = 1
frames_in (Do command) = 0

-- one move, if a reply is that the guest is given up, since the target has it
abbrev pub moves_in : HostReply → ℕ
moves_in (Committed number) = 1
moves_in reply = 0

-- what one entry adds
abbrev pub counts_at : PlainEntry → Counts
counts_at e = record {
  events = 1;
  turns = turns_in e.event;
  frames = frames_in e.event;
  moves = moves_in e.reply;
  console = length (taken_in e);
}

-- a number, or the largest one of 64 bits if it is larger
abbrev pub capped : ℕ → ℕ
capped n = min n (2 ^ 64 - 1)

-- what entries add up to
abbrev pub counts_of : List PlainEntry → Counts
counts_of entries = record {
  events = capped (sum_by (λ e. 1) entries);
  turns = capped (sum_by (λ e. turns_in e.event) entries);
  frames = capped (sum_by (λ e. frames_in e.event) entries);
  moves = capped (sum_by (λ e. moves_in e.reply) entries);
  console = capped (sum_by (λ e. length (taken_in e)) entries);
}

-- counts added to others
abbrev pub plus : Counts → Counts → Counts
plus a b = record {
  events = capped (a.events + b.events);
  turns = capped (a.turns + b.turns);
  frames = capped (a.frames + b.frames);
  moves = capped (a.moves + b.moves);
  console = capped (a.console + b.console);
}

-- these counts are what entries add to any that were counted before
abbrev pub Adds : Counts → List PlainEntry → Type 0
Adds c entries = (before : List PlainEntry) → plus (counts_of before) c ≡ counts_of (before ++ entries)

-- how many events, and how many of them are turns and frames
abbrev pub events_text : (events turns frames : ℕ) → List ℕ
events_text events turns frames =
    codes ": events " ++ decimal events ++ codes ", turns " ++ decimal turns ++ codes ", frames " ++ decimal frames

-- how many moves, and how many bytes of the console, to the end of the line
abbrev pub moves_text : (moves console : ℕ) → List ℕ
moves_text moves console = codes ", moves " ++ decimal moves ++ codes ", console " ++ decimal console ++ codes "\n"

-- the line of counts, with the name of what was counted
abbrev pub counts_line : (name : List ℕ) → Counts → List ℕ
counts_line name c = name ++ events_text c.events c.turns c.frames ++ moves_text c.moves c.console

-- the line of the host with this number
abbrev pub host_line : (host : ℕ) → Recording → List ℕ
host_line x r = counts_line ((65 + x) ∷ []) (counts_of r.journal.entries)

-- the lines of hosts, the first of which has this number
abbrev pub host_lines : (host : ℕ) → List Recording → List ℕ
host_lines x [] = []
host_lines x (r ∷ rs) = host_line x r ++ host_lines (x + 1) rs

-- the entries of all these hosts
abbrev pub entries_of_all : List Recording → List PlainEntry
entries_of_all all = flat_map (λ r. r.journal.entries) all

-- a line for each host, by its letter, and one for all of them
abbrev pub summary_of : List Recording → List ℕ
summary_of all = host_lines 0 all ++ counts_line (codes "all") (counts_of (entries_of_all all))
