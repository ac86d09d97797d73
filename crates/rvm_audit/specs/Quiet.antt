-- Entries of which only the frames are asked for.
use Rattle.std.specs.Prelude.{◌≡◌, ℕ, List, [], ◌∷◌, Option, Some, None}
use Rattle.rvm_frame.specs.declared.frame.Frame.{Frame}
use Rattle.rvm_message.specs.declared.event.HostEvent.{HostEvent}
use Rattle.rvm_message.specs.declared.event.HostEvent.TheVariants.{Came, Do}
use Rattle.rvm_recorder.specs.Entries.{PlainEntry}

-- the event is a command
abbrev pub IsOfCommand : HostEvent → Type 0
IsOfCommand (Do c) = Unit {0}
IsOfCommand (Came from frame) = ⊥

-- an entry is of a command that made no frame
abbrev pub IsQuiet : PlainEntry → Type 0
IsQuiet n = IsOfCommand n.event × (n.frame ≡ None)

-- all entries are of commands that made no frame
abbrev pub AreQuiet : List PlainEntry → Type 0
AreQuiet [] = Unit {0}
AreQuiet (n ∷ ns) = IsQuiet n × AreQuiet ns

-- the frame that came, with the host that it came from, if an event is that one came
abbrev pub HasCame : (came : Option (ℕ × Frame)) → HostEvent → Type 0
HasCame None event = IsOfCommand event
HasCame (Some (from, frame)) event = event ≡ Came from frame

-- these are the frames of an entry: the one that came, if its event is that one came, and the bytes of the one that it made
abbrev pub HasFrames : (came : Option (ℕ × Frame)) → (made : Option (List ℕ)) → PlainEntry → Type 0
HasFrames came made n = HasCame came n.event × (made ≡ n.frame)
