-- Events of a world, as the lines of a script that make them.
use Rattle.std.specs.Prelude.{ℕ, ◌-◌, ◌==◌, ◌&&◌, nat_lt, Bool, List, [], ◌∷◌, ◌++◌, Option, Some, None, codes, if◌then◌else◌}
use Rattle.std.specs.Fmt.{decimal}
use Rattle.std.specs.List.{flat_map}
use Rattle.hex.specs.Hex.{encode_lower}
use Rattle.rvm_board.specs.declared.event.BoardEvent.{BoardEvent}
use Rattle.rvm_board.specs.declared.event.BoardEvent.TheVariants as asked
use Rattle.rvm_message.specs.declared.event.Command.{Command}
use Rattle.rvm_message.specs.declared.event.Command.TheVariants as command
use Rattle.rvm_core.specs.declared.event.Event.{Event}
use Rattle.rvm_core.specs.declared.event.Event.TheVariants as event

-- the letter of a host
abbrev pub letter : (host : ℕ) → List ℕ
letter host =
    if host == 0 then codes "A" else (if host == 1 then codes "B" else (if host == 2 then codes "C"
    else (if host == 3 then codes "D" else (if host == 4 then codes "E" else (if host == 5 then codes "F"
    else (if host == 6 then codes "G" else codes "H"))))))

-- a register by its number, pc being 32
abbrev pub register : ℕ → List ℕ
register number = if number == 32 then codes "pc" else (codes "x" ++ decimal number)

-- the text of an event of a guest
abbrev pub asked_line : BoardEvent → List ℕ
asked_line (asked.Step h) = codes "step " ++ decimal h
asked_line (asked.Input b) = codes "input " ++ encode_lower (b ∷ [])
asked_line (asked.Drain n) = codes "drain " ++ decimal n
asked_line (asked.Break a) = codes "break " ++ decimal a
asked_line (asked.Clear a) = codes "clear " ++ decimal a
asked_line (asked.Regs h) = codes "regs " ++ decimal h
asked_line (asked.Mem a n) = codes "mem " ++ decimal a ++ codes " " ++ decimal n
asked_line (asked.Dis a) = codes "dis " ++ decimal a
asked_line (asked.PokeReg h r v) = codes "reg " ++ decimal h ++ codes " " ++ register r ++ codes " " ++ decimal v
asked_line (asked.PokeMem a bytes) = codes "poke " ++ decimal a ++ codes " " ++ encode_lower bytes

-- whether a move from a host goes to the other host of two
abbrev pub is_other : (hosts host to : ℕ) → Bool
is_other n h to = n == 2 && (nat_lt h 2 && to == 1 - h)

-- the target that the line of a move names: none, if it is the other host of two
abbrev pub named : (hosts host to : ℕ) → Option ℕ
named n h to = if is_other n h to then None else Some to

-- the letter of a target with a space after it, if one is named
abbrev pub target_text : Option ℕ → List ℕ
target_text None = []
target_text (Some to) = letter to ++ codes " "

-- the text of a command to a host of a world of this many hosts
abbrev pub command_line : (hosts host : ℕ) → Command → List ℕ
command_line n h (command.Board e) = asked_line e
command_line n h (command.Begin to p) =
    codes "begin " ++ target_text (named n h to) ++ decimal p.max_rounds ++ codes " " ++ decimal p.min_left
    ++ codes " " ++ decimal p.factor
command_line n h command.Copy = codes "copy"
command_line n h command.Resend = codes "resend"
command_line n h command.Abort = codes "abort"

-- the line of an event of a world of this many hosts
abbrev pub event_line : (hosts : ℕ) → Event → List ℕ
event_line n (event.At h c) = letter h ++ codes " " ++ command_line n h c ++ codes "\n"
event_line n (event.Deliver k) = codes "deliver " ++ decimal k ++ codes "\n"

-- the lines of events of a world of this many hosts
abbrev pub event_lines : (hosts : ℕ) → List Event → List ℕ
event_lines n = flat_map (event_line n)
