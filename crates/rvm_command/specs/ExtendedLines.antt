-- What a line of an extended session asks for.
use Rattle.std.specs.Prelude.{ℕ, ◌&&◌, nat_le, if◌then◌else◌, List, [], ◌∷◌, Option, Some, None, codes, option_map}
use Rattle.std.specs.Option.{option_and_then}
use Rattle.std.specs.Str.{bytes_eq}
use Rattle.rvm_debug.specs.declared.line.Line.{Line}
use Rattle.rvm_debug.specs.Lines.{line_of, one_number}
use Rattle.rvm_debug.specs.Words.{words, without_return}
use Rattle.rvm_command.specs.declared.extended_command.ExtendedCommand.{ExtendedCommand}
use Rattle.rvm_command.specs.declared.extended_command.ExtendedCommand.TheVariants.{Csrs, Devices, FindFault, Turns}
use Rattle.rvm_command.specs.declared.extended_line.ExtendedLine.{ExtendedLine}
use Rattle.rvm_command.specs.declared.extended_line.ExtendedLine.TheVariants as line

-- the command that a word names, if it is one that scripts do not have
unfoldable pub extended_command_of : List ℕ → Option ExtendedCommand
extended_command_of word =
    if bytes_eq word (codes "csrs") then Some Csrs
    else (if bytes_eq word (codes "devices") then Some Devices
    else (if bytes_eq word (codes "turns") then Some Turns
    else (if bytes_eq word (codes "find-fault") then Some FindFault
    else None)))

-- the words after `devices`: none
abbrev pub devices_line : List (List ℕ) → Option ExtendedLine
devices_line [] = Some line.Devices
devices_line (w ∷ ws) = None

-- a number of turns that a line may ask for, 1 to 1000000
abbrev pub if_turns : ℕ → Option ℕ
if_turns n = if nat_le 1 n && nat_le n 1000000 then Some n else None

-- the words after `turns` and `find-fault`: N
abbrev pub number_of_turns : List (List ℕ) → Option ℕ
number_of_turns ws = option_and_then if_turns (one_number ws)

-- a command with the words after its name: `csrs H`, `devices`, `turns N` or `find-fault N`
abbrev pub extended_commanded : ExtendedCommand → List (List ℕ) → Option ExtendedLine
extended_commanded Csrs ws = option_map line.Csrs (one_number ws)
extended_commanded Devices ws = devices_line ws
extended_commanded Turns ws = option_map line.Turns (number_of_turns ws)
extended_commanded FindFault ws = option_map line.FindFault (number_of_turns ws)

-- what a line asks for, by the command that its first word names, if it names one
abbrev pub extended_statement : Option ExtendedCommand → List (List ℕ) → Option ExtendedLine
extended_statement None ws = None
extended_statement (Some c) ws = extended_commanded c ws

-- what words ask for that no script asks for
abbrev pub further : List (List ℕ) → Option ExtendedLine
further [] = None
further (w ∷ ws) = extended_statement (extended_command_of w) ws

-- a line of a script, if it is one, or else another line
abbrev pub plain_or : Option Line → (other : Option ExtendedLine) → Option ExtendedLine
plain_or (Some l) other = Some (line.Plain l)
plain_or None other = other

-- what a line asks for, if it is in the grammar: each line of a script asks for what it asks for there
unfoldable pub extended_line_of : List ℕ → Option ExtendedLine
extended_line_of bytes = plain_or (line_of bytes) (further (words (without_return bytes)))
