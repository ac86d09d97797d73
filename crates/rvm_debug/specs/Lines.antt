-- What a line of a script asks for.
use Rattle.std.specs.Prelude.{ℕ, ◌==◌, ◌&&◌, nat_le, Bool, false, if◌then◌else◌, List, [], ◌∷◌, Option, Some, None, codes, option_map}
use Rattle.std.specs.Option.{option_and_then}
use Rattle.std.specs.Str.{bytes_eq}
use Rattle.rvm_text.specs.Numbers.{number_of}
use Rattle.rvm_text.specs.Registers.{register_of}
use Rattle.rvm_board.specs.declared.event.BoardEvent.TheVariants as event
use Rattle.rvm_debug.specs.declared.command.Command.{Command}
use Rattle.rvm_debug.specs.declared.command.Command.TheVariants.{Step, Input, Drain, Break, Clear, Regs, Mem, Dis, Reg, Poke}
use Rattle.rvm_debug.specs.declared.line.Line.{Line}
use Rattle.rvm_debug.specs.declared.line.Line.TheVariants as line
use Rattle.rvm_debug.specs.HexBytes.{hex_of, small}
use Rattle.rvm_debug.specs.Words.{words, without_return}

-- the number of a word: decimal, or hexadecimal after 0x
abbrev pub numeral : List ℕ → Option ℕ
numeral [] = number_of []
numeral (a ∷ []) = number_of (a ∷ [])
numeral (a ∷ b ∷ bs) = if a == 48 && b == 98 then None else number_of (a ∷ b ∷ bs)

-- the number of a register by its name; that of pc is 32
unfoldable pub register_in : List ℕ → Option ℕ
register_in word = if bytes_eq word (codes "pc") then Some 32 else register_of word

-- the command that a word names
unfoldable pub command_of : List ℕ → Option Command
command_of word =
    if bytes_eq word (codes "step") then Some Step
    else (if bytes_eq word (codes "input") then Some Input
    else (if bytes_eq word (codes "drain") then Some Drain
    else (if bytes_eq word (codes "break") then Some Break
    else (if bytes_eq word (codes "clear") then Some Clear
    else (if bytes_eq word (codes "regs") then Some Regs
    else (if bytes_eq word (codes "mem") then Some Mem
    else (if bytes_eq word (codes "dis") then Some Dis
    else (if bytes_eq word (codes "reg") then Some Reg
    else (if bytes_eq word (codes "poke") then Some Poke
    else None)))))))))

-- the only word
abbrev pub only : List (List ℕ) → Option (List ℕ)
only [] = None
only (w ∷ []) = Some w
only (w ∷ v ∷ ws) = None

-- the number of the only word
abbrev pub one_number : List (List ℕ) → Option ℕ
one_number ws = option_and_then numeral (only ws)

-- the bytes of the only word
abbrev pub one_hex : List (List ℕ) → Option (List ℕ)
one_hex ws = option_and_then hex_of (only ws)

-- how many steps are asked for: one, if nothing is said
abbrev pub count_of : List (List ℕ) → Option ℕ
count_of [] = Some 1
count_of (w ∷ ws) = one_number (w ∷ ws)

-- this many steps of a hart, 1 to 1000000
abbrev pub steps_of : (hart count : Option ℕ) → Option Line
steps_of None n = None
steps_of (Some h) None = None
steps_of (Some h) (Some n) = if nat_le 1 n && nat_le n 1000000 then Some (line.Steps h n) else None

-- the words after `step`: H [N]
abbrev pub step_line : List (List ℕ) → Option Line
step_line [] = None
step_line (h ∷ ws) = steps_of (numeral h) (count_of ws)

-- this many bytes from an address on
abbrev pub bytes_at : (address count : Option ℕ) → Option Line
bytes_at None n = None
bytes_at (Some a) None = None
bytes_at (Some a) (Some n) = Some (line.Ask (event.Mem a n))

-- the words after `mem`: ADDR LEN
abbrev pub mem_line : List (List ℕ) → Option Line
mem_line [] = None
mem_line (a ∷ ws) = bytes_at (numeral a) (one_number ws)

-- a register of a hart gets a value
abbrev pub register_set : (hart register value : Option ℕ) → Option Line
register_set None r v = None
register_set (Some h) None v = None
register_set (Some h) (Some r) None = None
register_set (Some h) (Some r) (Some v) = Some (line.Ask (event.PokeReg h r v))

-- the words after `reg`: H NAME VALUE
abbrev pub reg_line : List (List ℕ) → Option Line
reg_line [] = None
reg_line (h ∷ []) = None
reg_line (h ∷ r ∷ ws) = register_set (numeral h) (register_in r) (one_number ws)

-- bytes are written from an address on
abbrev pub bytes_set : (address : Option ℕ) → Option (List ℕ) → Option Line
bytes_set None bytes = None
bytes_set (Some a) None = None
bytes_set (Some a) (Some bytes) = Some (line.Ask (event.PokeMem a bytes))

-- the words after `poke`: ADDR HEX, with 1 to 256 bytes
abbrev pub poke_line : List (List ℕ) → Option Line
poke_line [] = None
poke_line (a ∷ ws) = bytes_set (numeral a) (option_and_then small (one_hex ws))

-- a command with the words after its name
abbrev pub commanded : Command → List (List ℕ) → Option Line
commanded Step ws = step_line ws
commanded Input ws = option_map line.Input (one_hex ws)
commanded Drain ws = option_map (λ n. line.Ask (event.Drain n)) (one_number ws)
commanded Break ws = option_map (λ a. line.Ask (event.Break a)) (one_number ws)
commanded Clear ws = option_map (λ a. line.Ask (event.Clear a)) (one_number ws)
commanded Regs ws = option_map (λ h. line.Ask (event.Regs h)) (one_number ws)
commanded Mem ws = mem_line ws
commanded Dis ws = option_map (λ a. line.Ask (event.Dis a)) (one_number ws)
commanded Reg ws = reg_line ws
commanded Poke ws = poke_line ws

-- what a line asks for, by the command that its first word names, if it names one
abbrev pub statement : Option Command → List (List ℕ) → Option Line
statement None ws = None
statement (Some c) ws = commanded c ws

-- whether a word begins a comment
abbrev pub is_comment : List ℕ → Bool
is_comment [] = false
is_comment (b ∷ bs) = b == 35

-- what words ask for, if they are in the grammar
abbrev pub asked : List (List ℕ) → Option Line
asked [] = Some line.Empty
asked (w ∷ ws) = if is_comment w then Some line.Empty else statement (command_of w) ws

-- what a line asks for, if it is in the grammar
unfoldable pub line_of : List ℕ → Option Line
line_of bytes = asked (words (without_return bytes))
