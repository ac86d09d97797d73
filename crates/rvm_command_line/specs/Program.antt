-- The words that the program takes, as `clap` reads them.
use Rattle.std.specs.Prelude.{ℕ, true, List, [], ◌∷◌, Some, pos, codes}
use Rattle.clap.specs.Faults.{fault_of}
use Rattle.clap.specs.Kinds.{Kinds, or_else}
use Rattle.clap.specs.Lexer.{usize_max}
use Rattle.clap.specs.Simple.{App, new_app, new_rule, on_top, with_rule, with_subcommand}
use Rattle.clap.specs.Walk.{Rule, Text}
use Rattle.clap.specs.declared.builder.action.ArgAction.TheVariants.{SetTrue}
use Rattle.clap.specs.declared.builder.value_parser.ValueParser.TheVariants as parser
use Rattle.clap.specs.declared.error.kind.ErrorKind.TheVariants as kind

-- a word that must be there
abbrev pub needed : Text → Rule
needed id = record (new_rule id) { value_names = 1; required = true }

-- a word that may be there
abbrev pub allowed : Text → Rule
allowed id = record (new_rule id) { value_names = 1 }

-- a flag
abbrev pub flag : Text → Rule
flag name = record (new_rule name) { long = Some name; action = Some SetTrue }

-- an option with a text
abbrev pub option : Text → Rule
option name = record (new_rule name) { long = Some name; value_names = 1 }

-- an option with a text, which must be given
abbrev pub needed_option : Text → Rule
needed_option name = record (option name) { required = true }

-- an option with a number within limits
abbrev pub bounded : Text → (least most : ℕ) → Rule
bounded name least most = record (option name) { parser = Some (parser.Signed (pos least) (pos most)) }

-- an option with a number of 64 bits
abbrev pub counted : Text → Rule
counted name = record (option name) { parser = Some (parser.Unsigned 0 18446744073709551615) }

-- an option that has this text if none is given
abbrev pub with_default : (default : Text) → Rule → Rule
with_default default rule = record rule { defaults = default ∷ [] }

-- an option with a number from 1 to a limit
abbrev pub number : Text → (default : Text) → (most : ℕ) → Rule
number name default most = with_default default (bounded name 1 most)

-- a command that takes the words of an image's form and of its board
abbrev pub with_board : App → App
with_board command =
    with_rule (with_rule (with_rule command (flag (codes "raw"))) (number (codes "harts") (codes "1") 8))
    (number (codes "pages") (codes "256") 4096)

-- a command that takes the words of a guest
abbrev pub with_guest : App → App
with_guest command = with_board (with_rule command (needed (codes "image")))

-- a command that takes the words of a guest and of its hosts
abbrev pub with_world : App → App
with_world command =
    with_rule (with_rule (with_guest command) (with_default (codes "2") (bounded (codes "hosts") 2 8)))
    (bounded (codes "stream") 1 3)

-- a command that takes the words that say when a guest that moves is paused
abbrev pub with_policy : App → App
with_policy command =
    with_rule
    (with_rule (with_rule command (number (codes "rounds") (codes "29") 1000))
    (number (codes "left") (codes "50") 4096))
    (number (codes "factor") (codes "3") 100)

-- a command that takes the words of a guest, of its turns and of its move
abbrev pub with_move : App → App
with_move command =
    with_rule
    (with_policy (with_rule (with_guest command) (number (codes "steps") (codes "10000") 100000)))
    (number (codes "stream") (codes "1") 3)

-- a command that takes the bandwidth of a move
abbrev pub with_bandwidth : App → App
with_bandwidth command = with_rule command (bounded (codes "bandwidth") 1 1000000)

-- a command that takes the word by which its status tells how the guest ended
abbrev pub with_verdict : App → App
with_verdict command = with_rule command (flag (codes "verdict"))

-- a command that takes the words that say what its status tells
abbrev pub with_status : App → App
with_status command = with_rule (with_verdict command) (flag (codes "exit-status"))

-- a command that takes the words of a trace
abbrev pub with_trace : App → App
with_trace command =
    with_rule
    (with_rule (with_rule command (option (codes "trace"))) (bounded (codes "trace-from") 0 999999999))
    (bounded (codes "trace-to") 0 999999999)

-- an option with a file and a range of words
abbrev pub signature : Rule
signature = record (new_rule (codes "signature")) { long = Some (codes "signature"); value_names = 3 }

-- a command that takes the words of a profile
abbrev pub with_profile : App → App
with_profile command = with_rule (with_rule command (option (codes "profile"))) (option (codes "symbols"))

-- a command that takes the words of a report
abbrev pub with_report : App → App
with_report command =
    with_rule
    (with_profile (with_rule (with_rule command signature) (option (codes "coverage"))))
    (option (codes "save"))

-- a command that takes the words that say what is looked at while the guest runs
abbrev pub with_watch : App → App
with_watch command = with_trace (with_rule command (flag (codes "stop-at-fault")))

-- a command that takes the words of a guest, its turns and its input
abbrev pub with_turns : App → App
with_turns command =
    with_rule (with_rule (with_guest command) (number (codes "steps") (codes "1000000") 1000000000))
    (option (codes "input"))

-- a command that takes the words for the order of its harts
abbrev pub with_order : App → App
with_order command =
    with_rule (with_rule command (bounded (codes "order") 0 4294967295)) (bounded (codes "orders") 1 1000000)

-- a command that takes the file of a journal
abbrev pub with_journal : App → App
with_journal command = with_rule command (option (codes "journal"))

-- the command that runs a guest
abbrev pub run : App
run = with_journal (with_order (with_report (with_watch (with_status (with_turns (new_app (codes "run")))))))

-- the command that makes an ELF file of an assembly text
abbrev pub asm : App
asm = with_rule (with_rule (new_app (codes "asm")) (needed (codes "source"))) (needed (codes "output"))

-- the command that writes a line for each word of an image
abbrev pub dis : App
dis = with_guest (new_app (codes "dis"))

-- the command that does to a guest what the lines of standard input ask for
abbrev pub debug : App
debug = with_rule (with_guest (new_app (codes "debug"))) (flag (codes "extended"))

-- the command that does to a world of hosts what the lines of a file ask for
abbrev pub script : App
script = with_rule (with_world (new_app (codes "script"))) (needed (codes "script"))

-- the command that moves a guest to another host while it runs
abbrev pub move : App
move = with_verdict (with_bandwidth (with_move (new_app (codes "move"))))

-- the command that makes such a move and writes an order of both hosts' journals
abbrev pub audit : App
audit = with_move (new_app (codes "audit"))

-- a command that takes the words that say where a host is reached, and by whom
abbrev pub with_addresses : App → App
with_addresses command =
    with_rule
    (with_rule
    (with_rule (with_rule command (needed_option (codes "peers"))) (option (codes "listen")))
    (needed_option (codes "control")))
    (option (codes "secret"))

-- a command that takes the words that say how a host works
abbrev pub with_hosting : App → App
with_hosting command =
    with_rule
    (with_bandwidth
    (with_rule
    (with_rule (with_rule command (option (codes "input"))) (number (codes "patience") (codes "10000") 1000000000))
    (bounded (codes "rate") 1 1000000000)))
    (flag (codes "until-halt"))

-- a command that takes the name of a host, and perhaps the image of a guest
abbrev pub with_name : App → App
with_name command = with_rule (with_rule command (needed (codes "name"))) (allowed (codes "image"))

-- the command that runs a host, at which a guest begins if an image is named
abbrev pub host : App
host =
    with_verdict
    (with_journal (with_hosting (with_addresses (with_board (with_name (new_app (codes "host")))))))

-- the command that tells a host lines
abbrev pub tell : App
tell = with_rule (with_rule (new_app (codes "tell")) (needed (codes "socket"))) (allowed (codes "line"))

-- a command that takes the words that say how far journals are replayed, and what is asked of their guest then
abbrev pub with_replay : App → App
with_replay command =
    with_rule
    (with_rule (with_rule command (counted (codes "until"))) (bounded (codes "turns") 1 4294967295))
    (option (codes "script"))

-- one or more words, as many as there are
abbrev pub several : Text → Rule
several id = record (needed id) { range = Some (record { start_inclusive = 1; end_inclusive = usize_max }) }

-- the command that does again what journals tell
abbrev pub replay : App
replay =
    with_replay (with_rule (with_rule (new_app (codes "replay")) (several (codes "journal"))) (option (codes "image")))

-- the command that looks for one order of what the journals of a world's hosts tell
abbrev pub audit_journals : App
audit_journals =
    with_rule
    (with_rule
    (with_rule
    (with_rule (new_app (codes "audit-journals")) (several (codes "journal")))
    (needed_option (codes "image")))
    (flag (codes "order")))
    (option (codes "chart"))

-- the program without its commands, which demands that one is named
abbrev pub top : App
top =
    on_top (λ s. record s { has_version = true; arg_required_else_help = true; subcommand_required = true })
    (new_app (codes "rvmove"))

-- a command that takes the word by which its refusal is explained
abbrev pub with_explain : App → App
with_explain command = with_rule command (flag (codes "explain"))

-- a program with one more command, whose refusal can be explained
abbrev pub with_command : App → App → App
with_command others command = with_subcommand others (with_explain command).top

-- the program with all its commands
abbrev pub program : App
program =
    with_command
    (with_command
    (with_command
    (with_command
    (with_command
    (with_command
    (with_command
    (with_command (with_command (with_command (with_command top run) asm) dis) debug) script) move) audit) host)
    tell) replay) audit_journals

-- the kinds of which the fault of a command line may be: those that `clap` finds in its words, or else a value that
-- `clap` takes and the program refuses
abbrev pub faults_of : (words : List Text) → Kinds
faults_of words = or_else (fault_of program words) (kind.ValueValidation ∷ [])
