-- What arguments are, by the values that `clap` found for the options of a command.
use Rattle.std.specs.Prelude.{◌≡◌, ◌≤◌, ◌+◌, ◌*◌, ◌%◌, ◌||◌, ℕ, Bool, true, false, is_some, [], ◌∷◌, Option, Some, None, option_map, map, codes}
use Rattle.std.specs.Str.Parse.{IsNumeral, digits_value}
use Rattle.clap.specs.Walk.{Row, Text, all_of, first_of, one_of}
use Rattle.std.specs.Prelude.{List, find}
use Rattle.std.specs.Prelude.{option_and_then}
use Rattle.std.specs.Str.{bytes_eq}
use Rattle.clap.specs.declared.parser.matches.ValueSource.{ValueSource}
use Rattle.clap.specs.declared.parser.matches.ValueSource.TheVariants.{CommandLine}
use Rattle.rvm_arguments.specs.declared.arguments.Arguments.{Arguments}
use Rattle.rvm_arguments.specs.declared.arguments.Arguments.TheVariants.{Run, Live, Orders, Asm, Dis, Debug, Script, Move, Audit, Host, Tell, Replay, ReplayTurns, AuditJournals}
use Rattle.rvm_arguments.specs.declared.arguments.AuditJournalsArguments.{AuditJournalsArguments}
use Rattle.rvm_arguments.specs.declared.arguments.DebugArguments.{DebugArguments}
use Rattle.rvm_arguments.specs.declared.arguments.GuestArguments.{GuestArguments}
use Rattle.rvm_arguments.specs.declared.arguments.HostArguments.{HostArguments}
use Rattle.rvm_arguments.specs.declared.arguments.LiveArguments.{LiveArguments}
use Rattle.rvm_arguments.specs.declared.arguments.MoveArguments.{MoveArguments}
use Rattle.rvm_arguments.specs.declared.arguments.OrdersArguments.{OrdersArguments}
use Rattle.rvm_arguments.specs.declared.arguments.ReplayArguments.{ReplayArguments}
use Rattle.rvm_arguments.specs.declared.arguments.ReplayTurnsArguments.{ReplayTurnsArguments}
use Rattle.rvm_arguments.specs.declared.arguments.Report.{Report}
use Rattle.rvm_arguments.specs.declared.arguments.Report.TheVariants.{Coverage, Profile, SavedGuest, Signature}
use Rattle.rvm_arguments.specs.declared.arguments.ReportArguments.{ReportArguments}
use Rattle.rvm_arguments.specs.declared.arguments.RunArguments.{RunArguments}
use Rattle.rvm_arguments.specs.declared.arguments.ScriptArguments.{ScriptArguments}
use Rattle.rvm_arguments.specs.declared.arguments.StatusOf.{StatusOf}
use Rattle.rvm_arguments.specs.declared.arguments.StatusOf.TheVariants.{Command, Verdict, Guest}
use Rattle.rvm_arguments.specs.declared.arguments.TellArguments.{TellArguments}
use Rattle.rvm_arguments.specs.declared.arguments.TraceArguments.{TraceArguments}
use Rattle.rvm_arguments.specs.declared.arguments.WordRange.{WordRange}
use Rattle.rvm_text.specs.Numbers.{number_of}

-- a text was given, and it writes this number in decimal digits alone
abbrev pub IsNumber : Option Text → ℕ → Type 0
IsNumber None n = ⊥
IsNumber (Some text) n = IsNumeral 10 text × (digits_value 10 text ≡ n)

-- there is a number if and only if a text was given, and the text writes that number
abbrev pub IsOptionalNumber : Option Text → Option ℕ → Type 0
IsOptionalNumber None n = n ≡ None
IsOptionalNumber (Some text) None = ⊥
IsOptionalNumber (Some text) (Some n) = IsNumber (Some text) n

-- whether a flag was given
abbrev pub IsFlag : Option Text → Bool → Type 0
IsFlag None given = given ≡ false
IsFlag (Some text) given =
    (text ≡ codes "true" → given ≡ true) × (text ≡ codes "false" → given ≡ false)

-- a guest's file, form, harts and pages
pub record IsGuest (rows : List Row) (guest : GuestArguments) : Type 0 where
  pub image : first_of (codes "image") rows ≡ Some guest.image.now
  pub raw : IsFlag (one_of (codes "raw") rows) guest.raw
  pub harts : IsNumber (first_of (codes "harts") rows) guest.harts
  pub pages : IsNumber (first_of (codes "pages") rows) guest.pages

-- what the status of `run` tells, by its two flags, of which at most one is given
abbrev pub IsStatusOf : (verdict exit_status : Option Text) → StatusOf → Type 0
IsStatusOf verdict exit_status Command = IsFlag verdict false × IsFlag exit_status false
IsStatusOf verdict exit_status Verdict = IsFlag verdict true × IsFlag exit_status false
IsStatusOf verdict exit_status Guest = IsFlag verdict false × IsFlag exit_status true

-- this is the number that was given, or this other one if none was
abbrev pub IsNumberOr : (default : ℕ) → Option Text → ℕ → Type 0
IsNumberOr default None n = n ≡ default
IsNumberOr default (Some text) n = IsNumber (Some text) n

-- there is a trace if and only if a file was named for it; its turns are those from one number to another, if these are
-- given, or else from the first or to the last
abbrev pub IsTrace : List Row → Option TraceArguments → Type 0
IsTrace rows None =
    (first_of (codes "trace") rows ≡ None) × (first_of (codes "trace-from") rows ≡ None)
    × (first_of (codes "trace-to") rows ≡ None)
IsTrace rows (Some trace) =
    (first_of (codes "trace") rows ≡ Some trace.file.now)
    × IsNumberOr 0 (first_of (codes "trace-from") rows) trace.from
    × IsNumberOr 999999999 (first_of (codes "trace-to") rows) trace.to

-- words, at least one, that all lie in RAM of this many pages
pub record IsInRam (pages : ℕ) (range : WordRange) : Type 0 where
  pub from_whole : range.from % 4 ≡ 0
  pub length_whole : range.length % 4 ≡ 0
  pub some : 4 ≤ range.length
  pub from_first : 0x80000000 ≤ range.from
  pub to_last : range.from + range.length ≤ 0x80000000 + 4096 * pages

-- a file was named, with the address and the length of a range of words, as numbers of an assembly text; all its words
-- lie in RAM
pub record IsSignature (pages : ℕ) (given : Option (List Text)) (file : Text) (range : WordRange) : Type 0 where
  pub from : Text
  pub length : Text
  pub given_is : given ≡ Some (file ∷ from ∷ length ∷ [])
  pub from_is : number_of from ≡ Some range.from
  pub length_is : number_of length ≡ Some range.length
  pub inside : IsInRam pages range

-- what is reported, to a file with this name: one report alone
abbrev pub IsReportTo : (pages : ℕ) → List Row → (file : Text) → Report → Type 0
IsReportTo pages rows file (Signature range) =
    IsSignature pages (all_of (codes "signature") rows) file range × (first_of (codes "coverage") rows ≡ None)
    × (first_of (codes "profile") rows ≡ None) × (first_of (codes "save") rows ≡ None)
IsReportTo pages rows file Coverage =
    (first_of (codes "coverage") rows ≡ Some file) × (all_of (codes "signature") rows ≡ None)
    × (first_of (codes "profile") rows ≡ None) × (first_of (codes "save") rows ≡ None)
IsReportTo pages rows file (Profile symbols) =
    (first_of (codes "profile") rows ≡ Some file) × (first_of (codes "symbols") rows ≡ Some symbols.now)
    × (all_of (codes "signature") rows ≡ None) × (first_of (codes "coverage") rows ≡ None)
    × (first_of (codes "save") rows ≡ None)
IsReportTo pages rows file SavedGuest =
    (first_of (codes "save") rows ≡ Some file) × (all_of (codes "signature") rows ≡ None)
    × (first_of (codes "coverage") rows ≡ None) × (first_of (codes "profile") rows ≡ None)

-- there is a report if and only if one was asked for
abbrev pub IsReport : (pages : ℕ) → List Row → Option ReportArguments → Type 0
IsReport pages rows None =
    (all_of (codes "signature") rows ≡ None) × (first_of (codes "coverage") rows ≡ None)
    × (first_of (codes "profile") rows ≡ None) × (first_of (codes "save") rows ≡ None)
IsReport pages rows (Some r) = IsReportTo pages rows r.file.now r.report

-- a value came from the words, and is no default
abbrev pub is_from_words : Option ValueSource → Bool
is_from_words (Some CommandLine) = true
is_from_words _ = false

-- whether an option stands among the words
abbrev pub is_given : (option : Text) → List Row → Bool
is_given option rows = is_from_words (option_and_then (λ r. r.source) (find (λ r. bytes_eq r.id option) rows))

-- there is a limit if and only if an option stands among the words, and it is the option's number
abbrev pub IsLimit : (option : Text) → List Row → Option ℕ → Type 0
IsLimit option rows None = is_given option rows ≡ false
IsLimit option rows (Some n) = IsNumber (first_of option rows) n

-- whether a file is named that stands for standard input
abbrev pub is_standard : (name : Option Text) → Bool
is_standard None = false
is_standard (Some name) = bytes_eq name (codes "-")

-- whether a live run is asked for: one that keeps a journal, or reads standard input
abbrev pub is_live : List Row → Bool
is_live rows = is_some (first_of (codes "journal") rows) || is_standard (first_of (codes "input") rows)

-- a guest, its input, its turns, what the status tells, what is looked at while it runs, what is reported of it, and the
-- seed of the order of its harts; neither a live run nor several runs are asked for
pub record IsRun (rows : List Row) (run : RunArguments) : Type 0 where
  pub guest : IsGuest rows run.guest
  pub input : first_of (codes "input") rows ≡ option_map (λ s. s.now) run.input
  pub steps : IsNumber (first_of (codes "steps") rows) run.steps
  pub status : IsStatusOf (one_of (codes "verdict") rows) (one_of (codes "exit-status") rows) run.status
  pub stop_at_fault : IsFlag (one_of (codes "stop-at-fault") rows) run.stop_at_fault
  pub trace : IsTrace rows run.trace
  pub report : IsReport run.guest.pages rows run.report
  pub seed : IsOptionalNumber (first_of (codes "order") rows) run.seed
  pub alone : first_of (codes "orders") rows ≡ None
  pub recorded : is_live rows ≡ false

-- a guest, its input and its journal, the limit of its turns, and what the status tells; a live run is asked for, and no
-- order of harts, no end at faults, no trace and no report
pub record IsLive (rows : List Row) (asked : LiveArguments) : Type 0 where
  pub guest : IsGuest rows asked.guest
  pub input : first_of (codes "input") rows ≡ option_map (λ s. s.now) asked.input
  pub journal : first_of (codes "journal") rows ≡ option_map (λ s. s.now) asked.journal
  pub steps : IsLimit (codes "steps") rows asked.steps
  pub status : IsStatusOf (one_of (codes "verdict") rows) (one_of (codes "exit-status") rows) asked.status
  pub live : is_live rows ≡ true
  pub no_seed : first_of (codes "order") rows ≡ None
  pub alone : first_of (codes "orders") rows ≡ None
  pub on_at_faults : IsFlag (one_of (codes "stop-at-fault") rows) false
  pub no_trace : IsTrace rows None
  pub no_report : IsReport asked.guest.pages rows None

-- a guest, its input and its turns, whether it stops at faults, and the number of seeds by which it is run; a verdict is
-- asked for, and no other status, no seed, no trace, no report and no live run
pub record IsOrders (rows : List Row) (asked : OrdersArguments) : Type 0 where
  pub guest : IsGuest rows asked.guest
  pub input : first_of (codes "input") rows ≡ option_map (λ s. s.now) asked.input
  pub steps : IsNumber (first_of (codes "steps") rows) asked.steps
  pub stop_at_fault : IsFlag (one_of (codes "stop-at-fault") rows) asked.stop_at_fault
  pub orders : IsNumber (first_of (codes "orders") rows) asked.orders
  pub judged : IsStatusOf (one_of (codes "verdict") rows) (one_of (codes "exit-status") rows) Verdict
  pub no_seed : first_of (codes "order") rows ≡ None
  pub no_trace : IsTrace rows None
  pub no_report : IsReport asked.guest.pages rows None
  pub recorded : is_live rows ≡ false

-- a guest, and whether the session is extended
pub record IsDebug (rows : List Row) (asked : DebugArguments) : Type 0 where
  pub guest : IsGuest rows asked.guest
  pub extended : IsFlag (one_of (codes "extended") rows) asked.extended

-- a guest, its script, and its hosts with the version of their streams
pub record IsScript (rows : List Row) (asked : ScriptArguments) : Type 0 where
  pub guest : IsGuest rows asked.guest
  pub script : first_of (codes "script") rows ≡ Some asked.script.now
  pub hosts : IsNumber (first_of (codes "hosts") rows) asked.hosts
  pub stream : IsOptionalNumber (first_of (codes "stream") rows) asked.stream

-- a guest, its turns, when it is paused, the version of the streams, how fast its pages are copied, and whether the status
-- tells how the turns ended
pub record IsMove (rows : List Row) (asked : MoveArguments) : Type 0 where
  pub guest : IsGuest rows asked.guest
  pub steps : IsNumber (first_of (codes "steps") rows) asked.steps
  pub rounds : IsNumber (first_of (codes "rounds") rows) asked.rounds
  pub left : IsNumber (first_of (codes "left") rows) asked.left
  pub factor : IsNumber (first_of (codes "factor") rows) asked.factor
  pub stream : IsNumber (first_of (codes "stream") rows) asked.stream
  pub bandwidth : IsOptionalNumber (first_of (codes "bandwidth") rows) asked.bandwidth
  pub verdict : IsFlag (one_of (codes "verdict") rows) asked.verdict

-- no image was named, and no word says anything of a guest
abbrev pub HasNoGuest : List Row → Type 0
HasNoGuest rows =
    (first_of (codes "image") rows ≡ None) × (is_given (codes "raw") rows ≡ false)
    × (is_given (codes "harts") rows ≡ false) × (is_given (codes "pages") rows ≡ false)

-- there is a guest if and only if an image was named, and it is the guest of that image
abbrev pub IsOptionalGuest : List Row → Option GuestArguments → Type 0
IsOptionalGuest rows None = HasNoGuest rows
IsOptionalGuest rows (Some guest) = IsGuest rows guest

-- a host: its name, its guest if it has one, where it is reached, how long it waits, how fast it goes, and what its status tells
pub record IsHost (rows : List Row) (host : HostArguments) : Type 0 where
  pub name : first_of (codes "name") rows ≡ Some host.name.now
  pub peers : first_of (codes "peers") rows ≡ Some host.peers.now
  pub guest : IsOptionalGuest rows host.guest
  pub listen : first_of (codes "listen") rows ≡ option_map (λ s. s.now) host.listen
  pub control : first_of (codes "control") rows ≡ Some host.control.now
  pub secret : first_of (codes "secret") rows ≡ option_map (λ s. s.now) host.secret
  pub input : first_of (codes "input") rows ≡ option_map (λ s. s.now) host.input
  pub journal : first_of (codes "journal") rows ≡ option_map (λ s. s.now) host.journal
  pub patience : IsNumber (first_of (codes "patience") rows) host.patience
  pub rate : IsOptionalNumber (first_of (codes "rate") rows) host.rate
  pub bandwidth : IsOptionalNumber (first_of (codes "bandwidth") rows) host.bandwidth
  pub until_halt : IsFlag (one_of (codes "until-halt") rows) host.until_halt
  pub verdict : IsFlag (one_of (codes "verdict") rows) host.verdict

-- the host that is told something, and the line, if one was given
pub record IsTell (rows : List Row) (tell : TellArguments) : Type 0 where
  pub control : first_of (codes "socket") rows ≡ Some tell.control.now
  pub line : first_of (codes "line") rows ≡ option_map (λ s. s.now) tell.line

-- the journal of a host, and no other, the image with which the host began, if one is named, the most events that it does
-- again, and the session of a debugger
pub record IsReplay (rows : List Row) (asked : ReplayArguments) : Type 0 where
  pub journal : all_of (codes "journal") rows ≡ Some (asked.journal.now ∷ [])
  pub image : first_of (codes "image") rows ≡ option_map (λ s. s.now) asked.image
  pub until : IsOptionalNumber (first_of (codes "until") rows) asked.until
  pub script : first_of (codes "script") rows ≡ option_map (λ s. s.now) asked.script
  pub no_turns : first_of (codes "turns") rows ≡ None

-- the journals of a world's hosts, the image of the guest that moves between them, how many turns it makes again, and the
-- session of a debugger
pub record IsReplayTurns (rows : List Row) (asked : ReplayTurnsArguments) : Type 0 where
  pub journals : all_of (codes "journal") rows ≡ Some (map (λ s. s.now) asked.journals.items)
  pub image : first_of (codes "image") rows ≡ Some asked.image.now
  pub turns : IsNumber (first_of (codes "turns") rows) asked.turns
  pub script : first_of (codes "script") rows ≡ Some asked.script.now
  pub no_until : first_of (codes "until") rows ≡ None

-- the journals of a world's hosts, the image of the guest that moves between them, whether the order is written, and the
-- file of a chart of it, if one is named
pub record IsAuditJournals (rows : List Row) (asked : AuditJournalsArguments) : Type 0 where
  pub journals : all_of (codes "journal") rows ≡ Some (map (λ s. s.now) asked.journals.items)
  pub image : first_of (codes "image") rows ≡ Some asked.image.now
  pub order : IsFlag (one_of (codes "order") rows) asked.order
  pub chart : first_of (codes "chart") rows ≡ option_map (λ s. s.now) asked.chart

-- what the words of a command with this name ask for
abbrev pub Gives : Text → List Row → Arguments → Type 0
Gives name rows (Run run) = (name ≡ codes "run") × IsRun rows run
Gives name rows (Live asked) = (name ≡ codes "run") × IsLive rows asked
Gives name rows (Orders asked) = (name ≡ codes "run") × IsOrders rows asked
Gives name rows (Debug asked) = (name ≡ codes "debug") × IsDebug rows asked
Gives name rows (Script script) = (name ≡ codes "script") × IsScript rows script
Gives name rows (Move asked) = (name ≡ codes "move") × IsMove rows asked
Gives name rows (Audit asked) = (name ≡ codes "audit") × IsMove rows asked
Gives name rows (Host host) = (name ≡ codes "host") × IsHost rows host
Gives name rows (Tell tell) = (name ≡ codes "tell") × IsTell rows tell
Gives name rows (Replay asked) = (name ≡ codes "replay") × IsReplay rows asked
Gives name rows (ReplayTurns asked) = (name ≡ codes "replay") × IsReplayTurns rows asked
Gives name rows (AuditJournals asked) = (name ≡ codes "audit-journals") × IsAuditJournals rows asked
Gives name rows (Asm asm) =
    (name ≡ codes "asm") × (first_of (codes "source") rows ≡ Some asm.source.now)
    × (first_of (codes "output") rows ≡ Some asm.output.now)
Gives name rows (Dis dis) =
    (name ≡ codes "dis") × (first_of (codes "image") rows ≡ Some dis.image.now)
    × IsFlag (one_of (codes "raw") rows) dis.raw

-- what the command that was named asks for
abbrev pub IsAsked : Option (Text × List Row) → Arguments → Type 0
IsAsked None arguments = ⊥
IsAsked (Some command) arguments = Gives command.0 command.1 arguments

-- whether the command that was named is given `--explain`
abbrev pub IsExplained : Option (Text × List Row) → Bool → Type 0
IsExplained None explain = explain ≡ false
IsExplained (Some command) explain = IsFlag (one_of (codes "explain") command.1) explain
