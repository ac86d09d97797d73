-- How a command line ended.
use Rattle.std.specs.Prelude.{◌≡◌, ◌⊎◌, ⊤, ℕ, true, List, [], Option, Some}
use Rattle.clap.specs.Faults.{fault_of}
use Rattle.clap.specs.Kinds.{IsAmong}
use Rattle.clap.specs.Simple.{subcommand_of}
use Rattle.clap.specs.Walk.{Text}
use Rattle.clap.specs.declared.error.kind.ErrorKind.TheVariants as kind
use Rattle.rvm_arguments.specs.declared.arguments.Arguments.{Arguments}
use Rattle.rvm_arguments.specs.declared.arguments.Arguments.TheVariants.{AuditJournals, Host, Live, Move, Orders, ReplayTurns, Run, Tell}
use Rattle.rvm_arguments.specs.declared.arguments.CommandLine.{CommandLine}
use Rattle.rvm_arguments.specs.declared.arguments.StatusOf.{StatusOf}
use Rattle.rvm_arguments.specs.declared.arguments.StatusOf.TheVariants.{Command, Verdict, Guest}
use Rattle.rvm_command_line.specs.Given.{IsAsked, IsExplained}
use Rattle.rvm_command_line.specs.Program.{faults_of, program}
use Rattle.rvm_program.specs.Ended.{HasEnded, IsUnbegun, IsUntold, Written, written}
use Rattle.rvm_files.specs.Files.{Named}
use Rattle.rvm_files.specs.Reports.{GoesOut}

-- words have no fault for `clap`, and this holds of what they ask for
pub record AskFor (words : List Text) (Holds : Arguments → Type 0) : Type 0 where
  pub faultless : fault_of program words ≡ []
  pub arguments : Arguments
  pub asked : IsAsked (subcommand_of program words) arguments
  pub holds : Holds arguments

-- what words ask for has ended with this status
abbrev pub IsEnded : (files created : Named) → (words : List Text) → (status : ℕ) → (script : Option (List ℕ))
    → (output errors : Written) → Type 0
IsEnded files created words status script output errors =
    AskFor words (λ a. HasEnded files created a status script output errors)

-- how a command with the status 1 ended: it was refused, or passes on the status 1 of a guest, or did not begin, and
-- that was reported; or a write to the errors failed
abbrev pub HasFailed : (files created : Named) → Arguments → (script : Option (List ℕ)) → (output errors : Written) → Type 0
HasFailed files created a script output errors =
    HasEnded files created a 1 script output errors
    ⊎ (IsUnbegun files a 1 errors ⊎ IsUntold files created a script output)

-- what words ask for failed so
abbrev pub IsRefused : (files created : Named) → (words : List Text) → (script : Option (List ℕ)) → (output errors : Written)
    → Type 0
IsRefused files created words script output errors =
    AskFor words (λ a. HasFailed files created a script output errors)

-- a command may be left open, with the status 3: a host is told something, and an answer may be lost; or an order of journals
-- is looked for, and what was cut off from them may decide
abbrev pub MayBeOpen : Arguments → Type 0
MayBeOpen (Tell a) = ⊤
MayBeOpen (ReplayTurns a) = ⊤
MayBeOpen (AuditJournals a) = ⊤
MayBeOpen other = ⊥

-- words ask for such a command
abbrev pub AskForOpen : (words : List Text) → Type 0
AskForOpen words = AskFor words (λ a. MayBeOpen a)

-- a status tells more than that a run ended
abbrev pub TellsMore : StatusOf → Type 0
TellsMore Command = ⊥
TellsMore Verdict = ⊤
TellsMore Guest = ⊤

-- a run, several, a move or a host have a status that tells how they, or its guest there, ended
abbrev pub IsJudged : Arguments → Type 0
IsJudged (Run a) = TellsMore a.status
IsJudged (Live a) = TellsMore a.status
IsJudged (Orders a) = ⊤
IsJudged (Move a) = a.verdict ≡ true
IsJudged (Host a) = a.verdict ≡ true
IsJudged other = ⊥

-- words ask for such a status
abbrev pub AreJudged : (words : List Text) → Type 0
AreJudged words = AskFor words (λ a. IsJudged a)

-- a run has the status of its guest
abbrev pub IsPassingOn : Arguments → Type 0
IsPassingOn (Run a) = a.status ≡ Guest
IsPassingOn (Live a) = a.status ≡ Guest
IsPassingOn other = ⊥

-- words ask for a run with the status of its guest
abbrev pub ArePassingOn : (words : List Text) → Type 0
ArePassingOn words = AskFor words (λ a. IsPassingOn a)

-- words ask for their refusal to be explained
abbrev pub AreExplained : (words : List Text) → Type 0
AreExplained words = IsExplained (subcommand_of program words) true

-- a command with a status other than 1 reported to a buffer, and its report went to the errors
pub record IsReported (Ends : (errors : Written) → Type 0) (errors : Written) : Type 0 where
  pub report : List ℕ
  pub ended : Ends (written (Some []) (Some report))
  pub out : GoesOut report errors.before errors.after

-- a command with the status 1 reported to a buffer. Its report goes to the errors, and then what explains it; it is not
-- known how much of both was written
pub record IsExplainedSo (Fails : (errors : Written) → Type 0) : Type 0 where
  pub report : List ℕ
  pub failed : Fails (written (Some []) (Some report))

-- a command has ended with this status, and reported so itself, or to a buffer
abbrev pub HasEndedEither : (files created : Named) → Arguments → (status : ℕ) → (script : Option (List ℕ))
    → (output errors : Written) → Type 0
HasEndedEither files created a status script output errors =
    HasEnded files created a status script output errors
    ⊎ IsReported (λ told. HasEnded files created a status script output told) errors

-- and one with the status 1
abbrev pub HasFailedEither : (files created : Named) → Arguments → (script : Option (List ℕ))
    → (output errors : Written) → Type 0
HasFailedEither files created a script output errors =
    HasFailed files created a script output errors
    ⊎ IsExplainedSo (λ told. HasFailed files created a script output told)

-- a command line has ended with this status; to a buffer it reported only if its refusal was to be explained
abbrev pub HasEndedSo : (files created : Named) → CommandLine → (status : ℕ) → (script : Option (List ℕ))
    → (output errors : Written) → Type 0
HasEndedSo files created line status script output errors =
    HasEnded files created line.arguments status script output errors
    ⊎ ((line.explain ≡ true)
    × IsReported (λ told. HasEnded files created line.arguments status script output told) errors)

-- and one with the status 1
abbrev pub HasFailedSo : (files created : Named) → CommandLine → (script : Option (List ℕ))
    → (output errors : Written) → Type 0
HasFailedSo files created line script output errors =
    HasFailed files created line.arguments script output errors
    ⊎ ((line.explain ≡ true) × IsExplainedSo (λ told. HasFailed files created line.arguments script output told))

-- words ask for this of their command; or, with an explanation of its refusal, for the other
abbrev pub AskForEither : (words : List Text) → (Plain Explained : Arguments → Type 0) → Type 0
AskForEither words Plain Explained = AskFor words Plain ⊎ (AreExplained words × AskFor words Explained)

-- what words ask for has ended with this status, perhaps with an explanation of its refusal
abbrev pub IsEndedSo : (files created : Named) → (words : List Text) → (status : ℕ) → (script : Option (List ℕ))
    → (output errors : Written) → Type 0
IsEndedSo files created words status script output errors =
    AskForEither words (λ a. HasEnded files created a status script output errors)
    (λ a. IsReported (λ told. HasEnded files created a status script output told) errors)

-- what words ask for failed so, perhaps with an explanation of its refusal
abbrev pub IsRefusedSo : (files created : Named) → (words : List Text) → (script : Option (List ℕ))
    → (output errors : Written) → Type 0
IsRefusedSo files created words script output errors =
    AskForEither words (λ a. HasFailed files created a script output errors)
    (λ a. IsExplainedSo (λ told. HasFailed files created a script output told))

-- words may ask for help
abbrev pub AskHelp : (words : List Text) → Type 0
AskHelp words = IsAmong kind.DisplayHelp (faults_of words)

-- words may ask for the version
abbrev pub AskVersion : (words : List Text) → Type 0
AskVersion words = IsAmong kind.DisplayVersion (faults_of words)

-- words ask for help or for the version, and nothing went to the errors
abbrev pub IsShown : (words : List Text) → (errors : Written) → Type 0
IsShown words errors = (AskHelp words ⊎ AskVersion words) × (errors.after ≡ errors.before)

-- words have a fault for `clap`, and ask for neither
pub record AreFaulty (words : List Text) : Type 0 where
  pub faulty : fault_of program words ≡ [] → ⊥
  pub no_help : AskHelp words → ⊥
  pub no_version : AskVersion words → ⊥
