-- Runs of steps and rounds, and the entries and replies that they stand for.
use Rattle.std.specs.Prelude.{ℕ, zero, suc, ◌+◌, ◌%◌, Bool, false, List, [], ◌∷◌, ◌++◌, replicate, Option, Some, None}
use Rattle.rvm_hart.specs.declared.outcome.Stepped as outcome
use Rattle.rvm_hart.specs.declared.outcome.Stepped.TheVariants.{Retired}
use Rattle.rvm_board.specs.declared.retiring.Retired as told
use Rattle.rvm_recorder.specs.declared.item.ItemRef.{ItemRef}
use Rattle.rvm_recorder.specs.declared.item.ItemRef.TheVariants as look
use Rattle.rvm_recorder.specs.declared.item.Kind.{Kind}
use Rattle.rvm_recorder.specs.declared.item.Kind.TheVariants as kind
use Rattle.rvm_recorder.specs.declared.rounds.Rounds.{Rounds}
use Rattle.rvm_recorder.specs.declared.run.StepRun.{StepRun}
use Rattle.rvm_recorder.specs.Entries.{PlainEntry, silent}
use Rattle.rvm_message.specs.declared.step.StepReply.{StepReply}
use Rattle.rvm_message.specs.declared.step.StepReply.TheVariants.{Stepped}
use Rattle.rvm_message.specs.Exchanges.{dry_exchange, step_of_hart}
use Rattle.rvm_message.specs.Replies.{ends_steps, reply_of}
use Rattle.rvm_message.specs.Steps.{reply_to_step}

-- the entry of a step of the hart whose turn it is
abbrev pub step_entry : (turn harts : ℕ) → StepReply → PlainEntry
step_entry turn harts r = silent (step_of_hart (turn % harts)) (reply_to_step r)

-- n steps of this many harts in turn, from this turn on, each of which retired an instruction
unfoldable pub steps_in_turn : (turn harts n : ℕ) → List PlainEntry
steps_in_turn turn harts zero = []
steps_in_turn turn harts (suc n) = step_entry turn harts (Stepped Retired) ∷ steps_in_turn (turn + 1) harts n

-- a drain of at most this many bytes that found none
abbrev pub dry_entry : (drain : ℕ) → PlainEntry
dry_entry n = silent (dry_exchange n).event (dry_exchange n).reply

-- n rounds, each of this many steps in turn and such a drain after them
unfoldable pub rounds_in_turn : (turn harts steps drain n : ℕ) → List PlainEntry
rounds_in_turn turn harts steps drain zero = []
rounds_in_turn turn harts steps drain (suc n) =
    steps_in_turn turn harts steps ++ (dry_entry drain ∷ rounds_in_turn (turn + steps) harts steps drain n)

-- the entries of rounds
abbrev pub rounds_of : Rounds → List PlainEntry
rounds_of r = rounds_in_turn r.turn r.harts r.steps r.drain r.count

-- the entries that are kept in this way
abbrev pub entries_of : Kind → List PlainEntry
entries_of (kind.Entry e) = e ∷ []
entries_of (kind.Steps s) = steps_in_turn s.turn s.harts s.count
entries_of (kind.Rounds r) = rounds_of r

-- the entries that a view shows
abbrev pub entries_at : ItemRef → List PlainEntry
entries_at (look.Entry e) = e.now ∷ []
entries_at (look.Steps s) = steps_in_turn s.turn s.harts s.count
entries_at (look.Rounds r) = rounds_of r

-- the entries of consecutive items
abbrev pub all_of : List (List PlainEntry) → List PlainEntry
all_of [] = []
all_of (xs ∷ items) = xs ++ all_of items

-- the entry of a step after others, if one was made
abbrev pub last_of : (turn harts : ℕ) → Option StepReply → List PlainEntry
last_of turn harts None = []
last_of turn harts (Some r) = step_entry turn harts r ∷ []

-- the entries of a run from this turn on
abbrev pub entries_in : (turn harts : ℕ) → StepRun → List PlainEntry
entries_in turn harts run =
    steps_in_turn turn harts run.retired ++ last_of (turn + run.retired) harts run.last

-- the reply after others, if there is one
abbrev pub last_reply : Option StepReply → List StepReply
last_reply None = []
last_reply (Some r) = r ∷ []

-- the replies of a run
abbrev pub replies_in : StepRun → List StepReply
replies_in run = replicate run.retired (Stepped Retired) ++ last_reply run.last

-- the replies of consecutive runs
abbrev pub replies_of_all : List StepRun → List StepReply
replies_of_all [] = []
replies_of_all (run ∷ runs) = replies_in run ++ replies_of_all runs

-- 1 if there is a reply after others, else 0
abbrev pub one_if : Option StepReply → ℕ
one_if None = 0
one_if (Some r) = 1

-- how many steps a run has
abbrev pub steps_of : StepRun → ℕ
steps_of run = run.retired + one_if run.last

-- the reply to the last step that a host made, if it retired no instruction
abbrev pub reply_of_last : Option outcome.Stepped → Option StepReply
reply_of_last None = None
reply_of_last (Some s) = Some (Stepped s)

-- the run of the steps that a host made
abbrev pub run_of : told.Retired → StepRun
run_of made = record { retired = made.count; last = reply_of_last made.last }

-- whether there is a reply after others, and no step is made after it
abbrev pub ends_at : Option StepReply → Bool
ends_at None = false
ends_at (Some r) = ends_steps (reply_of (reply_to_step r))

-- whether a run ends with a reply after which no step is made
abbrev pub ends_run : StepRun → Bool
ends_run run = ends_at run.last
