-- Entries of commands, and the events of the world that they are.
use Rattle.std.proofs.Common.{◌≡◌, ◌≢◌, ◌∙◌, ℕ, zero, suc, ◌+◌, ◌*◌, ◌%◌, ◌<◌, ◌≤◌, List, [], ◌∷◌, ◌++◌, length, drop, Option, Some, None, refl, sym, ap, subst, arith}
use Rattle.std.specs.Prelude.{slice_get}
use Rattle.std.proofs.lemmas.List.{append_assoc, append-nil}
use Rattle.std.proofs.lemmas.Option.{same_Some}
use Rattle.rvm_board.specs.declared.event.BoardEvent.TheVariants.{Drain, Step}
use Rattle.rvm_recorder.specs.Entries.{PlainEntry}
use Rattle.rvm_recorder.specs.Items.{dry_entry, rounds_in_turn, steps_in_turn}
use Rattle.rvm_recorder.proofs.StepRuns.{steps_length}
use Rattle.rvm_recorder.proofs.InRounds.{rounds_length}
use Rattle.rvm_recorder.proofs.Spans.{drop_at, entry_at}
use Rattle.rvm_message.specs.declared.event.Command.{Command}
use Rattle.rvm_message.specs.declared.event.Command.TheVariants.{Board}
use Rattle.rvm_message.specs.declared.event.HostEvent.TheVariants.{Do}
use Rattle.rvm_core.specs.declared.event.Event.{Event}
use Rattle.rvm_core.specs.declared.event.Event.TheVariants.{At}
use Rattle.rvm_audit.specs.declared.placed.Placed.{Placed}
use Rattle.rvm_audit.specs.Placed.{all_events, events_behind, events_of, rounds_at, steps_at}

-- an entry is of a command, which made no frame, and this is its event
pub record IsCommand (x : ℕ) (n : PlainEntry) (e : Event) : Type 0 where
  pub command : Command
  pub event : n.event ≡ Do command
  pub stands : e ≡ At x command
  pub silent : n.frame ≡ None

-- all entries are of commands, which made no frame, and these are their events
abbrev pub AreCommands : ℕ → List PlainEntry → List Event → Type 0
AreCommands x [] [] = Unit {0}
AreCommands x [] (e ∷ es) = ⊥
AreCommands x (n ∷ ns) [] = ⊥
AreCommands x (n ∷ ns) (e ∷ es) = IsCommand x n e × AreCommands x ns es

commands_append : (x : ℕ) (xs ys : List PlainEntry) (es fs : List Event) → AreCommands x xs es → AreCommands x ys fs
    → AreCommands x (xs ++ ys) (es ++ fs)
commands_append x [] ys [] fs so more = more
commands_append x [] ys (e ∷ es) fs so more = absurd so
commands_append x (n ∷ ns) ys [] fs so more = absurd so
commands_append x (n ∷ ns) ys (e ∷ es) fs so more = (so.0, commands_append x ns ys es fs so.1 more)

-- the entries and the events of steps in turn
pub steps_are : (x : ℕ) (turn harts n : ℕ) → AreCommands x (steps_in_turn turn harts n) (steps_at x turn harts n)
unfolding steps_in_turn steps_at
steps_are x turn harts zero = tt
steps_are x turn harts (suc n) = (
  record { command = Board (Step (turn % harts)); event = refl; stands = refl; silent = refl },
  steps_are x (turn + 1) harts n,
)

-- the entries and the events of rounds
pub rounds_are : (x : ℕ) (turn harts steps drain n : ℕ)
    → AreCommands x (rounds_in_turn turn harts steps drain n) (rounds_at x turn harts steps drain n)
unfolding rounds_in_turn rounds_at
rounds_are x turn harts steps drain zero = tt
rounds_are x turn harts steps drain (suc n) =
    commands_append x (steps_in_turn turn harts steps)
    (dry_entry drain ∷ rounds_in_turn (turn + steps) harts steps drain n) (steps_at x turn harts steps)
    (At x (Board (Drain drain)) ∷ rounds_at x (turn + steps) harts steps drain n)
    (steps_are x turn harts steps) (
      record { command = Board (Drain drain); event = refl; stands = refl; silent = refl },
      rounds_are x (turn + steps) harts steps drain n,
    )

-- there are as many events as entries
commands_length : (x : ℕ) (xs : List PlainEntry) (es : List Event) → AreCommands x xs es → length es ≡ length xs
commands_length x [] [] so = refl
commands_length x [] (e ∷ es) so = absurd so
commands_length x (n ∷ ns) [] so = absurd so
commands_length x (n ∷ ns) (e ∷ es) so = ap suc (commands_length x ns es so.1)

-- the event of an entry
command_at : (x : ℕ) (xs : List PlainEntry) (es : List Event) (k : ℕ) (n : PlainEntry) → AreCommands x xs es
    → slice_get xs k ≡ Some n → (e : Event) × (slice_get es k ≡ Some e) × IsCommand x n e
command_at x [] es k n so at = cc
command_at x (m ∷ ns) [] k n so at = absurd so
command_at x (m ∷ ns) (e ∷ es) zero n so at = (e, refl, subst (λ y. IsCommand x y e) (same_Some m n at) so.0)
command_at x (m ∷ ns) (e ∷ es) (suc k) n so at = command_at x ns es k n so.1 at

none_at : {X : Type 0} (xs : List X) (k : ℕ) → length xs ≤ k → slice_get xs k ≡ None
none_at [] k le = refl
none_at (x ∷ xs) zero le = absurd (omega (arith, le))
none_at (x ∷ xs) (suc k) le = none_at xs k (omega (arith, le))

-- the event of steps with this index
pub step_stands : (x : ℕ) (turn harts n k : ℕ) → k < n
    → slice_get (steps_at x turn harts n) k ≡ Some (At x (Board (Step ((turn + k) % harts))))
step_stands x turn harts n k less =
    let at = command_at x (steps_in_turn turn harts n) (steps_at x turn harts n) k _
    (steps_are x turn harts n) (entry_at k turn harts n less) in
    let is : Board (Step ((turn + k) % harts)) ≡ at.2.command = let same = at.2.event in cc in
    at.1 ∙ ap Some (at.2.stands ∙ ap (λ c. At x c) (sym is))

pub steps_end : (x : ℕ) (turn harts n k : ℕ) → n ≤ k → None ≡ slice_get (steps_at x turn harts n) k
steps_end x turn harts n k le =
    let long = commands_length x (steps_in_turn turn harts n) (steps_at x turn harts n) (steps_are x turn harts n) ∙ steps_length turn harts n in
    sym (none_at (steps_at x turn harts n) k (omega (arith, long, le)))

-- the event of rounds with this index, of which the entry is known
pub round_stands : (x : ℕ) (turn harts steps drain n k : ℕ) (entry : PlainEntry) (result : Option Event)
    → slice_get (rounds_in_turn turn harts steps drain n) k ≡ Some entry
    → ((c : Command) → entry.event ≡ Do c → result ≡ Some (At x c))
    → result ≡ slice_get (rounds_at x turn harts steps drain n) k
round_stands x turn harts steps drain n k entry result there told =
    let at = command_at x (rounds_in_turn turn harts steps drain n) (rounds_at x turn harts steps drain n) k entry
    (rounds_are x turn harts steps drain n) there in
    told at.2.command at.2.event ∙ ap Some (sym at.2.stands) ∙ sym at.1

pub rounds_end : (x : ℕ) (turn harts steps drain n k : ℕ) → n * (steps + 1) ≤ k
    → None ≡ slice_get (rounds_at x turn harts steps drain n) k
rounds_end x turn harts steps drain n k le =
    let long = commands_length x (rounds_in_turn turn harts steps drain n) (rounds_at x turn harts steps drain n)
    (rounds_are x turn harts steps drain n) ∙ rounds_length turn harts steps drain n in
    sym (none_at (rounds_at x turn harts steps drain n) k (omega (arith, long, le)))

pub none_behind : (e : Event) (k : ℕ) → k ≢ 0 → None ≡ slice_get (e ∷ []) k
none_behind e zero some = absurd (some refl)
none_behind e (suc k) some = refl

-- ORDERS

-- one more piece after the others
pub all_pushed : (ps : List Placed) (p : Placed) → all_events (ps ++ p ∷ []) ≡ all_events ps ++ events_of p
all_pushed [] p = append-nil (events_of p)
all_pushed (q ∷ ps) p =
    ap (λ es. events_of q ++ es) (all_pushed ps p) ∙ sym (append_assoc (events_of q) (all_events ps) (events_of p))

-- nothing of the first piece was passed
pub from_first : (ps : List Placed) → events_behind ps 0 ≡ all_events ps
from_first [] = refl
from_first (p ∷ ps) = refl

-- the next event is one of the first piece
pub next_event : (p : Placed) (ps items : List Placed) (k : ℕ) (e : Event) → items ≡ p ∷ ps → Some e ≡ slice_get (events_of p) k
    → events_behind items k ≡ e ∷ events_behind items (k + 1)
next_event p ps items k e is at =
    ap (λ qs. events_behind qs k) is ∙ ap (λ es. es ++ all_events ps) (drop_at (events_of p) k e (sym at))
    ∙ ap (λ qs. e ∷ events_behind qs (k + 1)) (sym is)

ended : (es : List Event) (k : ℕ) → None ≡ slice_get es k → drop k es ≡ []
ended [] zero is = refl
ended [] (suc k) is = refl
ended (e ∷ es) zero is = cc
ended (e ∷ es) (suc k) is = ended es k is

-- the first piece has no more events
pub next_placed : (p : Placed) (ps items : List Placed) (k : ℕ) → items ≡ p ∷ ps → None ≡ slice_get (events_of p) k
    → events_behind ps 0 ≡ events_behind items k
next_placed p ps items k is none =
    from_first ps ∙ ap (λ es. es ++ all_events ps) (sym (ended (events_of p) k none)) ∙ sym (ap (λ qs. events_behind qs k) is)

-- no piece is left
pub nothing_behind : (items : List Placed) (k : ℕ) → length items ≡ 0 → events_behind items k ≡ []
nothing_behind [] k is = refl
nothing_behind (p ∷ ps) k is = absurd (omega (arith, is))
