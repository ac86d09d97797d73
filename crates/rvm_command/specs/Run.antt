-- A run: its events, what the debugger makes of them, and how it ends.
use Rattle.std.specs.Prelude.{◌≡◌, ℕ, zero, suc, ◌+◌, ◌/◌, ◌%◌, ◌==◌, if◌then◌else◌, List, [], ◌∷◌, ◌++◌, length, replicate, Option, None}
use Rattle.rvm_mem.specs.Pages.{mark_all}
use Rattle.rvm_board.specs.declared.event.BoardEvent.{BoardEvent}
use Rattle.rvm_board.specs.declared.event.BoardEvent.TheVariants.{Step, Input, Drain}
use Rattle.rvm_board.specs.declared.event.BoardReply.{BoardReply}
use Rattle.rvm_board.specs.declared.event.BoardReply.TheVariants.{Halted, Bytes, Refused}
use Rattle.rvm_board.specs.Guest.{Guest, GuestState}
use Rattle.rvm_board.specs.Events.{answered}
use Rattle.rvm_command.specs.declared.run.Ended.{Ended}
use Rattle.rvm_command.specs.declared.run.Ended.TheVariants as ended
use Rattle.rvm_command.specs.Order.{drawn}

-- what events leave: the guest, the pages that they wrote, and the bytes that answered them
pub record After : Type 0 where
  pub guest : Guest
  pub pages : List ℕ
  pub bytes : List ℕ

-- the bytes in an answer
abbrev pub bytes_in : BoardReply → List ℕ
bytes_in (Bytes bytes) = bytes
bytes_in reply = []

-- what events leave of a guest, in order
unfoldable pub after : List BoardEvent → Guest → After
after [] g = record { guest = g; pages = []; bytes = [] }
after (event ∷ events) g =
    let a = answered event g in
    let rest = after events a.guest in
    record {
      guest = rest.guest;
      pages = a.pages ++ rest.pages;
      bytes = bytes_in a.reply ++ rest.bytes;
    }

-- the events of a run, in their order, and how it ended
pub record Run : Type 0 where
  pub events : List BoardEvent
  pub ended : Ended

-- the run that begins with these events and goes on with the rest
abbrev pub first : List BoardEvent → Run → Run
first events rest = record rest { events = events ++ rest.events }

-- the drains that take what the guest sent, 256 bytes at a time, until nothing waits
abbrev pub drains : Guest → List BoardEvent
drains g = replicate ((length g.board.shared.devices.output + 255) / 256) (Drain 256)

-- the event that offers the next byte of input, if any is left
abbrev pub offers : List ℕ → List BoardEvent
offers [] = []
offers (byte ∷ rest) = Input byte ∷ []

-- the input that is left after a byte was offered: a byte that is refused is kept for later
abbrev pub unless_refused : BoardReply → (input rest : List ℕ) → List ℕ
unless_refused (Refused why) input rest = input
unless_refused reply input rest = rest

-- the input that is left after the next byte was offered to this guest
abbrev pub left : List ℕ → Guest → List ℕ
left [] g = []
left (byte ∷ rest) g = unless_refused (answered (Input byte) g).reply (byte ∷ rest) rest

-- the step of turn t: by the hart that is drawn, modulo the number of harts
abbrev pub step_by : (seed : Option ℕ) → (t : ℕ) → Guest → BoardEvent
step_by seed t g = Step (drawn seed t % length g.board.harts)

-- the step of turn t without a seed: by hart t modulo the number of harts
abbrev pub step_of : (t : ℕ) → Guest → BoardEvent
step_of t g = step_by None t g

-- the rest of a run after this answer to a step: if the board is halted, the run ends with drains
abbrev pub unless_halted : BoardReply → Guest → Run → Run
unless_halted (Halted s) g rest = record { events = drains g; ended = ended.HaltedWith s }
unless_halted reply g rest = rest

-- n turns from turn t on: the next byte is offered, and a hart steps; what the guest sent is taken
-- after each 64 turns, at a halt and at the end
unfoldable pub run_by : (seed : Option ℕ) → (n t : ℕ) → (input : List ℕ) → Guest → Run
run_by seed zero t input g = record { events = drains g; ended = ended.StepsSpent }
run_by seed (suc n) t input g =
    let offered = (after (offers input) g).guest in
    let turn = answered (step_by seed t g) offered in
    let taken = if t % 64 == 63 then drains turn.guest else [] in
    first (offers input ++ step_by seed t g ∷ [])
    (unless_halted turn.reply turn.guest
    (first taken (run_by seed n (t + 1) (left input g) (after taken turn.guest).guest)))

-- such turns without a seed
abbrev pub run_from : (n t : ℕ) → (input : List ℕ) → Guest → Run
run_from n t input g = run_by None n t input g

-- what a run leaves: the guest, the pages that it wrote, the bytes that it writes, and how it ended
pub record Ran : Type 0 where
  pub guest : Guest
  pub pages : List ℕ
  pub written : List ℕ
  pub ended : Ended

-- what a run of at most this many turns leaves of a guest, with this input
abbrev pub ran_by : (seed : Option ℕ) → (steps : ℕ) → (input : List ℕ) → Guest → Ran
ran_by seed steps input g =
    let run = run_by seed steps 0 input g in
    let all = after run.events g in
    record { guest = all.guest; pages = all.pages; written = all.bytes; ended = run.ended }

-- the same without a seed
abbrev pub ran : (steps : ℕ) → (input : List ℕ) → Guest → Ran
ran steps input g = ran_by None steps input g

-- a guest and its dirty log are as events left them
pub record IsAfter (events : List BoardEvent) (old new : GuestState) : Type 0 where
  pub guest : new.guest ≡ (after events old.guest).guest
  pub dirty : new.dirty ≡ mark_all (after events old.guest).pages old.dirty

-- a guest and its dirty log are as some of the first of these events left them
pub record IsPartWay (events : List BoardEvent) (old new : GuestState) : Type 0 where
  pub made : List BoardEvent
  pub left : List BoardEvent
  pub whole : made ++ left ≡ events
  pub so_far : IsAfter made old new
