-- What each command does in each mode.
use Rattle.std.specs.Prelude.{ℕ, suc, ◌-◌, ◌^◌, ◌||◌, ◌==◌, if◌then◌else◌, nat_le, length, get_or, []}
use Rattle.std.specs.declared.option.Option.{Option}
use Rattle.std.specs.declared.option.Option.TheVariants.{Some, None}
use Rattle.rvm_protocol.specs.Guest.{Guest}
use Rattle.rvm_protocol.specs.Frames.{Frame, Offer, Page, RoundEnd, State, Part, Ready, Go, Abort, is_compact}
use Rattle.rvm_protocol.specs.Commands.{Policy, is_allowed, Command, Board, Begin, Copy, Resend, AbortMove}
use Rattle.rvm_protocol.specs.Replies.{BadSize, SeqSpent, NotHere, Paused, Busy, NoMove, EpochsSpent, Answered, Begun, Copied, RoundEnded, Stopping, StateSent, PartSent, Resent, Aborted, Reply}
use Rattle.rvm_protocol.specs.Pages.{size}
use Rattle.rvm_protocol.specs.Rounds.{Rounds, Last, page_count, page_of, next_page, stops, page_copied, next_round, round_over, stopped, to_copy, last_copied, newest_numbers, pieces_of, next_turn}
use Rattle.rvm_protocol.specs.Modes.{Mode, Empty, Run, Offering, Copying, Stopped, Given, Staging, Held, Outcome, says, sends, refuses}

module _ {S P E A B : Type 0} (m : Guest S P E A B) where
  -- an event of the guest; while copies are made, the pages that it writes are logged
  abbrev pub board : E → Mode S P → Outcome S P A B
  board e (Empty n) = refuses NotHere (Empty n)
  board e (Run n g) = says (Answered (m.answer g e)) (Run n (m.next g e))
  board e (Offering n g r) = says (Answered (m.answer g e)) (Offering n (m.next g e) r)
  board e (Copying n r) =
      says (Answered (m.answer r.guest e))
      (Copying n (record r {
        guest = m.next r.guest e;
        log = λ p. r.log p || m.wrote r.guest e p;
      }))
  board e (Stopped n l) = refuses Paused (Stopped n l)
  board e (Given n kept) = refuses NotHere (Given n kept)
  board e (Staging n s) = refuses NotHere (Staging n s)
  board e (Held n g) = refuses Paused (Held n g)

  -- the offer of move n, with the guest's size
  abbrev pub offer_frame : ℕ → S → Frame P B
  offer_frame n g = Offer n (page_count m g) (m.processors g)

  -- a move begins under the next number: its offer is sent, and the guest runs on
  abbrev pub begun : Policy → ℕ → S → Outcome S P A B
  begun p n g = sends (Begun (suc n)) (offer_frame (suc n) g) (Offering (suc n) g p)

  -- begins a move if a move number is left; move numbers travel with the guest and rise at each Begin
  abbrev pub begin_allowed : Policy → ℕ → S → Outcome S P A B
  begin_allowed p n g = if n == 2 ^ 64 - 1 then refuses EpochsSpent (Run n g) else begun p n g

  -- only a host whose guest runs, with no move going on, begins one
  abbrev pub begin : Policy → Mode S P → Outcome S P A B
  begin p (Empty n) = refuses NotHere (Empty n)
  begin p (Run n g) = if is_allowed p then begin_allowed p n g else refuses BadSize (Run n g)
  begin p (Offering n g r) = refuses Busy (Offering n g r)
  begin p (Copying n r) = refuses Busy (Copying n r)
  begin p (Stopped n l) = refuses Busy (Stopped n l)
  begin p (Given n kept) = refuses NotHere (Given n kept)
  begin p (Staging n s) = refuses NotHere (Staging n s)
  begin p (Held n g) = refuses NotHere (Held n g)

  -- page p of the running guest is sent as the move's next copy
  abbrev pub sends_page : ℕ → Rounds S → ℕ → Outcome S P A B
  sends_page n r p =
      sends (Copied p (suc r.copies)) (Page n p (suc r.copies) (page_of m r.guest p))
      (Copying n (page_copied m r p))

  -- copies the round's next page, or ends the round if none is left, by the stop rule
  abbrev pub copy_page : ℕ → Rounds S → Option ℕ → Outcome S P A B
  copy_page n r (Some p) =
      if nat_le (2 ^ 32 - 1) r.copies then refuses SeqSpent (Copying n r) else sends_page n r p
  copy_page n r None =
      let total = size r.to_send (page_count m r.guest) in
      let left = size r.log (page_count m r.guest) in
      sends
      (RoundEnded r.round r.sent (total - r.sent) left)
      (RoundEnd n r.round r.sent (total - r.sent) left)
      (Copying n (if stops m r then round_over m r else next_round m r))

  -- page p of the paused guest is sent as the move's next copy
  abbrev pub sends_last : ℕ → Last S → ℕ → Outcome S P A B
  sends_last n l p =
      sends (Copied p (suc l.copies)) (Page n p (suc l.copies) (page_of m l.guest p))
      (Stopped n (last_copied m l p))

  -- the state of the paused guest, and the number of each page's newest copy
  abbrev pub state_frame : ℕ → Last S → Frame P B
  state_frame n l = State n (newest_numbers m l) (m.body l.guest)

  -- the piece of the state that is sent next
  abbrev pub part_frame : ℕ → Last S → Frame P B
  part_frame n l =
      Part n l.copies l.turn (length (pieces_of m l)) (get_or (pieces_of m l) l.turn [])

  -- sends the state whole or its next piece, by the stream's version
  abbrev pub sends_state : (version : ℕ) → (whole piece : Reply A) → ℕ → Last S → Outcome S P A B
  sends_state version whole piece n l =
      if is_compact version then sends piece (part_frame n l) (Stopped n (next_turn m l))
      else sends whole (state_frame n l) (Stopped n l)

  -- copies the last pages, then sends the state
  abbrev pub copy_last : (version : ℕ) → ℕ → Last S → Option ℕ → Outcome S P A B
  copy_last version n l (Some p) =
      if nat_le (2 ^ 32 - 1) l.copies then refuses SeqSpent (Stopped n l) else sends_last n l p
  copy_last version n l None =
      sends_state version StateSent (PartSent l.turn (length (pieces_of m l))) n l

  -- copies in rounds; once the stop rule has said yes, pauses the guest, and sends the last pages and the state
  abbrev pub copy : (version : ℕ) → Mode S P → Outcome S P A B
  copy version (Empty n) = refuses NotHere (Empty n)
  copy version (Run n g) = refuses NoMove (Run n g)
  copy version (Offering n g r) = refuses Busy (Offering n g r)
  copy version (Copying n r) =
      if r.stop then says Stopping (Stopped n (stopped m r)) else copy_page n r (next_page m r)
  copy version (Stopped n l) = copy_last version n l (to_copy m l)
  copy version (Given n kept) = refuses NotHere (Given n kept)
  copy version (Staging n s) = refuses NotHere (Staging n s)
  copy version (Held n g) = refuses NotHere (Held n g)

  -- sends the state again if no page of the paused guest is left to be copied
  abbrev pub resend_last : (version : ℕ) → ℕ → Last S → Option ℕ → Outcome S P A B
  resend_last version n l (Some p) = refuses NoMove (Stopped n l)
  resend_last version n l None = sends_state version Resent Resent n l

  -- sends again what the other party may not have heard: the offer, the state, Ready or Go
  abbrev pub resend : (version : ℕ) → Mode S P → Outcome S P A B
  resend version (Empty n) = refuses NoMove (Empty n)
  resend version (Run n g) = refuses NoMove (Run n g)
  resend version (Offering n g r) = sends Resent (offer_frame n g) (Offering n g r)
  resend version (Copying n r) = refuses NoMove (Copying n r)
  resend version (Stopped n l) = resend_last version n l (to_copy m l)
  resend version (Given n kept) = sends Resent (Go n) (Given n kept)
  resend version (Staging n s) = refuses NoMove (Staging n s)
  resend version (Held n g) = sends Resent (Ready n) (Held n g)

  -- gives up the move: only a source that has not committed can
  abbrev pub abort : Mode S P → Outcome S P A B
  abort (Empty n) = refuses NotHere (Empty n)
  abort (Run n g) = refuses NoMove (Run n g)
  abort (Offering n g r) = sends Aborted (Abort n) (Run n g)
  abort (Copying n r) = sends Aborted (Abort n) (Run n r.guest)
  abort (Stopped n l) = sends Aborted (Abort n) (Run n l.guest)
  abort (Given n kept) = refuses NotHere (Given n kept)
  abort (Staging n s) = refuses NotHere (Staging n s)
  abort (Held n g) = refuses NotHere (Held n g)

  -- what a command does in a mode
  abbrev pub obey : (version : ℕ) → Command E → Mode S P → Outcome S P A B
  obey version (Board e) mode = board e mode
  obey version (Begin to p) mode = begin p mode
  obey version Copy mode = copy version mode
  obey version Resend mode = resend version mode
  obey version AbortMove mode = abort mode
