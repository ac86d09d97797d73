-- What each frame that comes does in each mode. Frames that are not named here are ignored, and so
-- is a frame of another move than the mode's.
use Rattle.std.specs.Prelude.{ℕ, ◌&&◌, ◌||◌, ◌==◌, if◌then◌else◌, nat_lt, List, length}
use Rattle.std.specs.declared.option.Option.{Option}
use Rattle.std.specs.declared.option.Option.TheVariants.{Some, None}
use Rattle.rvm_protocol.specs.Guest.{Guest}
use Rattle.rvm_protocol.specs.Frames.{Frame, Offer, Accept, Refuse, Page, RoundEnd, Lost, State, Part, Ready, Go, Started, Abort}
use Rattle.rvm_protocol.specs.Replies.{BadState, Resent, Accepted, Declined, Open, MoveDeclined, Stored, Noted, Kept, Lacking, ReadySent, Fixing, Committed, StartedHere, Finished, Dropped}
use Rattle.rvm_protocol.specs.Pages.{size, members, gathered, is_in}
use Rattle.rvm_protocol.specs.Rounds.{Last, page_count, opened}
use Rattle.rvm_protocol.specs.Staging.{Stage, new_stage, with_page, lacks, takes_part, with_part}
use Rattle.rvm_protocol.specs.Modes.{Mode, Empty, Run, Offering, Copying, Stopped, Given, Staging, Held, Outcome, says, sends, refuses, ignores}

module _ {S P E A B : Type 0} (m : Guest S P E A B) where
  -- the outcome o if the frame's move is the mode's, else the frame is ignored
  abbrev pub of_this_move : ℕ → ℕ → Outcome S P A B → Mode S P → Outcome S P A B
  of_this_move n k o mode = if n == k then o else ignores mode

  -- a guest of more pages than the host takes is declined, any other is staged
  abbrev pub offered : (limit n pages processors : ℕ) → Mode S P → Outcome S P A B
  offered limit n pages processors mode =
      if nat_lt limit pages then sends (Declined limit) (Refuse n limit) mode
      else sends Accepted (Accept n) (Staging n (new_stage m.zeros pages processors))

  -- an offer counts if its move is above all that this host has seen
  abbrev pub offer_above : (seen limit n pages processors : ℕ) → Mode S P → Outcome S P A B
  offer_above seen limit n pages processors mode =
      if nat_lt seen n then offered limit n pages processors mode else ignores mode

  -- a copy is staged if it is newer than the one that is there
  abbrev pub page_came : ℕ → Stage P → ℕ → ℕ → P → Outcome S P A B
  page_came n s p k b =
      if nat_lt p (length s.pages) && nat_lt (s.have p) k
      then says (Stored p k) (Staging n (with_page s p k b))
      else ignores (Staging n s)

  -- a state that no guest has is bad, and leaves the old stage
  abbrev pub guest_read : ℕ → (old : Stage P) → Option S → Outcome S P A B
  guest_read n old None = refuses BadState (Staging n old)
  guest_read n old (Some g) = sends ReadySent (Ready n) (Held n g)

  -- the guest is made if each copy that the numbers name, or a newer one, is there; else the target
  -- reports the pages that it lacks
  abbrev pub state_compared : ℕ → (old s : Stage P) → List ℕ → B → Outcome S P A B
  state_compared n old s numbers body =
      let missing = lacks s numbers in
      let count = size (lacks s numbers) (length s.pages) in
      if nat_lt 0 count
      then sends (Lacking count) (Lost n (members missing 0 (length s.pages))) (Staging n s)
      else guest_read n old (m.build s.processors body s.pages)

  -- a state that does not have a number for each page of the stage is bad
  abbrev pub state_came : ℕ → (old s : Stage P) → List ℕ → B → Outcome S P A B
  state_came n old s numbers body =
      if length numbers == length s.pages then state_compared n old s numbers body
      else refuses BadState (Staging n old)

  -- pieces that join to no state are bad
  abbrev pub pieces_joined : ℕ → (old s : Stage P) → Option (List ℕ × B) → Outcome S P A B
  pieces_joined n old s None = refuses BadState (Staging n old)
  pieces_joined n old s (Some state) = state_came n old s state.0 state.1

  -- once all pieces are there, the reply to each piece is the one to the state that they join to
  abbrev pub part_kept : ℕ → (old s : Stage P) → (part parts : ℕ) → Option (List (List ℕ))
      → Outcome S P A B
  part_kept n old s part parts None = says (Kept part parts) (Staging n s)
  part_kept n old s part parts (Some pieces) = pieces_joined n old s (m.join pieces)

  -- a piece is kept with the others if the stage takes it
  abbrev pub part_came : ℕ → Stage P → (stamp part parts : ℕ) → List ℕ → Outcome S P A B
  part_came n s stamp part parts bytes =
      if takes_part s stamp part parts
      then (
      let t = with_part s stamp part parts bytes in
      part_kept n s t part parts (gathered t.pieces 0 parts)
      )
      else ignores (Staging n s)

  -- pages that were reported lost are to be copied again
  abbrev pub lost_came : ℕ → Last S → List ℕ → Outcome S P A B
  lost_came n l ps =
      says (Fixing (size (is_in ps) (page_count m l.guest)))
      (Stopped n (record l {
        to_fix = λ p. l.to_fix p || (is_in ps p && nat_lt p (page_count m l.guest));
      }))

  -- what a frame does in a mode of a host that takes guests of at most limit pages
  abbrev pub came : ℕ → Frame P B → Mode S P → Outcome S P A B
  came limit (Offer k pages processors) (Empty n) =
      offer_above n limit k pages processors (Empty n)
  came limit (Offer k pages processors) (Given n kept) =
      offer_above n limit k pages processors (Given n kept)
  came limit (Offer k pages processors) (Held n g) =
      offer_above n limit k pages processors (Held n g)
  came limit (Offer k pages processors) (Staging n s) =
      if n == k then sends Accepted (Accept n) (Staging n s)
      else offer_above n limit k pages processors (Staging n s)
  came limit (Accept k) (Offering n g p) =
      of_this_move n k (says Open (Copying n (opened m g p))) (Offering n g p)
  came limit (Refuse k most) (Offering n g p) =
      of_this_move n k (says (MoveDeclined most) (Run n g)) (Offering n g p)
  came limit (Page k p number b) (Staging n s) =
      of_this_move n k (page_came n s p number b) (Staging n s)
  came limit (RoundEnd k a b c d) (Staging n s) =
      of_this_move n k (says Noted (Staging n s)) (Staging n s)
  came limit (State k numbers body) (Staging n s) =
      of_this_move n k (state_came n s s numbers body) (Staging n s)
  came limit (State k numbers body) (Held n g) =
      of_this_move n k (sends ReadySent (Ready n) (Held n g)) (Held n g)
  came limit (Part k stamp part parts bytes) (Staging n s) =
      of_this_move n k (part_came n s stamp part parts bytes) (Staging n s)
  came limit (Part k stamp part parts bytes) (Held n g) =
      of_this_move n k (sends ReadySent (Ready n) (Held n g)) (Held n g)
  came limit (Lost k ps) (Stopped n l) = of_this_move n k (lost_came n l ps) (Stopped n l)
  came limit (Ready k) (Stopped n l) =
      of_this_move n k (sends (Committed n) (Go n) (Given n l.guest)) (Stopped n l)
  came limit (Go k) (Held n g) =
      of_this_move n k (sends StartedHere (Started n) (Run n g)) (Held n g)
  came limit (Go k) (Run n g) =
      of_this_move n k (sends Resent (Started n) (Run n g)) (Run n g)
  came limit (Started k) (Given n kept) = of_this_move n k (says Finished (Empty n)) (Given n kept)
  came limit (Abort k) (Staging n s) = of_this_move n k (says Dropped (Empty n)) (Staging n s)
  came limit (Abort k) (Held n g) = of_this_move n k (says Dropped (Empty n)) (Held n g)
  came limit frame mode = ignores mode
