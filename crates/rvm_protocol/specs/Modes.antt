-- The modes of a host, each with the highest number of a move that the host has begun or staged.
use Rattle.std.specs.Prelude.{ℕ}
use Rattle.std.specs.declared.option.Option.{Option}
use Rattle.std.specs.declared.option.Option.TheVariants.{Some, None}
use Rattle.rvm_protocol.specs.Commands.{Policy}
use Rattle.rvm_protocol.specs.Frames.{Frame}
use Rattle.rvm_protocol.specs.Replies.{Refusal, Ignored, Reply, Refused}
use Rattle.rvm_protocol.specs.Rounds.{Rounds, Last}
use Rattle.rvm_protocol.specs.Staging.{Stage}

-- what a host has of a guest, and where it stands in a move
pub data Mode (S P : Type 0) : Type 0 where
  -- no guest
  Empty : (seen : ℕ) → Mode S P
  -- the guest runs, and no move is going on
  Run : (move : ℕ) → (guest : S) → Mode S P
  -- the guest runs, and its move was offered
  Offering : (move : ℕ) → (guest : S) → (policy : Policy) → Mode S P
  -- the guest runs, and its pages are copied in rounds
  Copying : (move : ℕ) → (rounds : Rounds S) → Mode S P
  -- the guest is paused, and the last pages and its state are copied
  Stopped : (move : ℕ) → (last : Last S) → Mode S P
  -- the guest was given to the target; its last state is kept until it runs there, so that its memory is not freed
  -- while it is paused
  Given : (move : ℕ) → (kept : S) → Mode S P
  -- pages of a guest come
  Staging : (move : ℕ) → (stage : Stage P) → Mode S P
  -- the whole guest is here, paused until the source commits
  Held : (move : ℕ) → (guest : S) → Mode S P

-- what an event of a host gives: a reply, a frame if one is made, and the mode after it
pub record Outcome (S P A B : Type 0) : Type 0 where
  pub reply : Reply A
  pub made : Option (Frame P B)
  pub next : Mode S P

-- the highest number of a move that the host has begun or staged
abbrev pub move_of : {S P : Type 0} → Mode S P → ℕ
move_of (Empty n) = n
move_of (Run n g) = n
move_of (Offering n g p) = n
move_of (Copying n r) = n
move_of (Stopped n l) = n
move_of (Given n kept) = n
move_of (Staging n s) = n
move_of (Held n g) = n

-- the guest that a mode holds, if any
abbrev pub guest_in : {S P : Type 0} → Mode S P → Option S
guest_in (Empty n) = None
guest_in (Run n g) = Some g
guest_in (Offering n g p) = Some g
guest_in (Copying n r) = Some r.guest
guest_in (Stopped n l) = Some l.guest
guest_in (Given n kept) = None
guest_in (Staging n s) = None
guest_in (Held n g) = Some g

module _ {S P A B : Type 0} where
  -- a reply without a frame
  abbrev pub says : Reply A → Mode S P → Outcome S P A B
  says r mode = record { reply = r; made = None; next = mode }

  -- a reply and a frame
  abbrev pub sends : Reply A → Frame P B → Mode S P → Outcome S P A B
  sends r f mode = record { reply = r; made = Some f; next = mode }

  -- a refusal, with no frame
  abbrev pub refuses : Refusal → Mode S P → Outcome S P A B
  refuses why mode = record { reply = Refused why; made = None; next = mode }

  -- a frame that came is ignored
  abbrev pub ignores : Mode S P → Outcome S P A B
  ignores mode = refuses Ignored mode
