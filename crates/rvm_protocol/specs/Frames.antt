-- The frames that hosts send each other, each with the number of the move that it belongs to.
use Rattle.std.specs.Prelude.{ℕ, Bool, nat_le, ◌&&◌, if◌then◌else◌, List, [], ◌∷◌}
use Rattle.std.specs.declared.option.Option.{Option}
use Rattle.std.specs.declared.option.Option.TheVariants.{Some, None}
use Rattle.rvm_protocol.specs.Guest.{Guest}

-- one message between hosts, with the number of its move
pub data Frame (P B : Type 0) : Type 0 where
  -- the source asks to move a guest of this size
  Offer : (move pages processors : ℕ) → Frame P B
  -- the target takes the guest, or takes at most limit pages
  Accept : (move : ℕ) → Frame P B
  Refuse : (move limit : ℕ) → Frame P B
  -- a copy of one page; copies are numbered from 1 in each move
  Page : (move page number : ℕ) → (bytes : P) → Frame P B
  -- a copy of a page of zeros
  Zero : (move page number : ℕ) → Frame P B
  -- a round of copies is over
  RoundEnd : (move round sent skipped left : ℕ) → Frame P B
  -- the target lacks these copies
  Lost : (move : ℕ) → (pages : List ℕ) → Frame P B
  -- the paused guest without its pages, and the number of each page's newest copy
  State : (move : ℕ) → (numbers : List ℕ) → (body : B) → Frame P B
  -- one of the pieces of such a state; the stamp is the number of copies that were made before
  Part : (move stamp part parts : ℕ) → (bytes : List ℕ) → Frame P B
  -- the target holds the whole guest
  Ready : (move : ℕ) → Frame P B
  -- the source has committed: the guest is the target's
  Go : (move : ℕ) → Frame P B
  -- the target runs the guest
  Started : (move : ℕ) → Frame P B
  -- the source gives up the move and keeps the guest
  Abort : (move : ℕ) → Frame P B

-- a frame, the host that sent it and the host that it is for
pub record Addressed (P B : Type 0) : Type 0 where
  pub from : ℕ
  pub to : ℕ
  pub frame : Frame P B

-- the frame that a host made, if any, with its address
abbrev pub posted : {P B : Type 0} → (self to : ℕ) → Option (Frame P B) → Option (Addressed P B)
posted self to None = None
posted self to (Some f) = Some (record { from = self; to = to; frame = f })

-- stream versions 2 and 3 send a page of zeros as Zero and a state in pieces, version 1 does not
abbrev pub is_compact : (version : ℕ) → Bool
is_compact version = nat_le 2 version

module _ {S P E A B : Type 0} (m : Guest S P E A B) where
  -- a frame as it is sent
  abbrev pub written : (version : ℕ) → Frame P B → Frame P B
  written version (Page n p k b) =
      if is_compact version && m.is_zeros b then Zero n p k else Page n p k b
  written version f = f

  -- the frame that a host made, if any, as it is sent
  abbrev pub made_as : (version : ℕ) → Option (Frame P B) → Option (Frame P B)
  made_as version None = None
  made_as version (Some f) = Some (written version f)

  -- a frame as it is read: Zero is a Page of zeros
  abbrev pub plain : Frame P B → Frame P B
  plain (Zero n p k) = Page n p k m.zeros
  plain f = f

  -- frames as they are read
  unfoldable pub read : List (Addressed P B) → List (Addressed P B)
  read [] = []
  read (a ∷ rest) = record { from = a.from; to = a.to; frame = plain a.frame } ∷ read rest
