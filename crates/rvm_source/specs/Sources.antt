-- What the source of a move keeps, as plain values and as the protocol of live migration has it.
use Rattle.std.specs.Prelude.{◌≡◌, ℕ, ◌^◌, ◌<◌, ◌==◌, Bool, false, List, length}
use Rattle.rvm_board.specs.Guest.{GuestState}
use Rattle.rvm_guest.specs.Body.{body_of}
use Rattle.rvm_guest.specs.Pieces.{cut}
use Rattle.rvm_guest.specs.TheGuest.{board}
use Rattle.rvm_message.specs.Answers.{BoardMode}
use Rattle.rvm_precopy.specs.Coverage.{Covers, CoversLast}
use Rattle.rvm_precopy.specs.Plans.{Plan, IsPlanOf, rounds_of, last_of}
use Rattle.rvm_protocol.specs.Modes as protocol
use Rattle.rvm_protocol.specs.Rounds.{page_count}
use Rattle.rvm_source.specs.declared.phase.Phase.{Phase}
use Rattle.rvm_source.specs.declared.phase.Phase.TheVariants as phases

-- a source: the number of its move, its guest with the dirty log, its plan and its phase
pub record PlainSource : Type 0 where
  pub move_number : ℕ
  pub guest : GuestState
  pub plan : Plan
  pub phase : Phase

-- the guest of a source has this many pages, its dirty log and its plan are of as many, and fewer than 2^32 copies were
-- made
pub record HasPages (pages : ℕ) (s : PlainSource) : Type 0 where
  pub count : page_count board s.guest.guest ≡ pages
  pub log : length s.guest.dirty ≡ pages
  pub plan : IsPlanOf pages s.plan
  pub copies : s.plan.copies < 2 ^ 32

-- the mode of the protocol for a move, its guest, its plan and its phase
abbrev pub mode_in : (move : ℕ) → GuestState → Plan → Phase → BoardMode
mode_in n g r phases.Offering = protocol.Offering n g.guest r.policy
mode_in n g r phases.Copying = protocol.Copying n (rounds_of g.guest g.dirty r)
mode_in n g r (phases.Stopped turn) = protocol.Stopped n (last_of g.guest turn r)

-- the mode of the protocol for a source
abbrev pub mode_of : PlainSource → BoardMode
mode_of s = mode_in s.move_number s.guest s.plan s.phase

-- if the guest is paused, the state has a piece with the index of the one that is sent next
abbrev pub HasTurn : Phase → GuestState → Plan → Type 0
HasTurn (phases.Stopped turn) g r = turn < length (cut r.newest (body_of g.guest))
HasTurn phase g r = Unit {0}

-- no page is forgotten, with this dirty log
abbrev pub IsCovered : Phase → (log : List Bool) → Plan → Type 0
IsCovered phases.Offering log r = Unit {0}
IsCovered phases.Copying log r = Covers log r
IsCovered (phases.Stopped turn) log r = CoversLast r

-- a guest is offered for this move
abbrev pub is_offering : (move : ℕ) → BoardMode → Bool
is_offering k (protocol.Offering n g p) = k == n
is_offering k mode = false

-- a guest is paused for this move
abbrev pub is_stopped : (move : ℕ) → BoardMode → Bool
is_stopped k (protocol.Stopped n l) = k == n
is_stopped k mode = false
