-- The frames that a move sends of a guest that has no event meanwhile, from its source to its target; and hosts to which
-- frames come.
use Rattle.std.specs.Prelude.{ℕ, suc, List, [], ◌∷◌, ◌++◌, length, Option, Some, None}
use Rattle.rvm_protocol.specs.Guest.{Guest}
use Rattle.rvm_protocol.specs.Commands.{Came}
use Rattle.rvm_protocol.specs.Frames.{Frame, Offer, Page, RoundEnd, State, Go}
use Rattle.rvm_protocol.specs.Host.{Host, host_step}
use Rattle.rvm_protocol.specs.Modes.{Mode, Empty, Run}
use Rattle.rvm_protocol.specs.Pages.{listed}
use Rattle.rvm_protocol.specs.Rounds.{page_of}

-- a host that waits for a guest: it is host 1, and knows no other one yet
abbrev pub waiting : {S P : Type 0} → Host S P
waiting = record { mode = Empty 0; partner = 1 }

-- the guest that runs at a host and makes no move
abbrev pub running : {S P : Type 0} → Mode S P → Option S
running (Run n g) = Some g
running mode = None

module _ {S P E A B : Type 0} (m : Guest S P E A B) where
  -- the copy of a page: the one with number p is copy p + 1
  abbrev pub page_sent : S → ℕ → Frame P B
  page_sent g p = Page 1 p (suc p) (page_of m g p)

  -- the frames of the first move of a guest, from its source to its target: the offer, a copy of each page, the end of
  -- the round, the state, and the commit
  abbrev pub frames_sent : S → List (Frame P B)
  frames_sent g =
      let n = length (m.pages g) in
      Offer 1 n (m.processors g)
      ∷ (listed (page_sent g) 0 n ++ RoundEnd 1 1 n 0 0 ∷ State 1 (listed suc 0 n) (m.body g) ∷ Go 1 ∷ [])

  -- host 1 of two, which takes guests of at most 4096 pages, after a frame came from host 0
  abbrev pub after_frame : Frame P B → Host S P → Host S P
  after_frame f h = (host_step m 1 1 2 4096 (Came 0 f) h).next

  -- the same after a list of frames, one after the other
  unfoldable pub after_frames : List (Frame P B) → Host S P → Host S P
  after_frames [] h = h
  after_frames (f ∷ fs) h = after_frames fs (after_frame f h)
