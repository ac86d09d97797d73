-- Turns of a hart at a host.
use Rattle.std.specs.Prelude.{◌≡◌, ℕ, length, Option, None}
use Rattle.rvm_board.specs.declared.turns.Stop.{Stop}
use Rattle.rvm_guest.specs.Pages.{count_of}
use Rattle.rvm_message.specs.Turns.{guest_turned}
use Rattle.rvm_source.specs.Turns.{source_turned}
use Rattle.rvm_host.specs.Modes.{PlainMode, Empty, Run, Leaving, Given, Staging, Held}

-- the mode after turns, the number of turns made, and what ended them early, if anything did
pub record Turned : Type 0 where
  pub mode : PlainMode
  pub made : ℕ
  pub stop : Option Stop

-- the mode unchanged, with no turn made
abbrev pub no_turns : PlainMode → Turned
no_turns mode = record { mode = mode; made = 0; stop = None }

-- at most n turns of hart h, if the guest runs, as it also does while its move is offered and its pages are copied
abbrev pub turned : (h n : ℕ) → PlainMode → Turned
turned h n (Run k g) =
    let t = guest_turned h n g in record { mode = Run k t.guest; made = t.made; stop = t.stop }
turned h n (Leaving s) =
    let t = source_turned h n s in record { mode = Leaving t.source; made = t.made; stop = t.stop }
turned h n (Empty k) = no_turns (Empty k)
turned h n (Given k kept) = no_turns (Given k kept)
turned h n (Staging k s) = no_turns (Staging k s)
turned h n (Held k g) = no_turns (Held k g)

-- the dirty log of a guest that is being moved has an item for each of its pages
abbrev pub HasLog : PlainMode → Type 0
HasLog (Leaving s) = length s.guest.dirty ≡ count_of s.guest.guest
HasLog mode = Unit {0}
