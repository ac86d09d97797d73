-- Turns of a hart at the source of a move.
use Rattle.std.specs.Prelude.{ℕ, Option, None}
use Rattle.rvm_mem.specs.Pages.{mark_all}
use Rattle.rvm_board.specs.declared.turns.Stop.{Stop}
use Rattle.rvm_board.specs.Guest.{GuestState}
use Rattle.rvm_board.specs.Turns.{AfterTurns}
use Rattle.rvm_message.specs.Turns.{guest_turned}
use Rattle.rvm_source.specs.declared.phase.Phase.{Phase}
use Rattle.rvm_source.specs.declared.phase.Phase.TheVariants as phases
use Rattle.rvm_source.specs.Sources.{PlainSource}

-- a source after turns of its guest, the number of turns made, and what ended them early, if anything did
pub record SourceTurned : Type 0 where
  pub source : PlainSource
  pub made : ℕ
  pub stop : Option Stop

-- the source whose guest made these turns: the pages that they wrote are added to its dirty log
abbrev pub turns_on : AfterTurns → PlainSource → SourceTurned
turns_on t s =
    let guest : GuestState = record { guest = t.guest; dirty = mark_all t.pages s.guest.dirty } in
    record { source = record s { guest = guest }; made = t.made; stop = t.stop }

-- the source unchanged, with no turn made
abbrev pub stays : PlainSource → SourceTurned
stays s = record { source = s; made = 0; stop = None }

-- at most n turns of hart h in a phase: the guest runs while it is offered or copied, and makes none once it is paused
abbrev pub turned_in : Phase → (h n : ℕ) → PlainSource → SourceTurned
turned_in phases.Offering h n s = turns_on (guest_turned h n s.guest.guest) s
turned_in phases.Copying h n s = turns_on (guest_turned h n s.guest.guest) s
turned_in (phases.Stopped turn) h n s = stays s

-- at most n turns of hart h, in the phase of this source
abbrev pub source_turned : (h n : ℕ) → PlainSource → SourceTurned
source_turned h n s = turned_in s.phase h n s
