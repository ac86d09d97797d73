-- Worked processes of two hosts.
use Rattle.std.proofs.Common.{◌≡◌, ℕ, zero, suc, ◌<◌, ◌==◌, true, if◌then◌else◌, List, [], ◌∷◌, Some, None, refl, arith, inl, inr}
use Rattle.rvm_host.specs.Hosts.{PlainHost, new_host}
use Rattle.rvm_host.specs.Modes.{Run}
use Rattle.rvm_board.specs.Guest.{GuestState}
use Rattle.rvm_guest.specs.TheGuest.{board}
use Rattle.rvm_guest.specs.Valid.{is_valid}
use Rattle.rvm_station.specs.Events.{IsReached}
use Rattle.rvm_audit.specs.Hosts.{Openings}
use Rattle.rvm_message.specs.Events.{BoardHostEvent}
use Rattle.rvm_protocol.specs.Commands.{AbortMove, Begin, Came, Do, Policy}
use Rattle.rvm_protocol.specs.Frames.{Abort, Go}
use Rattle.rvm_protocol.specs.World.{Has, new_world}
use Rattle.rvm_core.specs.Worlds.{BoardWorld}
use Rattle.rvm_host_command.specs.Processes.{AllMayHappen, AreOneWorld, AreProcesses, MayHappen, ProcessEvent, events_at}
use Rattle.rvm_host_command.proofs.Law.{one_world}

module _ (g : GuestState) where
  -- the guest is at host 0
  abbrev opening : ℕ → PlainHost
  opening x = new_host (if x == 0 then Some g else None) x 2 4096 1

  abbrev two : Openings
  two = record { count = 2; host = opening }

  abbrev start : BoardWorld
  start = new_world board 1 0 g.guest 2 (λ x. 4096)

  abbrev policy : Policy
  policy = record { max_rounds = 3; min_left = 1; factor = 2 }

  -- host 0 begins a move to host 1 and gives it up; the frame that says so comes there, and its offer does not
  abbrev begins : BoardHostEvent
  begins = Do (Begin 1 policy)

  abbrev comes : BoardHostEvent
  comes = Came 0 (Abort 1)

  abbrev sequence : List ProcessEvent
  sequence = (0, begins) ∷ (0, Do AbortMove) ∷ (1, comes) ∷ []

  each_has_its_own :
      (events_at 0 sequence ≡ begins ∷ Do AbortMove ∷ []) × (events_at 1 sequence ≡ comes ∷ [])
      × (events_at 2 sequence ≡ [])
  each_has_its_own = (refl, refl, refl)

  -- the guest is where it was; its host has begun a move to the other one
  abbrev now : ℕ → PlainHost
  now zero = record (opening 0) { mode = Run 1 g.guest; partner = 1 }
  now (suc x) = opening (suc x)

  reached : (x : ℕ) → x < 2 → (r : IsReached (opening x) (now x)) × (events_at x sequence ≡ r.events)
  reached zero lt = (record { events = begins ∷ Do AbortMove ∷ []; reached = refl; rest = refl }, refl)
  reached (suc zero) lt = (record { events = comes ∷ []; reached = refl; rest = refl }, refl)
  reached (suc (suc x)) lt = absurd (omega (arith, lt))

  they_may_happen : AllMayHappen start sequence
  unfolding Has
  they_may_happen = (
    record { there = omega arith; sent = tt },
    (
      record { there = omega arith; sent = tt },
      (record { there = omega arith; sent = inr (inl refl) }, tt),
    ),
  )

  they_are_processes : AreProcesses start two now sequence
  they_are_processes = record { reached = reached; happen = they_may_happen }

  so_they_are_hosts_of_one_world : is_valid g.guest ≡ true → AreOneWorld start 0 g.guest now sequence
  so_they_are_hosts_of_one_world valid =
      one_world 1 0 g (λ x. 4096) two now sequence valid (record { spoken = refl; each = λ x lt. refl })
      they_are_processes

  -- it cannot come before it was made, and a frame that nobody sent cannot come
  it_does_not_come_before : MayHappen start (1, comes) → ⊥
  unfolding Has
  it_does_not_come_before may = may.sent

  no_go_comes : MayHappen start (1, Came 0 (Go 1)) → ⊥
  unfolding Has
  no_go_comes may = may.sent
