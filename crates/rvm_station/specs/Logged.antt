-- What the log of a host kept of the events that lead to it.
use Rattle.std.specs.List.{fold}
use Rattle.std.specs.Prelude.{◌≡◌, ⊤, ℕ, suc, List, map, Option, None, Some}
use Rattle.rvm_board.specs.declared.retiring.Retired.{Retired}
use Rattle.rvm_hart.specs.declared.outcome.Stepped.{Stepped}
use Rattle.rvm_host.specs.Hosts.{PlainHost, host_of}
use Rattle.rvm_message.specs.declared.event.HostEvent.{HostEvent}
use Rattle.rvm_message.specs.Events.{event_of}
use Rattle.rvm_station.specs.Events.{IsReached, next_at}

-- how many steps were made, if the last one, which may be none, was made after this many
abbrev pub steps_to : (count : ℕ) → (last : Option Stepped) → ℕ
steps_to count None = count
steps_to count (Some s) = suc count

-- how many steps were made: those that retired an instruction, and the last one, if there was one
abbrev pub made_in : Retired → ℕ
made_in made = steps_to made.count made.last

-- the events that were kept lead from the opening host to this one, if all were kept
abbrev pub IsTold : Option (List HostEvent) → (opening h : PlainHost) → Type 0
IsTold None o h = ⊤
IsTold (Some events) o h = host_of h ≡ fold (next_at o) (host_of o) (map event_of events)

-- events lead from the opening host to this one, and so do those that were kept, if all were
pub record IsLogged (kept : Option (List HostEvent)) (opening h : PlainHost) : Type 0 where
  pub reached : IsReached opening h
  pub told : IsTold kept opening h
