-- Host processes are hosts of one world.
use Rattle.std.proofs.Common.{◌≡◌, ◌∙◌, ℕ, ◌<◌, true, List, sym, ap}
use Rattle.std.specs.List.{fold}
use Rattle.rvm_host.specs.Hosts.{PlainHost, host_of}
use Rattle.rvm_board.specs.Guest.{GuestState}
use Rattle.rvm_guest.proofs.TheGuest.{board_laws}
use Rattle.rvm_guest.specs.TheGuest.{board}
use Rattle.rvm_guest.specs.Valid.{is_valid}
use Rattle.rvm_station.specs.Events.{next_at}
use Rattle.rvm_audit.proofs.Law.{allowed, begins}
use Rattle.rvm_audit.specs.Hosts.{Openings}
use Rattle.rvm_audit.specs.Worlds.{AreNew}
use Rattle.rvm_protocol.proofs.Course.{course_law, past_law}
use Rattle.rvm_protocol.specs.Course.{RunsNeverMove, RunsTellTheirPast}
use Rattle.rvm_protocol.specs.World.{new_world}
use Rattle.rvm_core.specs.Worlds.{BoardWorld}
use Rattle.rvm_host_command.specs.Processes.{AreOneWorld, AreProcesses, ProcessEvent, events_at}
use Rattle.rvm_host_command.proofs.Walks.{are_events, host_after, next_in, world_after}

module _ (version origin : ℕ) (g : GuestState) (limits : ℕ → ℕ) (o : Openings)
    (are : AreNew version origin g limits o) where
  abbrev new : BoardWorld
  new = new_world board version origin g.guest o.count limits

  -- the world's hosts are where the processes are
  ends_so : (now : ℕ → PlainHost) (ss : List ProcessEvent) → AreProcesses new o now ss → (x : ℕ) → x < o.count
      → (world_after new ss).hosts x ≡ host_of (now x)
  ends_so now ss p x lt =
      let es = events_at x ss in
      let h = o.host x in
      let r = p.reached x lt in
      let first = (begins version origin g limits o are).there x lt in
      host_after x ss new
      ∙ ap (λ q. fold (next_in new x) q es) first
      ∙ ap (λ (n : PlainHost). fold (next_at n) (host_of h) es) (sym (are.each x lt))
      ∙ ap (fold (next_at h) (host_of h)) r.1
      ∙ sym r.0.reached

-- what happened at all of them, as a run of the world
pub one_world : (version origin : ℕ) (g : GuestState) (limits : ℕ → ℕ) (openings : Openings) (now : ℕ → PlainHost)
    (sequence : List ProcessEvent) → is_valid g.guest ≡ true → AreNew version origin g limits openings
    → AreProcesses (new_world board version origin g.guest openings.count limits) openings now sequence
    → AreOneWorld (new_world board version origin g.guest openings.count limits) origin g.guest now sequence
unfolding RunsNeverMove RunsTellTheirPast
one_world version origin g limits openings now sequence valid are p =
    let count = openings.count in
    let r = are_events sequence (new_world board version origin g.guest count limits) p.happen in
    record {
      events = r.events;
      seen = r.seen;
      ends = λ x lt. ap (λ (w : BoardWorld). w.hosts x) r.lead
          ∙ ends_so version origin g limits openings are now sequence p x lt;
      never_moved = course_law board board_laws g.guest version origin count limits r.events (allowed g.guest valid);
      past = past_law board board_laws g.guest version origin count limits r.events (allowed g.guest valid);
    }
