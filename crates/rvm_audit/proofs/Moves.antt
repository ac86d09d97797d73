-- A host's move stays with a host that is there, and its frames go to such a host.
use Rattle.std.proofs.Common.{◌≡◌, ℕ, ◌==◌, true, refl, ◌||◌, List, Option, Some, None}
use Rattle.rvm_codec.proofs.Steps.{both_are}
use Rattle.rvm_board.specs.Guest.{Guest}
use Rattle.rvm_guest.specs.TheGuest.{board}
use Rattle.rvm_message.specs.Events.{BoardHostEvent}
use Rattle.rvm_message.specs.Frames.{BoardFrame}
use Rattle.rvm_protocol.specs.Commands.{Do, Came}
use Rattle.rvm_protocol.specs.Frames.{made_as, plain, posted}
use Rattle.rvm_protocol.specs.Frames as protocol
use Rattle.rvm_protocol.specs.Host as law
use Rattle.rvm_protocol.specs.Host.{addressee, host_step, outcome, is_heard, is_offer_above, is_there, partner_then}
use Rattle.rvm_protocol.specs.Modes.{move_of, ignores}
use Rattle.rvm_protocol.specs.Receiving.{came}
use Rattle.rvm_host.proofs.Moves.{Keeps, Reaches, Stays, came_stays, either, obey_stays}

abbrev LawHost : Type 0
LawHost = law.Host Guest (List ℕ)

module _ (version self count limit : ℕ) (h : LawHost) (ok : Keeps self count h.partner h.mode) where
  stays : (e : BoardHostEvent) → Stays self count e h.partner (outcome board version self count limit e h)
  stays (Do c) = obey_stays self count h.partner version c h.mode ok
  stays (Came from f) =
      let there = is_there self count from in
      let offers = is_offer_above (move_of h.mode) (plain board f) in
      either (Stays self count (Came from f) h.partner) (is_heard self count from (plain board f) h)
      (came board limit (plain board f) h.mode) (ignores h.mode)
      (λ e. came_stays self count h.partner from (both_are there (from == h.partner || offers) e).0 f limit
      (plain board f) h.mode ok)
      (λ _. (ok, tt))

  -- its move stays with a host that is there
  pub keeps_on : (e : BoardHostEvent)
      → (let o = host_step board version self count limit e h in Keeps self count o.next.partner o.next.mode)
  keeps_on e = (stays e).0

  -- a frame that was made is its own, and goes to another host that is there
  abbrev pub Goes : Option (protocol.Addressed (List ℕ) (List ℕ)) → Type 0
  Goes None = Unit {0}
  Goes (Some a) = (a.from ≡ self) × (is_there self count a.to ≡ true)

  goes : (to : ℕ) (made : Option BoardFrame) → Reaches self count to made → Goes (posted self to (made_as board version made))
  goes to None so = tt
  goes to (Some f) so = (refl, so)

  pub goes_there : (e : BoardHostEvent) → Goes (host_step board version self count limit e h).made
  goes_there e =
      let o = outcome board version self count limit e h in
      goes (addressee e (partner_then e o.reply h.partner)) o.made (stays e).1
