-- A host that is told to begin a move begins it or refuses.
use Rattle.std.proofs.Common.{◌≡◌, ℕ, ◌-◌, ◌^◌, ◌==◌, Bool, true, false, List, refl, subst, sym}
use Rattle.std.specs.Prelude.{⊤, if◌then◌else◌}
use Rattle.rvm_host.specs.Modes.{mode_of}
use Rattle.rvm_board.specs.declared.event.BoardReply.{BoardReply}
use Rattle.rvm_board.specs.Guest.{Guest}
use Rattle.rvm_guest.specs.TheGuest.{board}
use Rattle.rvm_station.specs.Asked.{Answers}
use Rattle.rvm_station.specs.Events.{IsReply}
use Rattle.rvm_message.specs.declared.event.Command.TheVariants as command
use Rattle.rvm_message.specs.declared.event.HostEvent.{HostEvent}
use Rattle.rvm_message.specs.declared.event.HostEvent.TheVariants.{Do}
use Rattle.rvm_message.specs.declared.reply.HostRefusal.{HostRefusal}
use Rattle.rvm_message.specs.declared.reply.HostReply.{HostReply}
use Rattle.rvm_message.specs.declared.reply.HostReply.TheVariants as reply
use Rattle.rvm_message.specs.Replies.{reply_of}
use Rattle.rvm_precopy.specs.Policies.{policy_of}
use Rattle.rvm_protocol.specs.Commands.{Begin, Policy, is_allowed}
use Rattle.rvm_protocol.specs.Host.{is_there, obey_at}
use Rattle.rvm_protocol.specs.Modes.{Copying, Empty, Given, Held, Mode, Offering, Outcome, Run, Staging, Stopped, refuses}
use Rattle.rvm_protocol.specs.Obeying.{begin, begin_allowed, begun}
use Rattle.rvm_protocol.specs.Replies.{BadHost, BadSize, EpochsSpent, Reply}
use Rattle.rvm_protocol.specs.Replies as protocol
use Rattle.rvm_station.specs.Movers.{IsToBegin}

-- a move begins, or it is refused
abbrev Begins : Reply BoardReply → Type 0
Begins (protocol.Begun n) = ⊤
Begins (protocol.Refused why) = ⊤
Begins r = ⊥

either : (b : Bool) (x y : Outcome Guest (List ℕ) BoardReply (List ℕ)) → Begins x.reply → Begins y.reply
    → Begins (if b then x else y).reply
either true x y p q = p
either false x y p q = q

at_mode : (version self count to : ℕ) (p : Policy) (mode : Mode Guest (List ℕ))
    → Begins (obey_at board version self count (Begin to p) mode).reply
at_mode version self count to p (Empty n) = tt
at_mode version self count to p (Run n g) =
    let counted = either (n == 2 ^ 64 - 1) (refuses EpochsSpent (Run n g)) (begun board p n g) tt tt in
    let allowed = either (is_allowed p) (begin_allowed board p n g) (refuses BadSize (Run n g)) counted tt in
    either (is_there self count to) (begin board p (Run n g)) (refuses BadHost (Run n g)) allowed tt
at_mode version self count to p (Offering n g r) = tt
at_mode version self count to p (Copying n r) = tt
at_mode version self count to p (Stopped n l) = tt
at_mode version self count to p (Given n kept) = tt
at_mode version self count to p (Staging n s) = tt
at_mode version self count to p (Held n g) = tt

-- there is no other reply
of_law : (r : HostReply) → Begins (reply_of r) → ((n : ℕ) → r ≡ reply.Begun n → ⊥) → ((why : HostRefusal) → r ≡ reply.Refused why → ⊥) → ⊥
of_law (reply.Board answer) is begun refused = absurd is
of_law (reply.Begun n) is begun refused = begun n refl
of_law (reply.Copied page number) is begun refused = absurd is
of_law (reply.RoundEnded round sent skipped left) is begun refused = absurd is
of_law reply.Stopping is begun refused = absurd is
of_law reply.StateSent is begun refused = absurd is
of_law (reply.PartSent part parts) is begun refused = absurd is
of_law reply.Resent is begun refused = absurd is
of_law reply.Aborted is begun refused = absurd is
of_law reply.Open is begun refused = absurd is
of_law (reply.MoveDeclined limit) is begun refused = absurd is
of_law (reply.Fixing count) is begun refused = absurd is
of_law (reply.Committed n) is begun refused = absurd is
of_law reply.Finished is begun refused = absurd is
of_law reply.Accepted is begun refused = absurd is
of_law (reply.Declined limit) is begun refused = absurd is
of_law (reply.Stored page number) is begun refused = absurd is
of_law reply.Noted is begun refused = absurd is
of_law (reply.Kept part parts) is begun refused = absurd is
of_law (reply.Lacking count) is begun refused = absurd is
of_law reply.ReadySent is begun refused = absurd is
of_law reply.Started is begun refused = absurd is
of_law reply.Dropped is begun refused = absurd is
of_law (reply.Refused why) is begun refused = refused why refl

pub begins : (gave : Answers) → ((event : HostEvent) (r : HostReply) → gave event r → IsReply event r) → (r : HostReply)
    → IsToBegin gave r → ((n : ℕ) → r ≡ reply.Begun n → ⊥) → ((why : HostRefusal) → r ≡ reply.Refused why → ⊥) → ⊥
begins gave is_reply r asked begun refused =
    let a = is_reply (Do (command.Begin asked.0 asked.1)) r asked.2 in
    let h = a.host in
    let at = at_mode h.version h.id h.count asked.0 (policy_of asked.1) (mode_of h.mode) in
    of_law r (subst Begins (sym a.replied) at) begun refused
