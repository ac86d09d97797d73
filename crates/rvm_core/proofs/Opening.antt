-- The beginning of a move.
use Rattle.std.proofs.Common.{◌≡◌, ℕ, suc, ◌-◌, ◌^◌, ◌==◌, nat_lt, Bool, true, false, if◌then◌else◌, List, Some, None, refl, sym, ap, ◌∙◌}
use Rattle.std.proofs.lemmas.Bool.{eqb-true}
use Rattle.std.proofs.Math.Path.{fun_ext}
use Rattle.rvm_board.specs.declared.event.BoardReply.{BoardReply}
use Rattle.rvm_board.specs.Guest.{Guest}
use Rattle.rvm_guest.specs.TheGuest.{board}
use Rattle.rvm_message.specs.Answers.{BoardMode}
use Rattle.rvm_protocol.specs.Commands.{Begin, Do, Policy, is_allowed}
use Rattle.rvm_protocol.specs.Host.{Host, is_there, obey_at, settled}
use Rattle.rvm_protocol.specs.Modes.{Copying, Empty, Given, Held, Offering, Outcome, Run, Staging, Stopped, refuses}
use Rattle.rvm_protocol.specs.Obeying.{begin_allowed, begun}
use Rattle.rvm_protocol.specs.Pages.{put}
use Rattle.rvm_protocol.specs.Replies.{BadHost, BadSize, Begun, Busy, EpochsSpent, NotHere, Refusal, Refused, Reply}
use Rattle.rvm_protocol.specs.World.{At, and_sent, happened, reply_or, reply_to, result_at, step, world_at}
use Rattle.rvm_core.specs.Phases.{begins_or_not}
use Rattle.rvm_core.specs.Worlds.{BoardWorld}

abbrev BoardOutcome : Type 0
BoardOutcome = Outcome Guest (List ℕ) BoardReply (List ℕ)

-- the outcome is that a move begins, or a refusal that changes nothing
record Begins (o : BoardOutcome) (mode : BoardMode) : Type 0 where
  told : begins_or_not o.reply ≡ true
  stays : (why : Refusal) → o.reply ≡ Refused why → o ≡ refuses why mode

refusal_is : (a b : Refusal) → ◌≡◌ {A = Reply BoardReply} (Refused a) (Refused b) → a ≡ b
refusal_is a b h = cc

refused : (why : Refusal) (mode : BoardMode) → Begins (refuses why mode) mode
refused why mode = record { told = refl; stays = λ other h. ap (λ z. refuses z mode) (refusal_is why other h) }

numbered : (last : Bool) (p : Policy) (n : ℕ) (g : Guest)
    → Begins (if last then refuses EpochsSpent (Run n g) else begun board p n g) (Run n g)
numbered true p n g = refused EpochsSpent (Run n g)
numbered false p n g = record { told = refl; stays = λ why h. absurd (not_refused why h) }
  where
    not_refused : (why : Refusal) → ◌≡◌ {A = Reply BoardReply} (Begun (suc n)) (Refused why) → ⊥
    not_refused why h = cc

checked : (allowed : Bool) (p : Policy) (n : ℕ) (g : Guest)
    → Begins (if allowed then begin_allowed board p n g else refuses BadSize (Run n g)) (Run n g)
checked true p n g = numbered (n == 2 ^ 64 - 1) p n g
checked false p n g = refused BadSize (Run n g)

running : (there : Bool) (p : Policy) (n : ℕ) (g : Guest)
    → Begins (if there then (if is_allowed p then begin_allowed board p n g else refuses BadSize (Run n g))
    else refuses BadHost (Run n g)) (Run n g)
running true p n g = checked (is_allowed p) p n g
running false p n g = refused BadHost (Run n g)

begins_at : (version self count to : ℕ) (p : Policy) (mode : BoardMode)
    → Begins (obey_at board version self count (Begin to p) mode) mode
begins_at version self count to p (Empty n) = refused NotHere (Empty n)
begins_at version self count to p (Run n g) = running (is_there self count to) p n g
begins_at version self count to p (Offering n g r) = refused Busy (Offering n g r)
begins_at version self count to p (Copying n r) = refused Busy (Copying n r)
begins_at version self count to p (Stopped n l) = refused Busy (Stopped n l)
begins_at version self count to p (Given n kept) = refused NotHere (Given n kept)
begins_at version self count to p (Staging n s) = refused NotHere (Staging n s)
begins_at version self count to p (Held n g) = refused NotHere (Held n g)

-- the same in a world
begins_in : (w : BoardWorld) (from to : ℕ) (p : Policy) (here : Bool)
    → begins_or_not (reply_or board w (Refused BadHost) (if here then Some (from, Do (Begin to p)) else None)) ≡ true
begins_in w from to p true = (begins_at w.version from w.count to p (w.hosts from).mode).told
begins_in w from to p false = refl

pub begins_or_is_refused : (w : BoardWorld) (from to : ℕ) (p : Policy) (r : Reply BoardReply)
    → r ≡ reply_to board w (At from (Begin to p)) → begins_or_not r ≡ true
begins_or_is_refused w from to p r is = ap begins_or_not is ∙ begins_in w from to p (nat_lt from w.count)

same_or : (x y : ℕ) (b : Bool) → (b ≡ true → x ≡ y) → (h : ℕ → Host Guest (List ℕ))
    → (if b then h y else h x) ≡ h x
same_or x y true same h = ap h (sym (same refl))
same_or x y false same h = refl

put_again : (hosts : ℕ → Host Guest (List ℕ)) (x : ℕ) → put hosts x (hosts x) ≡ hosts
put_again hosts x = fun_ext (λ q. same_or q x (q == x) (eqb-true q x) hosts)

world_stays : (w : BoardWorld) (from to : ℕ) (p : Policy) (why : Refusal)
    → (obey_at board w.version from w.count (Begin to p) (w.hosts from).mode).reply ≡ Refused why
    → world_at board w from (Do (Begin to p)) ≡ w
world_stays w from to p why is =
    let o = (begins_at w.version from w.count to p (w.hosts from).mode).stays why is in
    let same : result_at board w from (Do (Begin to p))
    ≡ record { reply = Refused why; made = None; next = w.hosts from } =
    ap (λ (z : BoardOutcome). settled board w.version from (Do (Begin to p)) (w.hosts from).partner z) o
    in
    (λ j. record w { hosts = put w.hosts from (same j).next; sent = and_sent w.sent (same j).made })
    ∙ ap (λ z. record w { hosts = z }) (put_again w.hosts from)

stays_in : (w : BoardWorld) (from to : ℕ) (p : Policy) (why : Refusal) (here : Bool)
    → reply_or board w (Refused BadHost) (if here then Some (from, Do (Begin to p)) else None) ≡ Refused why
    → happened board w (if here then Some (from, Do (Begin to p)) else None) ≡ w
stays_in w from to p why true is = world_stays w from to p why is
stays_in w from to p why false is = refl

pub stays_if_refused : (w : BoardWorld) (from to : ℕ) (p : Policy) (why : Refusal)
    → reply_to board w (At from (Begin to p)) ≡ Refused why → step board w (At from (Begin to p)) ≡ w
stays_if_refused w from to p why is = stays_in w from to p why (nat_lt from w.count) is
