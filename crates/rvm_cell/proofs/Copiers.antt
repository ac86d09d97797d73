-- The calls of a copier, in order.
use Rattle.std.proofs.Common.{◌≡◌, ◌∙◌, ℕ, suc, ◌-◌, ◌≤◌, not, true, false, List, [], ◌∷◌, ◌++◌, length, Option, None, Some, Result, Ok, Err, ap, refl, sym, subst, arith, inl, inr}
use Rattle.std.proofs.lemmas.List.Elements.{All-cons, All-nil}
use Rattle.std.specs.Prelude.{IfOk, IsSomeAnd, OnErr, option_map, slice_get}
use Rattle.rvm_recorder.specs.Receipts.{PlainReceipt}
use Rattle.rvm_message.specs.declared.event.Command.TheVariants as command
use Rattle.rvm_message.specs.declared.event.HostEvent.{HostEvent}
use Rattle.rvm_message.specs.declared.event.HostEvent.TheVariants as event
use Rattle.rvm_message.specs.declared.reply.HostReply.{HostReply}
use Rattle.rvm_message.specs.Exchanges.{PlainExchange, exchange}
use Rattle.rvm_precopy.specs.declared.policy.Policy.{Policy}
use Rattle.rvm_cell.specs.declared.end.WorkEnd.{WorkEnd}
use Rattle.rvm_cell.specs.declared.next.Next.{Next}
use Rattle.rvm_cell.specs.declared.next.Next.TheVariants as next
use Rattle.rvm_cell.specs.Copiers.{Follows, HasTried, IsNext, MayAsk, copies, copies_on, is_given}
use Rattle.rvm_cell.specs.Endings.{last_of, tells_left}
use Rattle.rvm_cell.specs.Next.{after_copy, is_gone, says_no_move}
use Rattle.rvm_cell.specs.Work.{AreOfCopier, IsCall, PlainCaller, PlainCopier}
use Rattle.rvm_station.specs.Movers.{IsOfCopier}

-- WHAT MAY BE ASKED

-- the first call begins the move
pub first_asked : (to : ℕ) (policy : Policy) (last : Option PlainExchange) → last ≡ None
    → MayAsk to policy last (event.Do (command.Begin to policy))
first_asked to policy None is = (refl, refl)
first_asked to policy (Some x) is = absurd cc

-- a copy may be made
pub copy_asked : (to : ℕ) (policy : Policy) (last : Option PlainExchange) → IsSomeAnd last (λ x. copies_on x ≡ true)
    → MayAsk to policy last (event.Do command.Copy)
copy_asked to policy None is = absurd is
copy_asked to policy (Some x) is = is

-- the last frame may be asked for again
pub again_asked : (to : ℕ) (policy : Policy) (last : Option PlainExchange) → IsSomeAnd last (λ x. is_given x ≡ true)
    → MayAsk to policy last (event.Do command.Resend)
again_asked to policy None is = absurd is
again_asked to policy (Some x) is = is

-- what may be asked is one of a copier's calls
may_asked : (to : ℕ) (policy : Policy) (last : Option PlainExchange) (e : HostEvent) → MayAsk to policy last e
    → IsOfCopier to policy e
may_asked to policy None (event.Do command.Abort) may = tt
may_asked to policy None (event.Do (command.Begin x p)) may = may
may_asked to policy None (event.Do command.Copy) may = absurd may
may_asked to policy None (event.Do command.Resend) may = absurd may
may_asked to policy None (event.Do (command.Board b)) may = absurd may
may_asked to policy None (event.Came from frame) may = absurd may
may_asked to policy (Some x) (event.Do command.Abort) may = tt
may_asked to policy (Some x) (event.Do (command.Begin y p)) may = absurd may
may_asked to policy (Some x) (event.Do command.Copy) may = tt
may_asked to policy (Some x) (event.Do command.Resend) may = tt
may_asked to policy (Some x) (event.Do (command.Board b)) may = absurd may
may_asked to policy (Some x) (event.Came from frame) may = absurd may

-- each of these calls is one of a copier's
follows_all : (to : ℕ) (policy : Policy) (last : Option PlainExchange) (rs : List PlainReceipt) → Follows to policy last rs
    → AreOfCopier to policy rs
follows_all to policy last [] follows = All-nil (λ r. IsOfCopier to policy r.event)
follows_all to policy last (r ∷ rs) follows =
    All-cons (λ r. IsOfCopier to policy r.event) r rs (may_asked to policy last r.event follows.0)
    (follows_all to policy (Some (exchange r.event r.reply)) rs follows.1)

pub follows_asked : (to : ℕ) (policy : Policy) (rs : List PlainReceipt) → Follows to policy None rs → AreOfCopier to policy rs
follows_asked to policy = follows_all to policy None

-- ONE MORE CALL

abbrev exchange_by : PlainReceipt → PlainExchange
exchange_by r = exchange r.event r.reply

-- the last of some calls, after another
abbrev last_behind : Option PlainExchange → List PlainReceipt → Option PlainExchange
last_behind last [] = last
last_behind last (r ∷ rs) = last_behind (Some (exchange_by r)) rs

last_on : (r s : PlainReceipt) (rs : List PlainReceipt) → last_of (r ∷ s ∷ rs) ≡ last_of (s ∷ rs)
last_on r s rs =
    let at : length (r ∷ s ∷ rs) - 1 ≡ suc (length (s ∷ rs) - 1) = omega arith in
    ap (λ n. option_map exchange_by (slice_get (r ∷ s ∷ rs) n)) at

last_some : (r : PlainReceipt) (rs : List PlainReceipt) → last_behind (Some (exchange_by r)) rs ≡ last_of (r ∷ rs)
last_some r [] = refl
last_some r (s ∷ rs) = last_some s rs ∙ sym (last_on r s rs)

last_same : (rs : List PlainReceipt) → last_behind None rs ≡ last_of rs
last_same [] = refl
last_same (r ∷ rs) = last_some r rs

follows_on : (to : ℕ) (policy : Policy) (last : Option PlainExchange) (rs : List PlainReceipt) (r : PlainReceipt)
    → Follows to policy last rs → MayAsk to policy (last_behind last rs) r.event → Follows to policy last (rs ++ r ∷ [])
follows_on to policy last [] r follows may = (may, tt)
follows_on to policy last (s ∷ rs) r follows may =
    (follows.0, follows_on to policy (Some (exchange_by s)) rs r follows.1 may)

-- a copier makes one more of its calls, or none
pub copier_more : {A : Type 0} (to : ℕ) (policy : Policy) (e : HostEvent) (old new : PlainCaller) (reply : A → HostReply)
    (result : Result A WorkEnd) → Follows to policy None old.receipts → MayAsk to policy (last_of old.receipts) e
    → IfOk result (λ c. IsCall old.seat e old.receipts new.seat new.receipts (reply c)) → OnErr result (new ≡ old)
    → Follows to policy None new.receipts
copier_more to policy e old new reply (Ok c) follows may call same =
    let r = call.receipt in
    let here : MayAsk to policy (last_behind None old.receipts) r.event =
    subst (λ o. MayAsk to policy o r.event) (sym (last_same old.receipts))
    (subst (MayAsk to policy (last_of old.receipts)) (sym call.of_event.event_is) may) in
    subst (λ l. Follows to policy None l) (sym call.added) (follows_on to policy None old.receipts r follows here)
copier_more to policy e old new reply (Err end) follows may call same =
    subst (λ c. Follows to policy None c.receipts) (sym same) follows

-- WHAT IS DONE NEXT

next_by : (r : HostReply) (n : Next) → n ≡ after_copy r → (n ≡ next.Done → says_no_move r ≡ true)
    → (n ≡ next.Resend → is_gone r ≡ true) → IsNext n (Some (exchange (event.Do command.Copy) r))
next_by r next.Copy is done gone = sym (ap copies is)
next_by r (next.Wait millis) is done gone = sym (ap copies is)
next_by r next.Resend is done gone = gone refl
next_by r next.GiveUp is done gone = tt
next_by r next.Done is done gone = done refl

-- the reply to a copy tells what is done next
pub next_told : (old new : PlainCopier) (r : HostReply) (n : Next)
    → new ≡ record old { last = Some (exchange (event.Do command.Copy) r); refused = 0 } → n ≡ after_copy r
    → (n ≡ next.Done → says_no_move r ≡ true) → (n ≡ next.Resend → is_gone r ≡ true) → IsNext n new.last
next_told old new r n is same done gone =
    subst (λ (c : PlainCopier). IsNext n c.last) (sym is) (next_by r n same done gone)

-- the last frame was asked for, and a move is left
pub left_told : (old new : PlainCopier) (r : HostReply)
    → new ≡ record old { last = Some (exchange (event.Do command.Resend) r); refused = 0 } → says_no_move r ≡ false
    → IsSomeAnd new.last (λ x. tells_left x ≡ true)
left_told old new r is none =
    subst (λ (c : PlainCopier). IsSomeAnd c.last (λ x. tells_left x ≡ true)) (sym is) (ap not none)

-- WITHOUT MEMORY

-- the copier asked to give up its move
pub tried_once : (old new : PlainCopier) (r : HostReply)
    → new ≡ record old { last = Some (exchange (event.Do command.Abort) r); refused = 0 } → HasTried new.last new.refused
tried_once old new r is = subst (λ (c : PlainCopier). HasTried c.last c.refused) (sym is) (inl refl)

-- the guest was given up
pub tried_given : (last : Option PlainExchange) (refused : ℕ) → IsSomeAnd last (λ x. is_given x ≡ true)
    → HasTried last refused
tried_given last refused given = inr (inl given)

-- memory ran out for a thousand calls
pub tried_often : (last : Option PlainExchange) (refused : ℕ) → 1000 ≤ refused → HasTried last refused
tried_often last refused often = inr (inr often)
