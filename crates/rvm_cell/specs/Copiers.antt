-- What a copier asks of its host, call by call.
use Rattle.std.specs.Prelude.{◌≡◌, ◌⊎◌, ℕ, ◌+◌, ◌-◌, ◌^◌, ◌≤◌, min, Bool, true, false, ◌||◌, List, [], ◌∷◌, Option, None, Some, IsSomeAnd}
use Rattle.rvm_recorder.specs.Receipts.{PlainReceipt}
use Rattle.rvm_message.specs.declared.event.Command.TheVariants as command
use Rattle.rvm_message.specs.declared.event.HostEvent.{HostEvent}
use Rattle.rvm_message.specs.declared.event.HostEvent.TheVariants as event
use Rattle.rvm_message.specs.declared.reply.HostReply.{HostReply}
use Rattle.rvm_message.specs.Exchanges.{PlainExchange, exchange}
use Rattle.rvm_precopy.specs.declared.policy.Policy.{Policy}
use Rattle.rvm_cell.specs.declared.end.WorkEnd.{WorkEnd}
use Rattle.rvm_cell.specs.declared.end.WorkEnd.TheVariants.{OutOfMemory}
use Rattle.rvm_cell.specs.declared.next.Next.{Next}
use Rattle.rvm_cell.specs.declared.next.Next.TheVariants as next
use Rattle.rvm_cell.specs.Endings.{IsCopierEnd, asks_again, gives_up, last_of, tells_done}
use Rattle.rvm_cell.specs.Next.{after_copy, is_gone}
use Rattle.rvm_cell.specs.Work.{AreOfCopier}

-- the next thing is to copy, at once or after a while
abbrev pub copies : Next → Bool
copies next.Copy = true
copies (next.Wait millis) = true
copies n = false

-- a copier copies after this call: it began the move, or it was a copy after whose reply the next thing is to copy
abbrev pub goes_on : HostEvent → HostReply → Bool
goes_on (event.Do (command.Begin to policy)) r = true
goes_on (event.Do command.Copy) r = copies (after_copy r)
goes_on e r = false

-- the same, of a call and its reply
abbrev pub copies_on : PlainExchange → Bool
copies_on x = goes_on x.event x.reply

-- the guest was given up: the host says so, or was asked for its last frame again
abbrev pub is_given : PlainExchange → Bool
is_given x = asks_again x.event || is_gone x.reply

-- what a copier may ask after its last call: first it begins the move to this host with this policy; then it copies
-- until the next thing is another one; it has the last frame sent again only once the guest was given up; and it may
-- give up the move at any time
abbrev pub MayAsk : (to : ℕ) → Policy → (last : Option PlainExchange) → HostEvent → Type 0
MayAsk to policy last (event.Do command.Abort) = Unit {0}
MayAsk to policy None (event.Do (command.Begin x p)) = (x ≡ to) × (p ≡ policy)
MayAsk to policy (Some x) (event.Do command.Copy) = copies_on x ≡ true
MayAsk to policy (Some x) (event.Do command.Resend) = is_given x ≡ true
MayAsk to policy last e = ⊥

-- a copier may ask each of these calls after the one before it, and the first of them after `last`
abbrev pub Follows : (to : ℕ) → Policy → (last : Option PlainExchange) → List PlainReceipt → Type 0
Follows to policy last [] = Unit {0}
Follows to policy last (r ∷ rs) = MayAsk to policy last r.event × Follows to policy (Some (exchange r.event r.reply)) rs

-- the last call of a copier tells that this is what it does next
abbrev pub IsNext : Next → (last : Option PlainExchange) → Type 0
IsNext next.Done last = IsSomeAnd last (λ x. tells_done x ≡ true)
IsNext next.Resend last = IsSomeAnd last (λ x. is_given x ≡ true)
IsNext next.GiveUp last = Unit {0}
IsNext n last = IsSomeAnd last (λ x. copies_on x ≡ true)

-- the number of consecutive calls for which memory ran out, after one more that was not made for this reason
abbrev pub refused_after : (refused : ℕ) → WorkEnd → ℕ
refused_after refused OutOfMemory = min (refused + 1) (2 ^ 32 - 1)
refused_after refused end = refused

-- a copier that ends out of memory has asked to give up its move, or the guest was given up before, or memory ran out
-- for a thousand consecutive calls
abbrev pub HasTried : (last : Option PlainExchange) → (refused : ℕ) → Type 0
HasTried last refused =
    IsSomeAnd last (λ x. gives_up x.event ≡ true) ⊎ IsSomeAnd last (λ x. is_given x ≡ true) ⊎ (1000 ≤ refused)

-- a copier that ended so leaves these receipts: of the calls that move its guest to this host with this policy, each of
-- which it might ask after the one before, and whose last agrees with how it ended
pub record IsCopied (to : ℕ) (policy : Policy) (end : WorkEnd) (receipts : List PlainReceipt) : Type 0 where
  pub asked : AreOfCopier to policy receipts
  pub in_order : Follows to policy None receipts
  pub ended : IsCopierEnd end (last_of receipts)
