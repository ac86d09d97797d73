-- The modes show one current host, and a commit makes the sender of its frame the current one.
use Rattle.std.proofs.Common.{◌≡◌, inl, inr, ℕ, suc, ◌==◌, ◌||◌, true, false, refl, sym, ◌∙◌, subst, arith}
use Rattle.std.proofs.lemmas.Bool.{eqb-true}
use Rattle.rvm_protocol.proofs.Basics.{and_both, or_true, same_or}
use Rattle.rvm_protocol.proofs.Behind.{GivenOk, is_run}
use Rattle.rvm_protocol.proofs.CurrentModes.{either}
use Rattle.rvm_protocol.proofs.OneGuestHolds.{no_other}
use Rattle.rvm_protocol.proofs.OtherHosts.{NoCommit, came_ok, none_at}
use Rattle.rvm_protocol.proofs.PairInvariant.{HoldsNone}
use Rattle.rvm_protocol.proofs.Runs.{SoundAt}
use Rattle.rvm_protocol.proofs.Tellings.{commanded}
use Rattle.rvm_protocol.specs.Commands.{Board, Begin, Copy, Resend, AbortMove, Command}
use Rattle.rvm_protocol.specs.Frames.{Accept, Frame, Go, Lost, Ready, Refuse, read}
use Rattle.rvm_protocol.specs.Guest.{Guest, IsGuest}
use Rattle.rvm_protocol.specs.Host.{came_at, is_heard, is_offer_above, is_there, obey_at}
use Rattle.rvm_protocol.specs.Modes.{Copying, Empty, Given, Held, Mode, Offering, Outcome, Run, Staging, Stopped, ignores, move_of, refuses}
use Rattle.rvm_protocol.specs.Obeying.{begin}
use Rattle.rvm_protocol.specs.Receiving.{came, of_this_move}
use Rattle.rvm_protocol.specs.Replies.{BadHost, Committed, Reply}
use Rattle.rvm_protocol.specs.Shown.{IsTarget, Shown}
use Rattle.rvm_protocol.specs.Told.{Told, reply_current}
use Rattle.rvm_protocol.specs.World.{World}

-- the host of the guest after a reply to a frame
abbrev pub moved : {A : Type 0} → Reply A → (from current : ℕ) → ℕ
moved (Committed n) from current = from
moved r from current = current

module _ {S P E A B : Type 0} (m : Guest S P E A B) (laws : IsGuest m) where
  -- ONE HOST ALONE

  pub one_current : (w : World S P B) (t t' : Told S) → SoundAt m laws w t → Shown w.hosts t' → t'.current ≡ t.current
  one_current w t t' s h =
      let x = t'.current in
      elim (same_or x s.c) [
        | inl q ↦ q ∙ sym s.good.current
        | inr n ↦
            absurd (no_other m laws (w.hosts x).mode w t s x n refl
            (none_at m laws (w.hosts s.c) (w.hosts s.d) w.hosts (read m w.sent) s.c s.d x t s.good n) h.current)
      ]

  -- COMMITS

  -- the current host that the replies tell, and the one that the world takes for it
  abbrev pub Lands : (ℕ → ℕ) → (c from : ℕ) → Outcome S P A B → Type 0
  Lands ts c from o = reply_current o.reply ts c ≡ moved o.reply from c

  lands : (r : Reply A) (ts : ℕ → ℕ) (c y : ℕ) → NoCommit m laws r → reply_current r ts c ≡ moved r y c
  lands (Committed n) ts c y h = absurd h
  lands r ts c y h = refl

  given_high : (X : Mode S P) → GivenOk (suc (move_of X)) X
  given_high (Given n kept) = omega arith
  given_high (Empty n) = tt
  given_high (Run n g) = tt
  given_high (Offering n g p) = tt
  given_high (Copying n r) = tt
  given_high (Stopped n l) = tt
  given_high (Staging n s) = tt
  given_high (Held n g) = tt

  none_lands : (ts : ℕ → ℕ) (c y limit : ℕ) (f : Frame P B) (X : Mode S P) → HoldsNone X
      → Lands ts c y (came m limit f X)
  none_lands ts c y limit f X h =
      lands (came m limit f X).reply ts c y
      (came_ok m laws (λ q. suc (move_of X)) 0 0 y limit f X h (given_high X)).2

  this_lands : (ts : ℕ → ℕ) (c y n k : ℕ) (o : Outcome S P A B) (X : Mode S P) → Lands ts c y o
      → Lands ts c y (of_this_move m n k o X)
  this_lands ts c y n k o X h = either (Lands ts c y) (n == k) o (ignores X) (λ _. h) (λ _. refl)

  -- a frame that is heard at the current host
  heard_lands : (ts : ℕ → ℕ) (c d p y limit : ℕ) (f : Frame P B) (X : Mode S P) → IsTarget ts d X
      → (is_run X ≡ false → p ≡ d) → ((y == p) || is_offer_above (move_of X) f) ≡ true
      → Lands ts c y (came m limit f X)
  heard_lands ts c d p y limit (Ready k) (Stopped n l) target partner h =
      this_lands ts c y n k _ (Stopped n l)
      (elim (or_true (y == p) false h) [
        | inl q ↦ target ∙ sym (eqb-true y p q ∙ partner refl)
        | inr q ↦ cc
      ])
  heard_lands ts c d p y limit (Lost k ps) (Stopped n l) target partner h =
      this_lands ts c y n k _ (Stopped n l) refl
  heard_lands ts c d p y limit (Accept k) (Offering n g q) target partner h =
      this_lands ts c y n k _ (Offering n g q) refl
  heard_lands ts c d p y limit (Refuse k a) (Offering n g q) target partner h =
      this_lands ts c y n k _ (Offering n g q) refl
  heard_lands ts c d p y limit (Go k) (Run n g) target partner h = this_lands ts c y n k _ (Run n g) refl
  heard_lands ts c d p y limit f (Empty n) target partner h = none_lands ts c y limit f (Empty n) tt
  heard_lands ts c d p y limit f (Given n kept) target partner h = none_lands ts c y limit f (Given n kept) tt
  heard_lands ts c d p y limit f (Staging n s) target partner h = none_lands ts c y limit f (Staging n s) tt
  heard_lands ts c d p y limit f (Held n g) target partner h = none_lands ts c y limit f (Held n g) tt
  heard_lands ts c d p y limit f X target partner h = refl

  pub came_lands : (w : World S P B) (t : Told S) → SoundAt m laws w t → (x y : ℕ) (f : Frame P B)
      → Lands t.targets t.current y (came_at m x w.count (w.limits x) y f (w.hosts x))
  came_lands w t s x y f =
      let h = w.hosts x in
      let l = s.good in
      either (Lands t.targets t.current y) (is_heard x w.count y f h) (came m (w.limits x) f h.mode) (ignores h.mode)
      (λ e. elim (same_or x s.c) [
        | inl q ↦
            heard_lands t.targets t.current s.d h.partner y (w.limits x) f h.mode
            (subst (λ z. IsTarget t.targets s.d (w.hosts z).mode) (sym q) l.target)
            (subst (λ z. is_run (w.hosts z).mode ≡ false → (w.hosts z).partner ≡ s.d) (sym q) l.partner)
            (and_both (is_there x w.count y) ((y == h.partner) || is_offer_above (move_of h.mode) f) e).1
        | inr n ↦
            none_lands t.targets t.current y (w.limits x) f h.mode
            (none_at m laws (w.hosts s.c) (w.hosts s.d) w.hosts (read m w.sent) s.c s.d x t l n)
      ])
      (λ _. refl)

  pub obeyed : (v x count : ℕ) (k : Command E) (X : Mode S P) (ts : ℕ → ℕ) (c : ℕ)
      → reply_current (obey_at m v x count k X).reply ts c ≡ c
  obeyed v x count (Begin to p) (Run n g) ts c =
      either (λ (o : Outcome S P A B). reply_current o.reply ts c ≡ c) (is_there x count to)
      (begin m p (Run n g)) (refuses BadHost (Run n g))
      (λ _. (commanded m v (Begin to p) (Run n g)).current ts c) (λ _. refl)
  obeyed v x count (Begin to p) (Empty n) ts c = refl
  obeyed v x count (Begin to p) (Offering n g r) ts c = refl
  obeyed v x count (Begin to p) (Copying n r) ts c = refl
  obeyed v x count (Begin to p) (Stopped n l) ts c = refl
  obeyed v x count (Begin to p) (Given n kept) ts c = refl
  obeyed v x count (Begin to p) (Staging n s) ts c = refl
  obeyed v x count (Begin to p) (Held n g) ts c = refl
  obeyed v x count (Board e) X ts c = (commanded m v (Board e) X).current ts c
  obeyed v x count Copy X ts c = (commanded m v Copy X).current ts c
  obeyed v x count Resend X ts c = (commanded m v Resend X).current ts c
  obeyed v x count AbortMove X ts c = (commanded m v AbortMove X).current ts c
