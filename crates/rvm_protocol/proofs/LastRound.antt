-- The last copies are those of the pages that are left.
use Rattle.std.proofs.Common.{◌≡◌, ◌≢◌, ◌⊎◌, inl, inr, ℕ, zero, suc, ◌+◌, ◌-◌, ◌<◌, ◌≤◌, ◌==◌, ◌^◌, Bool, true, false, ◌||◌, ◌&&◌, nat_lt, nat_le, Option, Some, None, refl, sym, ap, ◌∙◌, subst, arith}
use Rattle.rvm_protocol.specs.Commands.{Board, Begin, Copy, Resend, AbortMove, HostEvent, Do, Came}
use Rattle.rvm_protocol.specs.Frames.{Frame, Lost, Ready, is_compact, plain}
use Rattle.rvm_protocol.specs.Guest.{Guest}
use Rattle.rvm_protocol.specs.Host.{is_heard}
use Rattle.rvm_protocol.specs.LastRound.{IsCopiedLast, IsLastRound, IsLeft, LastRoundsCopyWhatIsLeft, left_in, paused_outcome}
use Rattle.rvm_protocol.specs.Modes.{Mode, Stopped, Outcome, ignores, refuses}
use Rattle.rvm_protocol.specs.Obeying.{copy_last, resend_last, sends_last}
use Rattle.rvm_protocol.specs.Pages.{is_in}
use Rattle.rvm_protocol.specs.Receiving.{came, lost_came}
use Rattle.rvm_protocol.specs.Replies.{Reply, Copied, SeqSpent}
use Rattle.rvm_protocol.specs.Rounds.{Last, last_copied, next_turn, page_count, to_copy}
use Rattle.rvm_protocol.proofs.Basics.{least_found, least_none, both_false, put_other, same_or}
use Rattle.rvm_protocol.proofs.CurrentModes.{either}

or_more : (a b c : Bool) → (a || b) ≡ true → (a || (b || c)) ≡ true
or_more true b c h = refl
or_more false true c h = refl
or_more false false c h = cc

module _ {S P E A B : Type 0} (m : Guest S P E A B) (version self count limit partner n : ℕ) where
  -- nothing is taken away
  record Keeps (l k : Last S) : Type 0 where
    guest : k.guest ≡ l.guest
    left : (p : ℕ) → left_in l p ≡ true → left_in k p ≡ true

  -- page q is copied
  record CopiesOne (l k : Last S) (reply : Reply A) (q : ℕ) : Type 0 where
    found : to_copy m l ≡ Some q
    next : k ≡ last_copied m l q
    number : ℕ
    told : reply ≡ Copied q number

  -- what an event does
  abbrev Step : (l k : Last S) → Reply A → Type 0
  Step l k reply =
      (Keeps l k × ((q j : ℕ) → reply ≡ Copied q j → ⊥)) ⊎ ((q : ℕ) × CopiesOne l k reply q)

  abbrev Steps : (l k : Last S) → Outcome S P A B → Type 0
  Steps l k o = o.next ≡ Stopped n k → Step l k o.reply

  stopped_is : (l k : Last S) → ◌≡◌ {A = Mode S P} (Stopped n l) (Stopped n k) → l ≡ k
  stopped_is l k h = cc

  copied_is : (q p i j : ℕ) → ◌≡◌ {A = Reply A} (Copied q i) (Copied p j) → q ≡ p
  copied_is q p i j h = cc

  kept : (l between k : Last S) → between.guest ≡ l.guest
      → ((p : ℕ) → left_in l p ≡ true → left_in between p ≡ true)
      → ◌≡◌ {A = Mode S P} (Stopped n between) (Stopped n k) → Keeps l k
  kept l between k guest up h =
      let is = stopped_is between k h in
      record {
        guest = ap (λ x. x.guest) (sym is) ∙ guest;
        left = λ p t. subst (λ x. left_in x p ≡ true) is (up p t);
      }

  stays : (l k : Last S) → ◌≡◌ {A = Mode S P} (Stopped n l) (Stopped n k) → Keeps l k
  stays l k h = kept l l k refl (λ p t. t) h

  copy_step : (l k : Last S) (q : Option ℕ) → to_copy m l ≡ q → Steps l k (copy_last m version n l q)
  copy_step l k (Some q) found =
      either (Steps l k) (nat_le (2 ^ 32 - 1) l.copies) (refuses SeqSpent (Stopped n l)) (sends_last m n l q)
      (λ _ h. inl (stays l k h, λ p j z. cc))
      (λ _ h. inr (
        q,
        record {
          found = found;
          next = sym (stopped_is (last_copied m l q) k h);
          number = suc l.copies;
          told = refl;
        },
      ))
  copy_step l k None found =
      either (Steps l k) (is_compact version) _ _
      (λ _ h. inl (kept l (next_turn m l) k refl (λ p t. t) h, λ p j z. cc))
      (λ _ h. inl (stays l k h, λ p j z. cc))

  resend_step : (l k : Last S) (q : Option ℕ) → Steps l k (resend_last m version n l q)
  resend_step l k (Some q) = λ h. inl (stays l k h, λ p j z. cc)
  resend_step l k None =
      either (Steps l k) (is_compact version) _ _
      (λ _ h. inl (kept l (next_turn m l) k refl (λ p t. t) h, λ p j z. cc))
      (λ _ h. inl (stays l k h, λ p j z. cc))

  came_step : (l k : Last S) (f : Frame P B) → Steps l k (came m limit f (Stopped n l))
  came_step l k (Lost e ps) =
      either (Steps l k) (n == e) (lost_came m n l ps) (ignores (Stopped n l))
      (λ _ h. inl (
        kept l _ k refl
            (λ p t. or_more (l.to_send p) (l.to_fix p) (is_in ps p && nat_lt p (page_count m l.guest)) t) h,
        λ p j z. cc,
      ))
      (λ _ h. inl (stays l k h, λ p j z. cc))
  came_step l k (Ready e) =
      either (Steps l k) (n == e) _ (ignores (Stopped n l)) (λ _ h. cc)
      (λ _ h. inl (stays l k h, λ p j z. cc))
  came_step l k f = λ h. inl (stays l k h, λ p j z. cc)

  step : (l k : Last S) (e : HostEvent P E B)
      → Steps l k (paused_outcome m version self count limit partner n e l)
  step l k (Do (Board e)) = λ h. inl (stays l k h, λ p j z. cc)
  step l k (Do (Begin to p)) = λ h. inl (stays l k h, λ p j z. cc)
  step l k (Do Copy) = copy_step l k (to_copy m l) refl
  step l k (Do Resend) = resend_step l k (to_copy m l)
  step l k (Do AbortMove) = λ h. cc
  step l k (Came y f) =
      either (Steps l k)
      (is_heard self count y (plain m f) (record { mode = Stopped n l; partner = partner }))
      (came m limit (plain m f) (Stopped n l)) (ignores (Stopped n l))
      (λ _. came_step l k (plain m f)) (λ _ h. inl (stays l k h, λ p j z. cc))

  -- what is left of other pages stays
  left_still : (l : Last S) (q p : ℕ) → p ≢ q → left_in l p ≡ true → left_in (last_copied m l q) p ≡ true
  left_still l q p ne t =
      (λ i. put_other l.to_send q p false ne i || put_other l.to_fix q p false ne i) ∙ t

  module _ (events : ℕ → HostEvent P E B) (at : ℕ → Last S) (times p : ℕ)
      (round : IsLastRound m version self count limit partner n events at times)
      (over : to_copy m (at times) ≡ None) (here : p < page_count m (at 0).guest) where
    abbrev Copied_at : Type 0
    Copied_at = IsCopiedLast m version self count limit partner n events at times p

    step_at : (i : ℕ) → i < times
        → Step (at i) (at (suc i)) (paused_outcome m version self count limit partner n (events i) (at i)).reply
    step_at i lt = step (at i) (at (suc i)) (events i) (round i lt)

    guests : (i : ℕ) → i ≤ times → (at i).guest ≡ (at 0).guest
    guests zero le = refl
    guests (suc i) le =
        let old = guests i (omega (arith, le)) in
        elim (step_at i (omega (arith, le))) [
          | inl keeps ↦ keeps.0.guest ∙ old
          | inr one ↦ ap (λ x. x.guest) one.1.next ∙ old
        ]

    none_left : left_in (at times) p ≡ false
    none_left =
        least_none (left_in (at times)) 0 (page_count m (at times).guest) over p (omega arith)
        (subst (λ z. p < 0 + page_count m z) (sym (guests times (omega arith))) (omega (arith, here)))

    -- a page that is left is copied by one of the events to come
    comes : (d i : ℕ) → i + d ≡ times → left_in (at i) p ≡ true → Copied_at
    comes zero i end left =
        let e : i ≡ times = omega (arith, end) in
        absurd (both_false (left_in (at times) p) (subst (λ z. left_in (at z) p ≡ true) e left) none_left)
    comes (suc d) i end left =
        let lt : i < times = omega (arith, end) in
        let next : suc i + d ≡ times = omega (arith, end) in
        elim (step_at i lt) [
          | inl keeps ↦ comes d (suc i) next (keeps.0.left p left)
          | inr one ↦
              elim (same_or p one.0) [
                | inl e ↦
                    record {
                      index = i;
                      inside = lt;
                      number = one.1.number;
                      reply = one.1.told ∙ ap (λ z. Copied z one.1.number) (sym e);
                    }
                | inr ne ↦
                    comes d (suc i) next
                    (subst (λ z. left_in z p ≡ true) (sym one.1.next) (left_still (at i) one.0 p ne left))
              ]
        ]

    was_left : (c : Copied_at) → IsLeft at times p
    was_left c =
        elim (step_at c.index c.inside) [
          | inl keeps ↦ absurd (keeps.1 p c.number c.reply)
          | inr one ↦
              let e : one.0 ≡ p = copied_is one.0 p one.1.number c.number (sym one.1.told ∙ c.reply) in
              let l = least_found (left_in (at c.index)) 0 (page_count m (at c.index).guest) one.0 one.1.found in
              record {
                index = c.index;
                inside = c.inside;
                left = subst (λ z. left_in (at c.index) z ≡ true) e l.holds;
              }
        ]

    is_copied : IsLeft at times p → Copied_at
    is_copied l = let lt = l.inside in comes (times - l.index) l.index (omega (arith, lt)) l.left

  pub last_law : LastRoundsCopyWhatIsLeft m version self count limit partner n
  unfolding LastRoundsCopyWhatIsLeft
  last_law events at times p round over here =
      (was_left events at times p round over here, is_copied events at times p round over here)
