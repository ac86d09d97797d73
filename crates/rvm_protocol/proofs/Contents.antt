-- Frames carry the guest.
use Rattle.std.proofs.Common.{◌≡◌, ◌⊎◌, inl, inr, ℕ, ◌+◌, ◌==◌, ◌^◌, ◌-◌, true, nat_lt, nat_le, not, ◌&&◌, ◌||◌, length, Option, Some, None, refl, ap, ◌∙◌, subst, get_or, sym, [], ◌<◌, arith}
use Rattle.rvm_protocol.specs.Commands.{Command, Board, Begin, Copy, Resend, AbortMove, HostEvent, Do, Came, is_allowed}
use Rattle.rvm_protocol.specs.FrameContents.{IsStateOf, Carries, FramesCarryTheGuest}
use Rattle.rvm_protocol.specs.Frames.{Frame, Offer, Accept, Refuse, Page, RoundEnd, Lost, State, Ready, Go, Started, Abort, Addressed, posted, plain, written, made_as, Part, is_compact, Zero, read}
use Rattle.rvm_protocol.specs.Guest.{Guest, IsGuest}
use Rattle.rvm_protocol.specs.Host.{Host, obey_at, is_there, is_heard, outcome, partner_then, addressee}
use Rattle.rvm_protocol.specs.Modes.{Mode, Empty, Run, Offering, Copying, Stopped, Given, Staging, Held, Outcome, ignores, says, sends, refuses, guest_in}
use Rattle.rvm_protocol.specs.Obeying.{begin, begin_allowed, begun, copy_page, sends_page, copy_last, sends_last, resend_last, sends_state}
use Rattle.rvm_protocol.specs.Pages.{least}
use Rattle.rvm_protocol.specs.Receiving.{came, of_this_move, offered, offer_above}
use Rattle.rvm_protocol.specs.Replies.{Accepted, Declined, BadSize, BadHost, EpochsSpent, SeqSpent, Stopping, Reply}
use Rattle.rvm_protocol.specs.Rounds.{Rounds, Last, is_skipped, to_copy, stopped, page_count, page_of, newest_numbers, pieces_of}
use Rattle.rvm_protocol.specs.Told.{Told, told, at_start}
use Rattle.rvm_protocol.specs.World.{World, Event, mode_at, run, history, meaning, new_world, result_at}
use Rattle.rvm_protocol.proofs.PairInvariant.{New, HoldsNone, Content}
use Rattle.rvm_protocol.proofs.CurrentModes.{either}
use Rattle.rvm_protocol.proofs.Basics.{some_is, same_or, or_left, or_right, and_both, both_false, least_none, listed_length, listed_at}
use Rattle.rvm_protocol.proofs.Runs.{SoundAt, run_sound, new_sound}
use Rattle.rvm_protocol.proofs.OtherHosts.{none_at}
use Rattle.rvm_protocol.proofs.OneGuestHolds.{told_guest}
use Rattle.rvm_protocol.proofs.StateCases.{state_cases, part_cases}

module _ {S P E A B : Type 0} (m : Guest S P E A B) (laws : IsGuest m) (g : S) where
  -- the paused guest is g, and each of its pages was copied, or is still to be
  pub record StoppedIs (l : Last S) : Type 0 where
    pub guest : l.guest ≡ g
    pub turn : l.turn < length (pieces_of m l)
    pub copied : (p : ℕ) → p < page_count m l.guest
        → ((l.to_send p || l.to_fix p) ≡ true) ⊎ (0 < l.newest p)

  -- a source's guest is g
  abbrev pub SourceIs : Mode S P → Type 0
  SourceIs (Copying n r) = r.guest ≡ g
  SourceIs (Stopped n l) = StoppedIs l
  SourceIs mode = Unit {0}

  abbrev pub Carried : Outcome S P A B → Type 0
  Carried o = New (Carries m g) o.made

  carry_equal : (n k : ℕ) (o : Outcome S P A B) (X : Mode S P) → Carried o
      → Carried (of_this_move m n k o X)
  carry_equal n k o X h = either Carried (n == k) o (ignores X) (λ _. h) (λ _. tt)

  carry_above : (limit s k a b : ℕ) (X : Mode S P) → Carried (offer_above m s limit k a b X)
  carry_above limit s k a b X =
      either Carried (nat_lt s k) (offered m limit k a b X) (ignores X)
      (λ _. either Carried (nat_lt limit a) (sends (Declined limit) (Refuse k limit) X)
      (sends Accepted (Accept k) (Staging k _)) (λ _. tt) (λ _. tt))
      (λ _. tt)

  carry_came : (limit : ℕ) (f : Frame P B) (X : Mode S P) → Carried (came m limit f X)
  carry_came limit (Offer k a b) (Empty n) = carry_above limit n k a b (Empty n)
  carry_came limit (Offer k a b) (Given n kept) = carry_above limit n k a b (Given n kept)
  carry_came limit (Offer k a b) (Held n q) = carry_above limit n k a b (Held n q)
  carry_came limit (Offer k a b) (Staging n s) =
      either Carried (n == k) (sends Accepted (Accept n) (Staging n s))
      (offer_above m n limit k a b (Staging n s)) (λ _. tt)
      (λ _. carry_above limit n k a b (Staging n s))
  carry_came limit (Accept k) (Offering n q p) = carry_equal n k _ (Offering n q p) tt
  carry_came limit (Refuse k a) (Offering n q p) = carry_equal n k _ (Offering n q p) tt
  carry_came limit (Page k i c b) (Staging n s) =
      carry_equal n k _ (Staging n s)
      (either Carried (nat_lt i (length s.pages) && nat_lt (s.have i) c) _ (ignores (Staging n s))
      (λ _. tt) (λ _. tt))
  carry_came limit (RoundEnd k a b c d) (Staging n s) = carry_equal n k _ (Staging n s) tt
  carry_came limit (State k ns b) (Staging n s) =
      carry_equal n k _ (Staging n s)
      (state_cases m Carried n s s ns b tt tt (λ q _ _. tt))
  carry_came limit (Part k st i u x) (Staging n s) =
      carry_equal n k _ (Staging n s)
      (part_cases m Carried n s st i u x tt tt (λ _. tt) (λ _ ns. tt)
      (λ _ xs ns b q _ _ _ _. tt))
  carry_came limit (Part k st i u x) (Held n q) = carry_equal n k _ (Held n q) tt
  carry_came limit (State k ns b) (Held n q) = carry_equal n k _ (Held n q) tt
  carry_came limit (Lost k ps) (Stopped n l) = carry_equal n k _ (Stopped n l) tt
  carry_came limit (Ready k) (Stopped n l) = carry_equal n k _ (Stopped n l) tt
  carry_came limit (Go k) (Held n q) = carry_equal n k _ (Held n q) tt
  carry_came limit (Go k) (Run n q) = carry_equal n k _ (Run n q) tt
  carry_came limit (Started k) (Given n kept) = carry_equal n k _ (Given n kept) tt
  carry_came limit (Abort k) (Staging n s) = carry_equal n k _ (Staging n s) tt
  carry_came limit (Abort k) (Held n q) = carry_equal n k _ (Held n q) tt
  carry_came limit f X = tt

  carry_copy : (n : ℕ) (r : Rounds S) (q : Option ℕ) → r.guest ≡ g → Carried (copy_page m n r q)
  carry_copy n r (Some p) same =
      either Carried (nat_le (2 ^ 32 - 1) r.copies) (refuses SeqSpent (Copying n r))
      (sends_page m n r p) (λ _. tt) (λ _. ap (λ x. page_of m x p) same)
  carry_copy n r None same = tt

  -- if nothing is left to copy, the newest copies are those of the state of g
  all_copied : (l : Last S) → StoppedIs l → to_copy m l ≡ None
      → IsStateOf m g (newest_numbers m l) (m.body l.guest)
  all_copied l same nothing =
      subst (λ x. IsStateOf m x (newest_numbers m l) (m.body l.guest)) same.guest (record {
        body = refl;
        each = listed_length l.newest 0 (page_count m l.guest);
        named = λ p lt. subst (λ k. 0 < k) (sym (listed_at l.newest 0 0 (page_count m l.guest) p lt))
            (subst (λ q. 0 < l.newest q) (let e : p ≡ 0 + p = omega arith in e) (copied_already p lt));
      })
    where
      copied_already : (p : ℕ) → p < page_count m l.guest → 0 < l.newest p
      copied_already p lt =
          elim (same.copied p lt) [
            | inl left ↦
                absurd (both_false (l.to_send p || l.to_fix p) left
                (least_none (λ q. l.to_send q || l.to_fix q) 0 (page_count m l.guest) nothing p
                (omega arith) (omega (arith, lt))))
            | inr newest ↦ newest
          ]

  carry_state : (v : ℕ) (a b : Reply A) (n : ℕ) (l : Last S) → StoppedIs l
      → to_copy m l ≡ None → Carried (sends_state m v a b n l)
  carry_state v a b n l same nothing =
      let state = all_copied l same nothing in
      either Carried (is_compact v) _ _
      (λ _. record {
        numbers = newest_numbers m l;
        state = record { body = refl; each = state.each; named = state.named };
        count = ap (λ x. length (m.cut (newest_numbers m l) (m.body x))) same.guest;
        inside = same.turn;
        piece = ap (λ x. get_or (m.cut (newest_numbers m l) (m.body x)) l.turn []) same.guest;
      })
      (λ _. state)

  carry_last : (v : ℕ) → (n : ℕ) (l : Last S) (q : Option ℕ) → StoppedIs l → to_copy m l ≡ q
      → Carried (copy_last m v n l q)
  carry_last v n l (Some p) same found =
      either Carried (nat_le (2 ^ 32 - 1) l.copies) (refuses SeqSpent (Stopped n l))
      (sends_last m n l p) (λ _. tt) (λ _. ap (λ x. page_of m x p) same.guest)
  carry_last v n l None same found = carry_state v _ _ n l same found

  carry_resend : (v : ℕ) → (n : ℕ) (l : Last S) (q : Option ℕ) → StoppedIs l → to_copy m l ≡ q
      → Carried (resend_last m v n l q)
  carry_resend v n l (Some p) same found = tt
  carry_resend v n l None same found = carry_state v _ _ n l same found

  carry_begin : (v : ℕ) → (to : ℕ) (x count : ℕ) (p : _) (X : Mode S P)
      → Carried (obey_at m v x count (Begin to p) X)
  carry_begin v to x count p (Run n q) =
      either Carried (is_there x count to) (begin m p (Run n q)) (refuses BadHost (Run n q))
      (λ _. either Carried (is_allowed p) (begin_allowed m p n q) (refuses BadSize (Run n q))
      (λ _. either Carried (n == 2 ^ 64 - 1) (refuses EpochsSpent (Run n q)) (begun m p n q)
      (λ _. tt) (λ _. tt)) (λ _. tt))
      (λ _. tt)
  carry_begin v to x count p (Empty n) = tt
  carry_begin v to x count p (Offering n q r) = tt
  carry_begin v to x count p (Copying n r) = tt
  carry_begin v to x count p (Stopped n l) = tt
  carry_begin v to x count p (Given n kept) = tt
  carry_begin v to x count p (Staging n s) = tt
  carry_begin v to x count p (Held n q) = tt

  carry_obey : (v : ℕ) → (x count : ℕ) (k : Command E) (X : Mode S P) → SourceIs X
      → Carried (obey_at m v x count k X)
  carry_obey v x count (Begin to p) X same = carry_begin v to x count p X
  carry_obey v x count (Board e) (Empty n) same = tt
  carry_obey v x count (Board e) (Run n q) same = tt
  carry_obey v x count (Board e) (Offering n q p) same = tt
  carry_obey v x count (Board e) (Copying n r) same = tt
  carry_obey v x count (Board e) (Stopped n l) same = tt
  carry_obey v x count (Board e) (Given n kept) same = tt
  carry_obey v x count (Board e) (Staging n s) same = tt
  carry_obey v x count (Board e) (Held n q) same = tt
  carry_obey v x count Copy (Empty n) same = tt
  carry_obey v x count Copy (Run n q) same = tt
  carry_obey v x count Copy (Offering n q p) same = tt
  carry_obey v x count Copy (Copying n r) same =
      either Carried r.stop (says Stopping (Stopped n (stopped m r)))
      (copy_page m n r
      (least (λ x. r.to_send x && not (is_skipped r x)) r.scan
      (length (m.pages r.guest) - r.scan))) (λ _. tt) (λ _. carry_copy n r _ same)
  carry_obey v x count Copy (Stopped n l) same = carry_last v n l (to_copy m l) same refl
  carry_obey v x count Copy (Given n kept) same = tt
  carry_obey v x count Copy (Staging n s) same = tt
  carry_obey v x count Copy (Held n q) same = tt
  carry_obey v x count Resend (Stopped n l) same = carry_resend v n l (to_copy m l) same refl
  carry_obey v x count Resend (Empty n) same = tt
  carry_obey v x count Resend (Run n q) same = tt
  carry_obey v x count Resend (Offering n q p) same = tt
  carry_obey v x count Resend (Copying n r) same = tt
  carry_obey v x count Resend (Given n kept) same = tt
  carry_obey v x count Resend (Staging n s) same = tt
  carry_obey v x count Resend (Held n q) same = tt
  carry_obey v x count AbortMove (Empty n) same = tt
  carry_obey v x count AbortMove (Run n q) same = tt
  carry_obey v x count AbortMove (Offering n q p) same = tt
  carry_obey v x count AbortMove (Copying n r) same = tt
  carry_obey v x count AbortMove (Stopped n l) same = tt
  carry_obey v x count AbortMove (Given n kept) same = tt
  carry_obey v x count AbortMove (Staging n s) same = tt
  carry_obey v x count AbortMove (Held n q) same = tt

  source_here : (O T : Mode S P) (F : Frame P B → Type 0) → Content m O T F → guest_in O ≡ Some g
      → SourceIs O
  source_here (Copying n r) T F ok h = some_is r.guest g h
  source_here (Stopped n l) T F ok h =
      record {
        guest = some_is l.guest g h;
        turn = ok.turn;
        copied = λ p lt. elim (ok.stale p lt) [
          | inl send ↦ inl (or_left (l.to_send p) (l.to_fix p) send)
          | inr other ↦ elim other [
            | inl fix ↦ inl (or_right (l.to_send p) (l.to_fix p) fix)
            | inr fresh ↦ inr fresh.0
          ]
        ];
      }
  source_here (Empty n) T F ok h = tt
  source_here (Run n q) T F ok h = tt
  source_here (Offering n q p) T F ok h = tt
  source_here (Given n kept) T F ok h = tt
  source_here (Staging n s) T F ok h = tt
  source_here (Held n q) T F ok h = tt

  source_none : (X : Mode S P) → HoldsNone X → SourceIs X
  source_none (Copying n r) h = absurd h
  source_none (Stopped n l) h = absurd h
  source_none (Empty n) h = tt
  source_none (Run n q) h = tt
  source_none (Offering n q p) h = tt
  source_none (Given n kept) h = tt
  source_none (Staging n s) h = tt
  source_none (Held n q) h = tt

  carry_step : (v : ℕ) → (x count limit : ℕ) (e : HostEvent P E B) (h : Host S P) → SourceIs h.mode
      → Carried (outcome m v x count limit e h)
  carry_step v x count limit (Do k) h same = carry_obey v x count k h.mode same
  carry_step v x count limit (Came y f) h same =
      either Carried (is_heard x count y (plain m f) h) (came m limit (plain m f) h.mode)
      (ignores h.mode) (λ _. carry_came limit (plain m f) h.mode) (λ _. tt)

  written_carries : (v : ℕ) (f : Frame P B) → Carries m g f → Carries m g (written m v f)
  written_carries v (Page n p k b) q =
      either (Carries m g) (is_compact v && m.is_zeros b) (Zero n p k) (Page n p k b)
      (λ e. sym q ∙ laws.only_zeros_pass b (and_both (is_compact v) (m.is_zeros b) e).1)
      (λ _. q)
  written_carries v (Offer n a b) q = q
  written_carries v (Accept n) q = q
  written_carries v (Refuse n a) q = q
  written_carries v (Zero n p k) q = q
  written_carries v (RoundEnd n a b c d) q = q
  written_carries v (Lost n ps) q = q
  written_carries v (State n ns b) q = q
  written_carries v (Part n st i u x) q = q
  written_carries v (Ready n) q = q
  written_carries v (Go n) q = q
  written_carries v (Started n) q = q
  written_carries v (Abort n) q = q

  posted_carries : (v x z : ℕ) (made : Option (Frame P B)) (a : Addressed P B)
      → posted x z (made_as m v made) ≡ Some a → New (Carries m g) made → Carries m g a.frame
  posted_carries v x z None a h q = cc
  posted_carries v x z (Some f) a h q =
      subst (λ (y : Addressed P B). Carries m g y.frame) (some_is _ a h) (written_carries v f q)

module _ {S P E A B : Type 0} (m : Guest S P E A B) (laws : IsGuest m) where
  -- whatever is known of the world
  pub carry_at : (w : World S P B) (t : Told S) → SoundAt m laws w t → (ev : Event E) (x : ℕ)
      (e : HostEvent P E B) (a : Addressed P B) → meaning m w ev ≡ Some (x, e)
      → (result_at m w x e).made ≡ Some a → Carries m t.guest a.frame
  carry_at w t s ev x e a is made =
      let l = s.good in
      let source : SourceIs m laws t.guest (mode_at m w x) = elim (same_or x s.c) [
        | inl q ↦
            subst (λ z. SourceIs m laws t.guest (mode_at m w z)) (sym q)
            (source_here m laws t.guest (mode_at m w s.c) (mode_at m w s.d) _ l.pages l.guest)
        | inr n ↦
            source_none m laws t.guest (mode_at m w x)
            (none_at m laws (w.hosts s.c) (w.hosts s.d) w.hosts (read m w.sent) s.c s.d x t l n)
      ] in
      let o = outcome m w.version x w.count (w.limits x) e (w.hosts x) in
      posted_carries m laws t.guest w.version x
      (addressee e (partner_then e o.reply (w.hosts x).partner)) o.made a made
      (carry_step m laws t.guest w.version x w.count (w.limits x) e (w.hosts x) source)

  pub carry_law : FramesCarryTheGuest m
  unfolding FramesCarryTheGuest
  carry_law = λ g version origin count limits events ev x e a v is made.
      let past = history m (new_world m version origin g count limits) events in
      subst (λ z. Carries m z a.frame) (told_guest m laws past (at_start origin g))
      (carry_at (run m (new_world m version origin g count limits) events) (told m (at_start origin g) past)
      (run_sound m laws events (new_world m version origin g count limits) (at_start origin g)
      (new_sound m laws version origin g count limits v)) ev x e a is made)
