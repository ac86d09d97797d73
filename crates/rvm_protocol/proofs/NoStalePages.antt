-- The law of stale pages follows from the invariant.
use Rattle.std.proofs.Common.{◌≡◌, inl, inr, ℕ, true, List, [], length, sym, subst, arith, get_or}
use Rattle.rvm_protocol.specs.FrameContents.{IsStateOf}
use Rattle.rvm_protocol.specs.Frames.{Frame, Page, State, Addressed, Part, read}
use Rattle.rvm_protocol.specs.FreshCopies.{NewestCopy, CopiesAreFresh, NoStalePage}
use Rattle.rvm_protocol.specs.Guest.{Guest, IsGuest}
use Rattle.rvm_protocol.specs.Host.{Host}
use Rattle.rvm_protocol.specs.Modes.{Mode, Empty, Run, Offering, Copying, Stopped, Given, Staging, Held, move_of}
use Rattle.rvm_protocol.specs.Rounds.{page_of}
use Rattle.rvm_protocol.specs.Told.{Told, at_start, told}
use Rattle.rvm_protocol.specs.World.{World, history, mode_at, run, new_world}
use Rattle.rvm_protocol.proofs.PairInvariant.{Meet, CopiesOk, IsFresh, TrueState}
use Rattle.rvm_protocol.proofs.OtherModes.{alone}
use Rattle.rvm_protocol.proofs.Basics.{some_is, same_or}
use Rattle.rvm_protocol.proofs.OtherPages.{pieces_are_sent}
use Rattle.rvm_protocol.proofs.Behind.{run_apart}
use Rattle.rvm_protocol.proofs.WorldInvariant.{Made, Good}
use Rattle.rvm_protocol.proofs.OtherHosts.{none_at}
use Rattle.rvm_protocol.proofs.Runs.{SoundAt, new_sound, run_sound}

module _ {S P E A B : Type 0} (m : Guest S P E A B) (laws : IsGuest m) where
  -- the stale-page law
  newest_copy : (sent : List (Addressed P B)) (c d e : ℕ) (newest : ℕ → ℕ) (copies : ℕ) (g : S)
      (p : ℕ) → ((z k : ℕ) (b : P) → Made sent c z (Page e p k b) → Made sent c d (Page e p k b))
      → CopiesOk e (Made sent c d) newest copies → IsFresh m e (Made sent c d) newest g p
      → NewestCopy sent c e p (page_of m g p)
  newest_copy sent c d e newest copies g p to_d ok f =
      record {
        number = newest p;
        to = d;
        was_sent = f.2;
        newest = λ z k b h. ok.number p k b
            (to_d z k b h);
        only = λ z b h. f.1 b (to_d z _ b h);
      }

  is_state : (e : ℕ) (g : S) (F : Frame P B → Type 0) (ns : List ℕ) (b : B)
      → TrueState m e F g ns b → IsStateOf m g ns b
  is_state e g F ns b t = record { body = t.body; each = t.count; named = t.named }

  stale_owner : (O : Mode S P) (p : ℕ) (hd : Host S P) (H : ℕ → Host S P)
      (sent : List (Addressed P B)) (c d : ℕ) (t : Told S)
      → Good m laws (record { mode = O; partner = p }) hd H sent c d t → CopiesAreFresh m sent c O
  stale_owner (Copying n r) q hd H sent c d t l =
      let to_d : (p z k : ℕ) (b : P) → Made sent c z (Page n p k b)
      → Made sent c d (Page n p k b) = λ p z k b h.
      elim (l.past c z (Page n p k b) h) [
        | inl e ↦ elim e [
          | inl v ↦ subst
              (λ w. Made sent c w (Page n p k b)) v.1 h
          | inr v ↦
              absurd (l.apart (sym v.0))
        ]
        | inr lt ↦ absurd (omega arith)
      ] in
      λ p lt. elim
      (l.pages.stale p lt) [
        | inl a ↦
            inl a
        | inr b ↦
            inr (elim b [
              | inl a ↦ inl a
              | inr f ↦ inr
                  (newest_copy sent c d n r.newest r.copies r.guest p (to_d p) l.pages.copies f)
            ])
      ]
  stale_owner (Stopped n r) q hd H sent c d t l =
      let to_d : (p z k : ℕ) (b : P) → Made sent c z (Page n p k b)
      → Made sent c d (Page n p k b) = λ p z k b h.
      elim (l.past c z (Page n p k b) h) [
        | inl e ↦ elim e [
          | inl v ↦ subst
              (λ w. Made sent c w (Page n p k b)) v.1 h
          | inr v ↦
              absurd (l.apart (sym v.0))
        ]
        | inr lt ↦ absurd (omega arith)
      ] in
      let state_d : (z : ℕ) (ns : List ℕ) (b : B) → Made sent c z (State n ns b)
      → Made sent c d (State n ns b) = λ z ns b h.
      elim (l.past c z (State n ns b) h) [
        | inl e ↦ elim e [
          | inl v ↦ subst
              (λ w. Made sent c w (State n ns b)) v.1 h
          | inr v ↦
              absurd (l.apart (sym v.0))
        ]
        | inr lt ↦ absurd (omega arith)
      ] in
      let part_d : (st j u : ℕ) (x : List ℕ) (z : ℕ) → Made sent c z (Part n st j u x)
      → Made sent c d (Part n st j u x) = λ st j u x z h.
      elim (l.past c z (Part n st j u x) h) [
        | inl e ↦
            elim e [
              | inl v ↦
                  subst (λ w. Made sent c w (Part n st j u x)) v.1 h
              | inr v ↦
                  absurd (l.apart (sym v.0))
            ]
        | inr lt ↦ absurd (omega arith)
      ] in (
        λ p lt. elim
            (l.pages.stale p lt) [
              | inl a ↦
                  inl a
              | inr b ↦
                  inr (elim b [
                    | inl a ↦ inl a
                    | inr f ↦ inr
                        (newest_copy sent c d n r.newest r.copies r.guest p
                        (to_d p) l.pages.copies f)
                  ])
            ],
        λ to z ns b p k y h lt le i. (l.pages.states ns b (state_d to ns b h)).copies p k y lt le
            (to_d p z k y i),
        λ st z xs ns b p k y some were join lt le i.
            (pieces_are_sent m laws n r hd.mode (Made sent c d) st xs ns b l.pages some
            (λ j inside. part_d st j (length xs) (get_or xs j []) (were j inside).to
            (were j inside).was_sent) join
            (subst (λ w. m.valid w ≡ true)
            (sym (some_is r.guest t.guest l.guest)) l.valid)).copies p k y lt le
            (to_d p z k y i),
        λ to ns b h. is_state n r.guest (Made sent c d) ns b
            (l.pages.states ns b (state_d to ns b h)),
        λ st xs ns b some were join.
            is_state n r.guest (Made sent c d) ns b
            (pieces_are_sent m laws n r hd.mode (Made sent c d) st xs ns b l.pages some
            (λ j inside. part_d st j (length xs) (get_or xs j []) (were j inside).to
            (were j inside).was_sent) join
            (subst (λ w. m.valid w ≡ true)
            (sym (some_is r.guest t.guest l.guest)) l.valid)),
      )
  stale_owner (Empty n) q hd H sent c d t l = tt
  stale_owner (Run n g) q hd H sent c d t l = tt
  stale_owner (Offering n g p) q hd H sent c d t l = tt
  stale_owner (Given n kept) q hd H sent c d t l = tt
  stale_owner (Staging n s) q hd H sent c d t l = tt
  stale_owner (Held n g) q hd H sent c d t l = tt

  stale_other : (O T : Mode S P) (sent : List (Addressed P B)) (x : ℕ) → Meet O T
      → CopiesAreFresh m sent x T
  stale_other O (Empty n) sent x h = tt
  stale_other O (Given n kept) sent x h = tt
  stale_other O (Staging n s) sent x h = tt
  stale_other O (Held n g) sent x h = tt
  stale_other O (Run n g) sent x h = absurd (alone O (Run n g) h)
  stale_other O (Offering n g p) sent x h = absurd (alone O (Offering n g p) h)
  stale_other O (Copying n r) sent x h = absurd (alone O (Copying n r) h)
  stale_other O (Stopped n l) sent x h = absurd (alone O (Stopped n l) h)

  -- whatever is known of the world
  pub stale_at : (w : World S P B) (t : Told S) → SoundAt m laws w t → (x : ℕ)
      → CopiesAreFresh m (read m w.sent) x (mode_at m w x)
  stale_at w t s x =
      let l = s.good in
      elim (same_or x s.c) [
        | inl q ↦
            subst (λ z. CopiesAreFresh m (read m w.sent) z (mode_at m w z)) (sym q)
            (stale_owner (w.hosts s.c).mode (w.hosts s.c).partner (w.hosts s.d) w.hosts
            (read m w.sent) s.c s.d _ l)
        | inr n ↦
            stale_other (Run (move_of (w.hosts x).mode) t.guest) (w.hosts x).mode (read m w.sent) x
            (run_apart (move_of (w.hosts x).mode) (w.hosts x).mode
            (none_at m laws (w.hosts s.c) (w.hosts s.d) w.hosts (read m w.sent) s.c s.d x _ l n)
            (omega arith))
      ]

  pub stale_law : NoStalePage m
  unfolding NoStalePage
  stale_law = λ g version origin count limits events x v.
      stale_at (run m (new_world m version origin g count limits) events)
      (told m (at_start origin g) (history m (new_world m version origin g count limits) events))
      (run_sound m laws events (new_world m version origin g count limits) (at_start origin g)
      (new_sound m laws version origin g count limits v)) x
