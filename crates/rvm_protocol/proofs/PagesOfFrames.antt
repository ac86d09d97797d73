-- The third part of the invariant speaks of which frames there are, and of nothing else of them.
use Rattle.std.proofs.Common.{inl, inr, ⊎_elim}
use Rattle.rvm_protocol.specs.Frames.{Frame}
use Rattle.rvm_protocol.specs.Guest.{Guest, IsGuest}
use Rattle.rvm_protocol.specs.Modes.{Mode, Empty, Run, Offering, Copying, Stopped, Given, Staging, Held}
use Rattle.rvm_protocol.proofs.PairInvariant.{Content}
use Rattle.rvm_protocol.proofs.CurrentPages.{beside_more, copies_same, fresh_same, true_same, piece_same}

module _ {S P E A B : Type 0} (m : Guest S P E A B) (laws : IsGuest m) where
  pub content_iff : (O T : Mode S P) (F F' : Frame P B → Type 0) → ((f : Frame P B) → F f → F' f)
      → ((f : Frame P B) → F' f → F f) → Content m O T F → Content m O T F'
  content_iff (Offering e g p) T F F' up down ok =
      (λ a b h. ok.0 a b (down _ h), beside_more m laws e _ _ F F' T up ok.1)
  content_iff (Copying e r) T F F' up down ok =
      record {
        beside = beside_more m laws e _ _ F F' T up ok.beside;
        copies = copies_same m laws e F F' up (λ p k b. down _) r.newest r.copies ok.copies;
        stale = λ p lt. ⊎_elim (λ a. inl a) (λ b. inr
            (⊎_elim (λ a. inl a)
            (λ f. inr (fresh_same m laws e F F' up (λ p k b. down _) r.newest r.guest p f)) b))
            (ok.stale p lt);
        skip = ok.skip;
        over = ok.over;
      }
  content_iff (Stopped e l) T F F' up down ok =
      record {
        beside = beside_more m laws e _ _ F F' T up ok.beside;
        copies = copies_same m laws e F F' up (λ p k b. down _) l.newest l.copies ok.copies;
        stale = λ p lt. ⊎_elim (λ a. inl a) (λ b. inr
            (⊎_elim (λ a. inl a)
            (λ f. inr (fresh_same m laws e F F' up (λ p k b. down _) l.newest l.guest p f)) b))
            (ok.stale p lt);
        states = λ ns b h. true_same m laws e F F' up (λ p k y. down _) l.guest ns b
            (ok.states ns b (down _ h));
        turn = ok.turn;
        numbers = ok.numbers;
        now = ok.now;
        parts = λ st i u x h. piece_same m laws e F F' up (λ p k y. down _) l.guest l.copies
            (ok.numbers st) st i u x (ok.parts st i u x (down _ h));
        held = ok.held;
      }
  content_iff (Empty n) T F F' up down ok = tt
  content_iff (Run n g) T F F' up down ok = tt
  content_iff (Given n kept) T F F' up down ok = tt
  content_iff (Staging n s) T F F' up down ok = tt
  content_iff (Held n g) T F F' up down ok = tt
