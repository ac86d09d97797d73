-- Frames as they are written and as they are read.
use Rattle.std.proofs.Common.{◌≡◌, inl, inr, ℕ, ◌&&◌, List, [], ◌∷◌, ◌++◌, Option, Some, None, refl, sym, ap, ◌∙◌}
use Rattle.rvm_protocol.specs.Frames.{Frame, Offer, Accept, Refuse, Page, RoundEnd, Lost, State, Ready, Go, Started, Abort, Addressed, posted, Part, Zero, read, plain, made_as, written, is_compact}
use Rattle.rvm_protocol.specs.Guest.{Guest, IsGuest}
use Rattle.rvm_protocol.specs.World.{and_sent, Has}
use Rattle.rvm_protocol.proofs.CurrentModes.{either}
use Rattle.rvm_protocol.proofs.Basics.{and_both}

module _ {S P E A B : Type 0} (m : Guest S P E A B) (laws : IsGuest m) where
  -- a frame is read as it was before it was written
  pub plain_written : (v : ℕ) (f : Frame P B) → ((k p n : ℕ) → f ≡ Zero k p n → ⊥)
      → plain m (written m v f) ≡ f
  plain_written v (Page n p k b) h =
      either (λ f. plain m f ≡ Page n p k b) (is_compact v && m.is_zeros b) (Zero n p k)
      (Page n p k b)
      (λ e. ap (λ z. Page n p k z)
      (sym (laws.only_zeros_pass b (and_both (is_compact v) (m.is_zeros b) e).1)))
      (λ _. refl)
  plain_written v (Zero k p n) h = absurd (h k p n refl)
  plain_written v (Offer n a b) h = refl
  plain_written v (Accept n) h = refl
  plain_written v (Refuse n a) h = refl
  plain_written v (RoundEnd n a b c d) h = refl
  plain_written v (Lost n ps) h = refl
  plain_written v (State n ns b) h = refl
  plain_written v (Part n st i u x) h = refl
  plain_written v (Ready n) h = refl
  plain_written v (Go n) h = refl
  plain_written v (Started n) h = refl
  plain_written v (Abort n) h = refl

  read_more : (xs : List (Addressed P B)) (a : Addressed P B) → read m (xs ++ a ∷ []) ≡ read m xs
      ++ record { from = a.from; to = a.to; frame = plain m a.frame } ∷ []
  unfolding read
  read_more [] a = refl
  read_more (x ∷ xs) a =
      ap (λ z. record { from = x.from; to = x.to; frame = plain m x.frame } ∷ z) (read_more xs a)

  pub read_sent : (v : ℕ) (sent : List (Addressed P B)) (x y : ℕ) (made : Option (Frame P B))
      → ((k p n : ℕ) → made ≡ Some (Zero k p n) → ⊥)
      → read m (and_sent sent (posted x y (made_as m v made))) ≡ and_sent (read m sent)
      (posted x y made)
  read_sent v sent x y None h = refl
  read_sent v sent x y (Some f) h =
      read_more sent (record { from = x; to = y; frame = written m v f })
      ∙ ap (λ (z : Frame P B). read m sent ++ record { from = x; to = y; frame = z } ∷ [])
      (plain_written v f (λ k p n e. h k p n (ap Some e)))

  pub has_read : (sent : List (Addressed P B)) (a : Addressed P B) → Has sent a
      → Has (read m sent) (record { from = a.from; to = a.to; frame = plain m a.frame })
  unfolding Has read
  has_read [] a h = absurd h
  has_read (x ∷ xs) a (inl e) =
      inl (ap (λ (z : Addressed P B). record {
        from = z.from;
        to = z.to;
        frame =
            plain m z.frame;
      }) e)
  has_read (x ∷ xs) a (inr h) = inr (has_read xs a h)
