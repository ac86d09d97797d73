-- What a round copies: those of its pages that were not in the dirty log when the round first looked at their block of
-- 64 pages.
use Rattle.std.specs.Prelude.{◌≡◌, ◌⊎◌, ◌↔◌, ◌<◌, ◌≤◌, ◌*◌, ◌/◌, ◌==◌, ◌&&◌, ◌||◌, not, ℕ, zero, suc, Bool, false, true}
use Rattle.std.specs.declared.option.Option.TheVariants.{None}
use Rattle.rvm_protocol.specs.Guest.{Guest}
use Rattle.rvm_protocol.specs.Commands.{Command, Copy}
use Rattle.rvm_protocol.specs.Replies.{Reply, Copied, RoundEnded}
use Rattle.rvm_protocol.specs.Pages.{Pages, size}
use Rattle.rvm_protocol.specs.Rounds.{Rounds, page_count, next_page}
use Rattle.rvm_protocol.specs.Modes.{Copying}
use Rattle.rvm_protocol.specs.Obeying.{obey}

-- the first page of the block of 64 pages that page p is in
abbrev pub first_beside : (p : ℕ) → ℕ
first_beside p = 64 * (p / 64)

-- a reply is a copy, of any page
abbrev pub is_copy : {A : Type 0} → Reply A → Bool
is_copy (Copied page number) = true
is_copy r = false

-- a reply is a copy of page p
abbrev pub is_copy_of : {A : Type 0} → (p : ℕ) → Reply A → Bool
is_copy_of p (Copied page number) = p == page
is_copy_of p r = false

module _ {S P E A B : Type 0} (m : Guest S P E A B) (version n : ℕ) where
  -- a round of move n from its beginning on: the source obeys this many commands, and at each time the state of its
  -- copies is this. Frames that come meanwhile are ignored
  pub record IsRound (commands : ℕ → Command E) (at : ℕ → Rounds S) (count : ℕ) : Type 0 where
    pub begins : (at 0).scan ≡ 0
    pub each : (i : ℕ) → i < count
        → (obey m version (commands i) (Copying n (at i))).next ≡ Copying n (at (suc i))
    pub same : (i : ℕ) → i ≤ count → (at i).round ≡ (at 0).round
    pub goes_on : (i : ℕ) → i ≤ count → (at i).stop ≡ false

  -- the reply to the command with this index is a copy of page p
  pub record CopiesAt (commands : ℕ → Command E) (at : ℕ → Rounds S) (i p : ℕ) : Type 0 where
    pub number : ℕ
    pub reply : (obey m version (commands i) (Copying n (at i))).reply ≡ Copied p number

  -- the round first looked at a block of 64 pages when it copied the first page that is in the block or after it, or
  -- else at its end
  pub record IsFirstLook (commands : ℕ → Command E) (at : ℕ → Rounds S) (count first i : ℕ)
      : Type 0 where
    pub within : i ≤ count
    pub looks : (i ≡ count) ⊎ ((q : ℕ) × (first ≤ q) × CopiesAt commands at i q)
    pub not_before : (j q : ℕ) → j < i → CopiesAt commands at j q → q < first

  -- page p is copied in this round
  abbrev pub IsCopied : (commands : ℕ → Command E) → (at : ℕ → Rounds S) → (count p : ℕ) → Type 0
  IsCopied commands at count p = (i : ℕ) × (i < count) × CopiesAt commands at i p

  -- each whole round copies exactly those of its pages that were not in the dirty log when it first looked at their
  -- block
  unfoldable pub RoundsCopyWhatIsNotWrittenAgain : Type 0
  RoundsCopyWhatIsNotWrittenAgain =
      (commands : ℕ → Command E) (at : ℕ → Rounds S) (count p : ℕ) → IsRound commands at count
      → next_page m (at count) ≡ None → p < page_count m (at 0).guest
      → (look : ℕ) × IsFirstLook commands at count (first_beside p) look
      × (IsCopied commands at count p
      ↔ (((at 0).to_send p ≡ true) × ((at look).log p ≡ false)))

  -- the indices of the commands whose replies are copies
  abbrev pub copies_among : (commands : ℕ → Command E) → (at : ℕ → Rounds S) → Pages
  copies_among commands at i = is_copy (obey m version (commands i) (Copying n (at i))).reply

  -- the pages of which the first replies, this many, are copies
  unfoldable pub pages_among : (commands : ℕ → Command E) → (at : ℕ → Rounds S) → (count : ℕ) → Pages
  pages_among commands at zero p = false
  pages_among commands at (suc i) p =
      is_copy_of p (obey m version (commands i) (Copying n (at i))).reply || pages_among commands at i p

  -- the reply at the end of each whole round tells how many replies were copies, how many of its pages had none, and
  -- how many pages are in the dirty log
  unfoldable pub RoundsTellTheirCopies : Type 0
  RoundsTellTheirCopies =
      (commands : ℕ → Command E) (at : ℕ → Rounds S) (count : ℕ) → IsRound commands at count
      → (at 0).sent ≡ 0 → next_page m (at count) ≡ None
      → (obey {E = E} m version Copy (Copying n (at count))).reply
      ≡ RoundEnded (at 0).round (size (copies_among commands at) count)
      (size (λ p. (at 0).to_send p && not (pages_among commands at count p))
      (page_count m (at 0).guest))
      (size (at count).log (page_count m (at count).guest))
