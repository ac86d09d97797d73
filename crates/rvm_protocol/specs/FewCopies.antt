-- How many copies pre-copy makes.
use Rattle.std.specs.Prelude.{◌≡◌, ◌*◌, ◌≤◌, ◌==◌, if◌then◌else◌, ℕ, suc, List, [], ◌∷◌}
use Rattle.rvm_protocol.specs.Guest.{Guest}
use Rattle.rvm_protocol.specs.Rounds.{page_count}
use Rattle.rvm_protocol.specs.Modes.{Mode, Copying, Stopped}
use Rattle.rvm_protocol.specs.Replies.{Reply, Begun, Copied}
use Rattle.rvm_protocol.specs.World.{Event, Entry, history, mode_at, run, new_world}

-- the number of copies after a reply: a move begins without copies, and each Copied is one more
abbrev pub copies_after : {A : Type 0} → Reply A → ℕ → ℕ
copies_after (Begun n) k = 0
copies_after (Copied page number) k = suc k
copies_after r k = k

-- how many Copied replies host x gave since it last began a move, if k came before these entries
unfoldable pub copies_told : {P E A B : Type 0} → (x k : ℕ) → List (Entry P E A B) → ℕ
copies_told x k [] = k
copies_told x k (e ∷ es) = copies_told x (if x == e.host then copies_after e.reply k else k) es

module _ {S P E A B : Type 0} (m : Guest S P E A B) where
  -- before it stops, a move makes at most as many copies as its policy's most rounds times its
  -- guest's pages
  abbrev pub FewCopies : Mode S P → Type 0
  FewCopies (Copying n r) = r.copies ≤ r.policy.max_rounds * page_count m r.guest
  FewCopies mode = Unit {0}

  -- each copy of a move had the reply Copied
  abbrev pub AreTold : (told : ℕ) → Mode S P → Type 0
  AreTold told (Copying n r) = r.copies ≡ told
  AreTold told (Stopped n l) = l.copies ≡ told
  AreTold told mode = Unit {0}

  -- at each host, after any run of a world, pre-copy has made no more copies than that
  unfoldable pub CopiesAreBounded : Type 0
  CopiesAreBounded =
      (g : S) (version origin count : ℕ) (limits : ℕ → ℕ) (events : List (Event E)) (x : ℕ)
      → FewCopies (mode_at m (run m (new_world m version origin g count limits) events) x)

  -- at each host, after any run of a world, pre-copy has made as many copies as there were replies
  -- Copied
  unfoldable pub CopiesAreTold : Type 0
  CopiesAreTold =
      (g : S) (version origin count : ℕ) (limits : ℕ → ℕ) (events : List (Event E)) (x : ℕ)
      → AreTold (copies_told x 0 (history m (new_world m version origin g count limits) events))
      (mode_at m (run m (new_world m version origin g count limits) events) x)
