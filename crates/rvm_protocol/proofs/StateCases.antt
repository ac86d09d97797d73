-- The outcome of a state, or of a piece of one, at a host that stages pages, by cases.
use Rattle.std.proofs.Common.{◌≡◌, ℕ, ◌≤◌, ◌==◌, true, nat_lt, List, length, Option, Some, None, refl, arith}
use Rattle.std.proofs.lemmas.Bool.{ltb-false}
use Rattle.rvm_protocol.specs.Guest.{Guest}
use Rattle.rvm_protocol.specs.Frames.{Lost, Ready}
use Rattle.rvm_protocol.specs.Replies.{BadState, Kept, Lacking, ReadySent}
use Rattle.rvm_protocol.specs.Pages.{size, members, gathered}
use Rattle.rvm_protocol.specs.Staging.{Stage, lacks, takes_part, with_part}
use Rattle.rvm_protocol.specs.Modes.{Staging, Held, Outcome, says, sends, refuses, ignores}
use Rattle.rvm_protocol.specs.Receiving.{guest_read, state_compared, state_came, pieces_joined, part_kept, part_came}
use Rattle.rvm_protocol.proofs.CurrentModes.{either}

module _ {S P E A B : Type 0} (m : Guest S P E A B) (Q : Outcome S P A B → Type 0) where
  read_cases : (n : ℕ) (old : Stage P) (q : Option S) → Q (refuses BadState (Staging n old))
      → ((g : S) → q ≡ Some g → Q (sends ReadySent (Ready n) (Held n g))) → Q (guest_read m n old q)
  read_cases n old None bad ready = bad
  read_cases n old (Some g) bad ready = ready g refl

  -- a state is bad, or names copies that are not there, or makes a guest
  pub state_cases : (n : ℕ) (old s : Stage P) (ns : List ℕ) (b : B)
      → Q (refuses BadState (Staging n old))
      → Q (sends (Lacking (size (lacks s ns) (length s.pages)))
      (Lost n (members (lacks s ns) 0 (length s.pages))) (Staging n s))
      → ((g : S) → size (lacks s ns) (length s.pages) ≡ 0 → m.build s.processors b s.pages ≡ Some g
      → Q (sends ReadySent (Ready n) (Held n g)))
      → Q (state_came m n old s ns b)
  state_cases n old s ns b bad lacking ready =
      let count = size (lacks s ns) (length s.pages) in
      either Q (length ns == length s.pages) (state_compared m n old s ns b)
      (refuses BadState (Staging n old))
      (λ _. either Q (nat_lt 0 count)
      (sends (Lacking count) (Lost n (members (lacks s ns) 0 (length s.pages))) (Staging n s))
      (guest_read m n old (m.build s.processors b s.pages))
      (λ _. lacking)
      (λ e. let z : count ≤ 0 = ltb-false 0 count e in read_cases n old
      (m.build s.processors b s.pages) bad (λ g read. ready g (omega arith) read)))
      (λ _. bad)

  joined_cases : (n : ℕ) (old s : Stage P) (q : Option (List ℕ × B))
      → Q (refuses BadState (Staging n old))
      → ((ns : List ℕ) (b : B) → q ≡ Some (ns, b)
      → Q (sends (Lacking (size (lacks s ns) (length s.pages)))
      (Lost n (members (lacks s ns) 0 (length s.pages))) (Staging n s)))
      → ((ns : List ℕ) (b : B) (g : S) → q ≡ Some (ns, b) → size (lacks s ns) (length s.pages) ≡ 0
      → m.build s.processors b s.pages ≡ Some g → Q (sends ReadySent (Ready n) (Held n g)))
      → Q (pieces_joined m n old s q)
  joined_cases n old s None bad lacking ready = bad
  joined_cases n old s (Some z) bad lacking ready =
      state_cases n old s z.0 z.1 bad (lacking z.0 z.1 refl)
      (λ g all read. ready z.0 z.1 g refl all read)

  kept_cases : (n : ℕ) (old s : Stage P) (part parts : ℕ) (q : Option (List (List ℕ)))
      → Q (refuses BadState (Staging n old)) → Q (says (Kept part parts) (Staging n s))
      → ((ns : List ℕ)
      → Q (sends (Lacking (size (lacks s ns) (length s.pages)))
      (Lost n (members (lacks s ns) 0 (length s.pages))) (Staging n s)))
      → ((xs : List (List ℕ)) (ns : List ℕ) (b : B) (g : S) → q ≡ Some xs → m.join xs ≡ Some (ns, b)
      → size (lacks s ns) (length s.pages) ≡ 0 → m.build s.processors b s.pages ≡ Some g
      → Q (sends ReadySent (Ready n) (Held n g)))
      → Q (part_kept m n old s part parts q)
  kept_cases n old s part parts None bad kept lacking ready = kept
  kept_cases n old s part parts (Some xs) bad kept lacking ready =
      joined_cases n old s (m.join xs) bad (λ ns b j. lacking ns)
      (λ ns b g j all read. ready xs ns b g refl j all read)

  -- a piece is ignored, or is kept, or completes a state
  pub part_cases : (n : ℕ) (s : Stage P) (stamp part parts : ℕ) (x : List ℕ)
      → Q (ignores (Staging n s)) → Q (refuses BadState (Staging n s))
      → (takes_part s stamp part parts ≡ true
      → Q (says (Kept part parts) (Staging n (with_part s stamp part parts x))))
      → (takes_part s stamp part parts ≡ true → (ns : List ℕ)
      → Q (sends (Lacking (size (lacks s ns) (length s.pages)))
      (Lost n (members (lacks s ns) 0 (length s.pages)))
      (Staging n (with_part s stamp part parts x))))
      → (takes_part s stamp part parts ≡ true → (xs : List (List ℕ)) (ns : List ℕ) (b : B) (g : S)
      → gathered (with_part s stamp part parts x).pieces 0 parts ≡ Some xs
      → m.join xs ≡ Some (ns, b) → size (lacks s ns) (length s.pages) ≡ 0
      → m.build s.processors b s.pages ≡ Some g → Q (sends ReadySent (Ready n) (Held n g)))
      → Q (part_came m n s stamp part parts x)
  part_cases n s stamp part parts x ignored bad kept lacking ready =
      let t = with_part s stamp part parts x in
      either Q (takes_part s stamp part parts) (part_kept m n s t part parts (gathered t.pieces 0 parts))
      (ignores (Staging n s))
      (λ e. kept_cases n s t part parts (gathered t.pieces 0 parts) bad (kept e) (lacking e)
      (ready e))
      (λ _. ignored)
