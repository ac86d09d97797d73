-- An item is taken: an entry, or a run of commands at once.
use Rattle.std.proofs.Common.{◌≡◌, ◌∙◌, ℕ, zero, suc, ◌+◌, ◌*◌, ◌<◌, ◌≤◌, ◌==◌, Bool, true, false, if◌then◌else◌, List, [], ◌∷◌, ◌++◌, length, length-drop, drop, append_assoc, append-nil, inl, inr, refl, sym, ap, subst, arith}
use Rattle.std.proofs.lemmas.Bool.{eq-eqb, eqb-true}
use Rattle.std.specs.Prelude.{IfOk, MatchOption, Option, Some, None, Result, Ok, Err, slice_get}
use Rattle.rvm_recorder.specs.declared.item.ItemRef.{ItemRef}
use Rattle.rvm_recorder.specs.declared.item.ItemRef.TheVariants.{Entry, Rounds, Steps}
use Rattle.rvm_recorder.specs.declared.rounds.Rounds.{Rounds as RoundRow}
use Rattle.rvm_recorder.specs.declared.steps.Steps.{Steps as StepRow}
use Rattle.rvm_recorder.specs.Entries.{PlainEntry}
use Rattle.rvm_recorder.specs.Items.{all_of, entries_at, rounds_of, steps_in_turn}
use Rattle.rvm_recorder.specs.Replay.{IsReplay}
use Rattle.rvm_recorder.proofs.InRounds.{rounds_length}
use Rattle.rvm_recorder.proofs.StepRuns.{steps_length}
use Rattle.rvm_recorder.proofs.Spans.{next_at, next_left}
use Rattle.rvm_protocol.specs.Pages.{put}
use Rattle.rvm_core.specs.declared.event.Event.{Event}
use Rattle.rvm_audit.specs.Orders.{Journals}
use Rattle.rvm_audit.proofs.Steps.{put_other}
use Rattle.rvm_audit.specs.declared.merge.Merge.{Merge}
use Rattle.rvm_audit.specs.Merged.{Merged}
use Rattle.rvm_audit.specs.Merging.{AreTaken, AreWaiting, Becomes, IsEntryTaken, IsRunTaken, IsWaiting, Places, Takes, Waits, counted, key_of, noted, places_of}
use Rattle.rvm_audit.specs.Placed.{rounds_at, steps_at}
use Rattle.rvm_audit.proofs.Commands.{AreCommands, rounds_are, steps_are}
use Rattle.rvm_audit.proofs.Merges.{take_one}

-- WHAT IS TAKEN

-- steps and rounds are taken at once
pub steps_item : (version count x : ℕ) (item : ItemRef) (s : StepRow) (n : ℕ) (old new : Merge) → item ≡ Steps s
    → n ≡ s.count → IsRunTaken old new (steps_at x s.turn s.harts s.count)
    → (n ≡ length (entries_at item)) × Takes version count x item old new
steps_item version count x item s n old new is n_is t =
    subst (λ i. (n ≡ length (entries_at i)) × Takes version count x i old new) (sym is)
    (n_is ∙ sym (steps_length s.turn s.harts s.count), t)

pub rounds_item : (version count x : ℕ) (item : ItemRef) (r : RoundRow) (n : ℕ) (old new : Merge) → item ≡ Rounds r
    → n ≡ r.count * (r.steps + 1) → IsRunTaken old new (rounds_at x r.turn r.harts r.steps r.drain r.count)
    → (n ≡ length (entries_at item)) × Takes version count x item old new
rounds_item version count x item r n old new is n_is t =
    subst (λ i. (n ≡ length (entries_at i)) × Takes version count x i old new) (sym is)
    (n_is ∙ sym (rounds_length r.turn r.harts r.steps r.drain r.count), t)

-- the items from one on, if there are any
pub none_from : {X : Type 0} (xs : List X) (i : ℕ) → slice_get xs i ≡ None → drop i xs ≡ []
none_from [] zero is = refl
none_from [] (suc i) is = refl
none_from (x ∷ xs) zero is = cc
none_from (x ∷ xs) (suc i) is = none_from xs i is

-- the first of some items
module _ (version count x : ℕ) (items rest : List (List PlainEntry)) (first : List PlainEntry) (item : ItemRef) (old new : Merge)
    (is : items ≡ first ∷ rest) (look : entries_at item ≡ first) where
  next_item : (o : Option ℕ) → MatchOption o (Waits version count x item old new)
      (λ n. (n ≡ length (entries_at item)) × Takes version count x item old new)
      → MatchOption o (AreWaiting version count x items old new) (λ n. AreTaken version count x items n old new)
  next_item None waits =
      inr (record { item = item; rest = rest; split = is ∙ ap (λ xs. xs ∷ rest) (sym look); waits = waits })
  next_item (Some n) t =
      record { item = item; rest = rest; split = is ∙ ap (λ xs. xs ∷ rest) (sym look); count_is = t.0; takes = t.1 }

  pub next_is : {E : Type 0} (r : Result (Option ℕ) E) → IfOk r (λ o. MatchOption o (Waits version count x item old new)
      (λ n. (n ≡ length (entries_at item)) × Takes version count x item old new))
      → IfOk r (λ o. MatchOption o (AreWaiting version count x items old new) (λ n. AreTaken version count x items n old new))
  next_is (Ok o) so = next_item o so
  next_is (Err e) so = tt

-- the frames that were made
silent_frame : (frame : Option (List ℕ)) (n : ℕ) → counted frame n ≡ n → frame ≡ None
silent_frame None n is = refl
silent_frame (Some bytes) n is = absurd (omega (arith, is))

few_counted : (frame : Option (List ℕ)) (n : ℕ) → counted frame n ≤ n + 1
few_counted None n = omega arith
few_counted (Some bytes) n = omega arith

module _ (version count x : ℕ) (old new : Merge) where
  -- a host whose next item waits, and what it leaves
  still_item : (item : ItemRef) → Waits version count x item old new → new ≡ old
  still_item (Entry e) waits = waits.1
  still_item (Steps s) waits = absurd waits
  still_item (Rounds r) waits = absurd waits

  pub still : (items : List (List PlainEntry)) → AreWaiting version count x items old new → new ≡ old
  still items (inl none) = none.1
  still items (inr first) = still_item first.item first.waits

  module _ (entries : List PlainEntry) (i : ℕ) where
    none_left : drop i entries ≡ [] → length entries ≤ i
    none_left is = omega (arith, length-drop i entries, ap length is)

    waits_item : (item : ItemRef) (rest : List PlainEntry) → drop i entries ≡ entries_at item ++ rest
        → Waits version count x item old new → IsWaiting version count x entries i (places_of old.places)
    waits_item (Entry e) rest split waits = inr (e.now, next_at entries i e.now rest split, waits.0)
    waits_item (Steps s) rest split waits = absurd waits
    waits_item (Rounds r) rest split waits = absurd waits

    pub waits_at : (items : List (List PlainEntry)) → all_of items ≡ drop i entries
        → AreWaiting version count x items old new → IsWaiting version count x entries i (places_of old.places)
    waits_at items left (inl none) = inl (none_left (sym left ∙ ap all_of none.0))
    waits_at items left (inr first) =
        waits_item first.item (all_of first.rest) (sym left ∙ ap all_of first.split) first.waits

  -- an item makes one frame at most
  pub one_frame : (item : ItemRef) → Takes version count x item old new → new.made ≤ old.made + 1
  one_frame (Entry e) t = let c = t.taken.count in let f = few_counted e.now.frame old.made in omega (arith, c, f)
  one_frame (Steps s) t = let c = t.count in omega (arith, c)
  one_frame (Rounds r) t = let c = t.count in omega (arith, c)

  -- if an item makes no frame, the places stay as they are
  pub same_places : (item : ItemRef) → Takes version count x item old new → new.made ≡ old.made → (key : List ℕ)
      → places_of new.places key ≡ places_of old.places key
  same_places (Entry e) t is key =
      t.taken.places key
      ∙ ap (λ o. noted (key_of x o) old.made (places_of old.places) key)
      (silent_frame e.now.frame old.made (sym t.taken.count ∙ is))
  same_places (Steps s) t is key = ap (λ p. places_of p key) t.places
  same_places (Rounds r) t is key = ap (λ p. places_of p key) t.places

-- a host that waits goes on waiting if no frame was made
pub waits_still : (version count x : ℕ) (entries : List PlainEntry) (k : ℕ) (p q : Places) → ((key : List ℕ) → q key ≡ p key)
    → IsWaiting version count x entries k p → IsWaiting version count x entries k q
waits_still version count x entries k p q same waits =
    subst (λ (r : Places). IsWaiting version count x entries k r) (λ i key. sym (same key) i) waits

-- PLACES

pub put_twice : (at : ℕ → ℕ) (x a b c : ℕ) → b ≡ c → ◌≡◌ {A = ℕ → ℕ} (put (put at x a) x b) (put at x c)
put_twice at x a b c is = λ i y. twice (y == x) (at y) i where
  twice : (t : Bool) (d : ℕ) → (if t then b else (if t then a else d)) ≡ (if t then c else d)
  twice true d = is
  twice false d = refl

pub put_none : (at : ℕ → ℕ) (x a : ℕ) → a ≡ at x → ◌≡◌ {A = ℕ → ℕ} (put at x a) at
put_none at x a is = λ i y. stays y (y == x) (eqb-true y x) i where
  stays : (y : ℕ) (t : Bool) → (t ≡ true → y ≡ x) → (if t then a else at y) ≡ at y
  stays y true same = is ∙ ap at (sym (same refl))
  stays y false same = refl

pub put_here : (at : ℕ → ℕ) (x a : ℕ) → put at x a x ≡ a
put_here at x a = ap (λ (t : Bool). if t then a else at x) (eq-eqb x x refl)

-- THE ORDER

module _ (j : Journals) (x : ℕ) (lt : x < j.openings.count) (all : IsReplay (j.openings.host x) (j.entries x)) where
  abbrev pub LowerWait : (ℕ → ℕ) → Places → Type 0
  LowerWait at p = (y : ℕ) → y < x → IsWaiting (j.openings.host y).version j.openings.count y (j.entries y) (at y) p

  -- commands are taken at once
  take_run : (xs : List PlainEntry) (es : List Event) (at : ℕ → ℕ) (fs : List Event) (p : Places) (count : ℕ) (rest : List PlainEntry)
      → Merged j at fs p count → LowerWait at p → drop (at x) (j.entries x) ≡ xs ++ rest → AreCommands x xs es
      → Merged j (put at x (at x + length xs)) (fs ++ es) p count
  take_run [] [] at fs p count rest m waits is so =
      subst (λ a. Merged j a (fs ++ []) p count) (sym (put_none at x (at x + 0) (omega arith)))
      (subst (λ gs. Merged j at gs p count) (sym (append-nil fs)) m)
  take_run [] (e ∷ es) at fs p count rest m waits is so = absurd so
  take_run (n ∷ ns) [] at fs p count rest m waits is so = absurd so
  take_run (n ∷ ns) (e ∷ es) at fs p count rest m waits is so =
      let c = so.0 in
      let next = put at x (at x + 1) in
      let one =
      take_one j at fs p count m x lt all waits n (next_at (j.entries x) (at x) n (ns ++ rest) is) e
      (subst (λ v. Becomes (j.openings.host x).version j.openings.count x v p e) (sym c.event) c.stands) p
      (λ key. ap (λ o. noted (key_of x o) count p key) (sym c.silent))
      in
      let made : Merged j next (fs ++ e ∷ []) p count =
      subst (λ o. Merged j next (fs ++ e ∷ []) p (counted o count)) c.silent one
      in
      let there = put_here at x (at x + 1) in
      let more =
      take_run ns es next (fs ++ e ∷ []) p count rest made
      (λ y y_lt. subst (λ k. IsWaiting (j.openings.host y).version j.openings.count y (j.entries y) k p)
      (sym (put_other at x y (at x + 1) (λ same. omega (arith, same, y_lt)))) (waits y y_lt))
      (ap (λ k. drop k (j.entries x)) there ∙ sym (next_left (j.entries x) (at x) n (ns ++ rest) is)) so.1
      in
      subst (λ a. Merged j a (fs ++ (e ∷ es)) p count)
      (put_twice at x (at x + 1) (next x + length ns) (at x + length (n ∷ ns)) (omega (arith, there)))
      (subst (λ gs. Merged j (put next x (next x + length ns)) gs p count) (append_assoc fs (e ∷ []) es) more)

  -- the same for the merge that the code keeps
  abbrev pub IsMerged : (ℕ → ℕ) → Merge → Type 0
  IsMerged at m = Merged j at m.order (places_of m.places) m.made

  module _ (at : ℕ → ℕ) (old new : Merge) (so : IsMerged at old) (waits : LowerWait at (places_of old.places)) where
    -- a run of commands was taken
    ran : (k : ℕ → ℕ) (run : List Event) → IsRunTaken old new run
        → Merged j k (old.order ++ run) (places_of old.places) old.made → IsMerged k new
    ran k run t m =
        subst (λ c. Merged j k new.order (places_of new.places) c) (sym t.count)
        (subst (λ es. Merged j k es (places_of new.places) old.made) (sym t.events)
        (subst (λ p. Merged j k (old.order ++ run) (places_of p) old.made) (sym t.places) m))

    entry_taken : (n : PlainEntry) → slice_get (j.entries x) (at x) ≡ Some n
        → IsEntryTaken (j.openings.host x).version j.openings.count x n old new → IsMerged (put at x (at x + 1)) new
    entry_taken n here t =
        let k = put at x (at x + 1) in
        let one =
        take_one j at old.order (places_of old.places) old.made so x lt all waits n here t.event t.becomes
        (places_of new.places) t.taken.places
        in
        subst (λ c. Merged j k new.order (places_of new.places) c) (sym t.taken.count)
        (subst (λ es. Merged j k es (places_of new.places) (counted n.frame old.made)) (sym t.taken.events) one)

    -- an item joins the order
    pub item_taken : (item : ItemRef) (rest : List PlainEntry) → drop (at x) (j.entries x) ≡ entries_at item ++ rest
        → Takes (j.openings.host x).version j.openings.count x item old new
        → IsMerged (put at x (at x + length (entries_at item))) new
    item_taken (Entry e) rest split t = entry_taken e.now (next_at (j.entries x) (at x) e.now rest split) t
    item_taken (Steps s) rest split t =
        let xs = steps_in_turn s.turn s.harts s.count in
        let run = steps_at x s.turn s.harts s.count in
        ran (put at x (at x + length xs)) run t
        (take_run xs run at old.order (places_of old.places) old.made rest so waits split
        (steps_are x s.turn s.harts s.count))
    item_taken (Rounds r) rest split t =
        let run = rounds_at x r.turn r.harts r.steps r.drain r.count in
        ran (put at x (at x + length (rounds_of r))) run t
        (take_run (rounds_of r) run at old.order (places_of old.places) old.made rest so waits split
        (rounds_are x r.turn r.harts r.steps r.drain r.count))
