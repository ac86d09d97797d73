-- Going through parts: where it begins, how a turn leaves it, and where it ends.
use Rattle.std.proofs.Common.{◌≡◌, ◌∙◌, ℕ, zero, suc, ◌+◌, ◌<◌, ◌≤◌, not, Bool, true, false, if◌then◌else◌, List, [], ◌∷◌, ◌++◌, drop, get_or, set, length, length-drop, length-set, replicate, Option, None, Some, refl, sym, ap, subst, arith, inl, inr}
use Rattle.std.specs.Prelude.{MatchOption, is_some, slice_get, ◌⊎◌}
use Rattle.std.proofs.lemmas.Bool.{cases_eq, cases_lt}
use Rattle.std.proofs.lemmas.List.{get_or-set_other, get_or_default}
use Rattle.std.proofs.lemmas.Option.{MatchOption-at_none, MatchOption-at_some, same_Some, slice_get_read}
use Rattle.rvm_message.specs.declared.event.HostEvent.{HostEvent}
use Rattle.rvm_message.specs.declared.event.HostEvent.TheVariants.{Came, Do}
use Rattle.rvm_recorder.specs.Entries.{PlainEntry}
use Rattle.rvm_recorder.specs.Items.{all_of}
use Rattle.rvm_audit.specs.Stretches.{entries_at}
use Rattle.rvm_audit.specs.Quiet.{AreQuiet, IsOfCommand}
use Rattle.rvm_audit.specs.declared.stretch.StretchRef.{StretchRef}
use Rattle.rvm_audit.specs.declared.stretch.StretchRef.TheVariants.{Framed, Quiet}
use Rattle.rvm_recorder.proofs.Spans.{drop_at, next_at, next_left}
use Rattle.rvm_protocol.specs.Pages.{put}
use Rattle.rvm_audit.specs.Orders.{Journals}
use Rattle.rvm_audit.specs.Merging.{Places, key_of, noted, places_of}
use Rattle.rvm_audit.specs.Cuts.{marked}
use Rattle.rvm_audit.specs.Passing.{AllBlocked, EndsJournal, HasPassed, IsBlocked, IsPassage, IsPassing, StretchBlocks, StretchPasses, MayPass}
use Rattle.rvm_audit.specs.declared.known.Known.{Known}
use Rattle.rvm_audit.specs.declared.known.Passed.{Passed as Row}
use Rattle.rvm_audit.specs.PlainParts.{PlainPart}
use Rattle.rvm_audit.specs.declared.part.Place.{Place}
use Rattle.rvm_audit.specs.Parts.{AreOf, IsAt, entries_in, place_at, taken}
use Rattle.rvm_audit.proofs.Behind.{OnePart, as_long, at_each, at_place, behind, entries_left, entries_within, items_left, other_place, start, taken_is, there}
use Rattle.rvm_audit.proofs.Parts.{nothing_at, part_at}
use Rattle.rvm_audit.proofs.Passages.{nothing_passed, pass_one, passed, spend}
use Rattle.rvm_audit.proofs.Taken.{put_here, put_none, put_twice}

-- AN ITEM

module _ (j : Journals) (is_cut : ℕ → Bool) (x : ℕ) (lt : x < j.openings.count) where
  -- a command may always be passed
  may_pass : (e : HostEvent) (p : Places) (spent : ℕ → Bool) → IsOfCommand e
      → MayPass (j.openings.host x).version j.openings.count x p spent e
  may_pass (Do c) p spent is = tt
  may_pass (Came from frame) p spent is = absurd is

  -- commands are passed at once
  pass_run : (xs : List PlainEntry) (at : ℕ → ℕ) (p : Places) (spent : ℕ → Bool) (rest : List PlainEntry)
      → IsPassage j is_cut at p spent → drop (at x) (j.entries x) ≡ xs ++ rest → AreQuiet xs
      → IsPassage j is_cut (put at x (at x + length xs)) p spent
  pass_run [] at p spent rest m is so =
      subst (λ a. IsPassage j is_cut a p spent) (sym (put_none at x (at x + 0) (omega arith))) m
  pass_run (n ∷ ns) at p spent rest m is so =
      let c = so.0 in
      let next = put at x (at x + 1) in
      let one =
      pass_one j is_cut at p spent m x lt n (next_at (j.entries x) (at x) n (ns ++ rest) is)
      (may_pass n.event p spent c.0) 0 p
      (λ key. ap (λ o. noted (key_of x o) 0 p key) (sym c.1))
      in
      let there = put_here at x (at x + 1) in
      let more =
      pass_run ns next p spent rest one
      (ap (λ k. drop k (j.entries x)) there ∙ sym (next_left (j.entries x) (at x) n (ns ++ rest) is)) so.1
      in
      subst (λ a. IsPassage j is_cut a p spent)
      (put_twice at x (at x + 1) (next x + length ns) (at x + length (n ∷ ns)) (omega (arith, there))) more

  -- the same for what the code keeps
  abbrev pub IsPassageOf : (ℕ → ℕ) → Known → Type 0
  IsPassageOf at k = IsPassage j is_cut at (places_of k.made) (marked k.spent.items)

  pub stretch_passed : (at : ℕ → ℕ) (old new : Known) (stretch : StretchRef) (row : Row) (rest : List PlainEntry)
      → IsPassageOf at old
      → drop (at x) (j.entries x) ≡ entries_at stretch ++ rest
      → StretchPasses (j.openings.host x).version j.openings.count x stretch row old new
      → IsPassageOf (put at x (at x + length (entries_at stretch))) new
  stretch_passed at old new (Framed f) row rest m split t =
      let a = put at x (at x + 1) in
      subst (λ s. IsPassage j is_cut a (places_of new.made) (marked s.items)) (sym t.spent)
      (pass_one j is_cut at (places_of old.made) (marked old.spent.items) m x lt f.now
      (next_at (j.entries x) (at x) f.now rest split) t.may 0 (places_of new.made) t.made)
  stretch_passed at old new (Quiet q) row rest m split t =
      subst (λ k. IsPassageOf (put at x (at x + length q.now)) k) (sym t.2)
      (pass_run q.now at (places_of old.made) (marked old.spent.items) rest m split t.1)

-- what a stretch that was passed leaves
no_frame : (o : Option (List ℕ)) (b : Bool) → b ≡ not (is_some o) → b ≡ true → o ≡ None
no_frame None b is so = refl
no_frame (Some bytes) b is so = absurd cc

module _ (version count x : ℕ) (old new : Known) where
  pub as_many : (stretch : StretchRef) (row : Row) → StretchPasses version count x stretch row old new
      → row.entries ≡ length (entries_at stretch)
  as_many (Framed f) row t = t.entries
  as_many (Quiet q) row t = t.0

  pub same_spent : (stretch : StretchRef) (row : Row) → StretchPasses version count x stretch row old new → new.spent ≡ old.spent
  same_spent (Framed f) row t = t.spent
  same_spent (Quiet q) row t = ap (λ (k : Known). k.spent) t.2

  pub same_made : (stretch : StretchRef) (row : Row) → StretchPasses version count x stretch row old new → row.is_silent ≡ true
      → (key : List ℕ) → places_of new.made key ≡ places_of old.made key
  same_made (Framed f) row t is key =
      t.made key ∙ ap (λ o. noted (key_of x o) 0 (places_of old.made) key)
      (no_frame f.now.frame row.is_silent t.silent is)
  same_made (Quiet q) row t is key = ap (λ (k : Known). places_of k.made key) t.2

  pub blocked_same : (stretch : StretchRef) → StretchBlocks version count x stretch old new → new ≡ old
  blocked_same (Framed f) b = b.1
  blocked_same (Quiet q) b = absurd b

  blocked_at : (is_cut : Bool) (entries : List PlainEntry) (i : ℕ) (stretch : StretchRef) (rest : List PlainEntry)
      → drop i entries ≡ entries_at stretch ++ rest → StretchBlocks version count x stretch old new
      → IsBlocked version count x (places_of old.made) (marked old.spent.items) is_cut entries i
  blocked_at is_cut entries i (Framed f) rest split b = inr (f.now, next_at entries i f.now rest split, b.0)
  blocked_at is_cut entries i (Quiet q) rest split b = absurd b

-- WHERE IT BEGINS

pub no_marks : (n x : ℕ) → ◌≡◌ {A = Bool} (marked (replicate {A = Bool} n false) x) false
no_marks zero x = refl
no_marks (suc n) zero = refl
no_marks (suc n) (suc x) = no_marks n x

pub starts_passing : (parts : List PlainPart) (cuts : List Bool) (places : List Place) (known : Known) (n : ℕ)
    → ((key : List ℕ) → places_of known.made key ≡ None) → ◌≡◌ {A = List Bool} known.spent.items (replicate n false)
    → length known.spent.items ≡ length parts → length places ≡ length parts → ((x : ℕ) → place_at places x ≡ start)
    → IsPassing parts cuts places known
starts_passing parts cuts places known n none spent spent_long long at = record {
  long = long;
  spent = spent_long;
  each = λ x part here. subst (λ (k : Place). IsAt part k) (sym (at x)) (nothing_at part);
  passage = λ j are.
      subst (λ (v : ℕ → ℕ). IsPassage j (marked cuts) v (places_of known.made) (marked known.spent.items))
      (λ i x. (ap (λ (k : Place). k.entries) (sym (at x))) i)
      (nothing_passed j (marked cuts) (places_of known.made) (marked known.spent.items) none
      (λ x. ap (λ (bs : List Bool). marked bs x) spent ∙ no_marks n x));
}

-- A TURN

-- the turn of a host whose part is there, while the hosts below are blocked
pub record PassTurn (parts : List PlainPart) (cuts : List Bool) (places : List Place) (old : Known) (host : ℕ) (part : PlainPart)
    (place : Place) : Type 0 where
  pub passing : IsPassing parts cuts places old
  pub lower : AllBlocked parts cuts places old host
  pub here : slice_get parts host ≡ Some part
  pub place_is : place ≡ place_at places host

pub pass_turn_of : (parts : List PlainPart) (cuts : List Bool) (places : List Place) (old : Known) (host : ℕ) (part : PlainPart)
    (place : Place)
    → IsPassing parts cuts places old → AllBlocked parts cuts places old host → host < length parts
    → part ≡ get_or parts host part → place ≡ get_or places host place → PassTurn parts cuts places old host part place
pass_turn_of parts cuts places old host part place passing lower lt part_is place_is = record {
  passing = passing;
  lower = lower;
  here = slice_get_read parts (length parts) host part refl lt part_is;
  place_is = place_is ∙ get_or_default places host place start (let long = passing.long in omega (arith, long, lt));
}

-- the next item of a part
pub record IsNextItem (part : PlainPart) (place : Place) (item : StretchRef) : Type 0 where
  pub rest : List (List PlainEntry)
  pub split : drop place.items part.items.now ≡ entries_at item ∷ rest

pub next_item_is : (part : PlainPart) (place : Place) (entries : List PlainEntry) (item : StretchRef)
    → slice_get part.items.now place.items ≡ Some entries → entries_at item ≡ entries → IsNextItem part place item
next_item_is part place entries item here look = record {
  rest = drop (place.items + 1) part.items.now;
  split =
      drop_at part.items.now place.items entries here
      ∙ ap (λ (xs : List PlainEntry). xs ∷ drop (place.items + 1) part.items.now) (sym look);
}

module _ (parts : List PlainPart) (cuts : List Bool) (places : List Place) (old new : Known) (host : ℕ) (part : PlainPart)
    (place : Place)
    (turn : PassTurn parts cuts places old host part place) where
  one : OnePart parts places host part place
  one = record { long = turn.passing.long; each = turn.passing.each; here = turn.here; place_is = turn.place_is }

  is_at : IsAt part place
  is_at = at_place parts places host part place one

  abbrev Blocked : Known → PlainPart → ℕ → ℕ → Type 0
  Blocked k q y i =
      IsBlocked q.version (length parts) y (places_of k.made) (marked k.spent.items) (marked cuts y) (entries_in q) i

  -- one host more is blocked
  one_blocked : (k : Known) → AllBlocked parts cuts places k host → Blocked k part host place.entries
      → AllBlocked parts cuts places k (host + 1)
  one_blocked k lower blocks = λ x other lt at. elim (cases_lt x host) [
    | inl below ↦ lower x other below at
    | inr above ↦
        (let same : host ≡ x = omega (arith, lt, above) in
        let part_is : part ≡ other = same_Some part other (sym turn.here ∙ ap (slice_get parts) same ∙ at) in
        subst (λ y. Blocked k other y (taken places y)) same
        (subst (λ (q : PlainPart). Blocked k q host (taken places host)) part_is
        (subst (λ (p : Place). Blocked k part host p.entries) turn.place_is blocks)))
  ]

  -- THE JOURNAL IS AT ITS END

  module _ (none : length part.items.now ≤ place.items) where
    no_entries : length (entries_in part) ≤ place.entries
    no_entries =
        let left : length (drop place.entries (entries_in part)) ≡ 0 =
        ap (λ (xs : List PlainEntry). length xs) (sym is_at.left
        ∙ ap all_of (nothing_left part.items.now place.items none))
        in
        omega (arith, length-drop place.entries (entries_in part), left)
      where
        nothing_left : {X : Type 0} (xs : List X) (i : ℕ) → length xs ≤ i → drop i xs ≡ []
        nothing_left [] zero le = refl
        nothing_left [] (suc i) le = refl
        nothing_left (x ∷ xs) zero le = absurd (omega (arith, le))
        nothing_left (x ∷ xs) (suc i) le = nothing_left xs i (omega (arith, le))

    marks_more : (y : ℕ) → marked (set old.spent.items host true) y ≡ true
        → (marked old.spent.items y ≡ true) ⊎ (y ≡ host)
    marks_more y is = elim (cases_eq y host) [
      | inl same ↦ inr same
      | inr other ↦ inl (sym (get_or-set_other old.spent.items host y true false other) ∙ is)
    ]

    pub end_passing : (next : ℕ) (is_cut : Bool) → is_cut ≡ marked cuts host → EndsJournal is_cut host old new next
        → IsPassing parts cuts places new
    end_passing next is_cut cut_is (inl e) = subst (λ (k : Known). IsPassing parts cuts places k) (sym e.1) turn.passing
    end_passing next is_cut cut_is (inr e) = record {
      long = turn.passing.long;
      spent = ap (λ (bs : List Bool). length bs) e.2 ∙ length-set old.spent.items host true ∙ turn.passing.spent;
      each = turn.passing.each;
      passage = λ j are.
          (let is_of = are.each host part turn.here in
          let m = turn.passing.passage j are in
          let within = m.within host (let c = are.count_is in let t = there parts places host part place one in omega
          (arith, c, t)) in
          let entries = ap (λ (xs : List PlainEntry). length xs) is_of.entries_are in
          let at : taken places host ≡ place.entries = ap (λ (k : Place). k.entries) (sym turn.place_is) in
          let all = no_entries in
          subst (λ p. IsPassage j (marked cuts) (taken places) (places_of p) (marked new.spent.items)) (sym e.1)
          (spend j (marked cuts) (taken places) (places_of old.made) (marked old.spent.items) m host (sym cut_is ∙ e.0)
          (omega (arith, within, entries, at, all)) (marked new.spent.items)
          (λ y is. marks_more y (ap (λ (bs : List Bool). marked bs y) (sym e.2) ∙ is))));
    }

    pub end_blocked : (next : ℕ) (is_cut : Bool) → is_cut ≡ marked cuts host → EndsJournal is_cut host old new next
        → AllBlocked parts cuts places new next
    end_blocked next is_cut cut_is (inl e) =
        subst (AllBlocked parts cuts places new) (sym e.2)
        (subst (λ (k : Known). AllBlocked parts cuts places k (host + 1)) (sym e.1)
        (one_blocked old turn.lower (inl (no_entries, λ cut. e.0 (cut_is ∙ cut)))))
    end_blocked next is_cut cut_is (inr e) = λ x other lt at. absurd (let n = e.3 in omega (arith, lt, n))

  -- IT HAS A NEXT ITEM

  module _ (item : StretchRef) (is_next : IsNextItem part place item) where
    left : drop place.entries (entries_in part) ≡ entries_at item ++ all_of is_next.rest
    left = entries_left parts places host part place one (length (entries_at item))
        (entries_at item) is_next.rest is_next.split refl

    module _ (blocks : StretchBlocks part.version (length parts) host item old new) where
      same : new ≡ old
      same = blocked_same part.version (length parts) host old new item blocks

      still_passing : IsPassing parts cuts places new
      still_passing = subst (λ (k : Known). IsPassing parts cuts places k) (sym same) turn.passing

      one_more_blocked : AllBlocked parts cuts places new (host + 1)
      one_more_blocked =
          subst (λ (k : Known). AllBlocked parts cuts places k (host + 1)) (sym same)
          (one_blocked old turn.lower
          (blocked_at part.version (length parts) host old new (marked cuts host) (entries_in part) place.entries item
          (all_of is_next.rest) left blocks))

    module _ (row : Row) (t : StretchPasses part.version (length parts) host item row old new) where
      size : row.entries ≡ length (entries_at item)
      size = as_many part.version (length parts) host old new item row t

      fits : place.items < length part.items.now
      fits = items_left parts places host part place one row.entries (entries_at item) is_next.rest is_next.split size

      within : place.entries + row.entries ≤ length (entries_in part)
      within = entries_within parts places host part place one row.entries
          (entries_at item) is_next.rest is_next.split size

      abbrev pub after : List Place
      after = behind places host place row.entries

      passage : (j : Journals) → AreOf j parts
          → IsPassage j (marked cuts) (taken after) (places_of new.made) (marked new.spent.items)
      passage j are =
          let is_of = are.each host part turn.here in
          let count_is = are.count_is in
          let h = there parts places host part place one in
          let lt : host < j.openings.count = omega (arith, count_is, h) in
          let at : taken places host ≡ place.entries = ap (λ (k : Place). k.entries) (sym turn.place_is) in
          let own_left : drop (taken places host) (j.entries host) ≡ entries_at item ++ all_of is_next.rest =
          (λ i. drop (at i) (sym is_of.entries_are i)) ∙ left
          in
          let passes : StretchPasses (j.openings.host host).version j.openings.count host item row old new =
          subst (λ v. StretchPasses v j.openings.count host item row old new) is_of.version_is
          (subst (λ c. StretchPasses part.version c host item row old new) (sym count_is) t)
          in
          subst (λ (v : ℕ → ℕ). IsPassage j (marked cuts) v (places_of new.made) (marked new.spent.items))
          (taken_is parts places host part place one row.entries (entries_at item) is_next.rest is_next.split size)
          (stretch_passed j (marked cuts) host lt (taken places) old new item row (all_of is_next.rest)
          (turn.passing.passage j are) own_left passes)

      goes_on_passing : IsPassing parts cuts after new
      goes_on_passing = record {
        long = as_long parts places host part place one row.entries (entries_at item) is_next.rest is_next.split size;
        spent =
            ap (λ s. length s.items) (same_spent part.version (length parts) host old new item row t)
            ∙ turn.passing.spent;
        each = at_each parts places host part place one row.entries (entries_at item) is_next.rest is_next.split size;
        passage = passage;
      }

      -- if it made no frame, the hosts below go on being blocked
      silent : row.is_silent ≡ true → AllBlocked parts cuts after new host
      silent is = λ x other lt at.
          subst (λ (k : Place). Blocked new other x k.entries)
          (sym (other_place parts places host part place one row.entries
          (entries_at item) is_next.rest is_next.split size x
          (λ same. omega (arith, same, lt))))
          (subst (λ s. IsBlocked other.version (length parts) x (places_of new.made) (marked s.items) (marked cuts x)
          (entries_in other) (taken places x)) (sym (same_spent part.version (length parts) host old new item row t))
          (subst (λ (p : Places). IsBlocked other.version (length parts) x p (marked old.spent.items) (marked cuts x)
          (entries_in other) (taken places x))
          (λ i key. sym (same_made part.version (length parts) host old new item row t is key) i)
          (turn.lower x other lt at)))

      -- after a frame was made, the first host has the turn
      lower_blocked : (b : Bool) (k : ℕ) → b ≡ row.is_silent → k ≡ (if b then host else 0)
          → AllBlocked parts cuts after new k
      lower_blocked true k silent_is k_is = subst (AllBlocked parts cuts after new) (sym k_is) (silent (sym silent_is))
      lower_blocked false k silent_is k_is = λ x other lt at. absurd (omega (arith, lt, k_is))

  -- what the turn leaves
  module _ (item : StretchRef) (is_next : IsNextItem part place item) (o : Option Row)
      (came : MatchOption o (StretchBlocks part.version (length parts) host item old new)
      (λ row. StretchPasses part.version (length parts) host item row old new)) where
    blocks : o ≡ None → StretchBlocks part.version (length parts) host item old new
    blocks is =
        MatchOption-at_none (StretchBlocks part.version (length parts) host item old new)
        (λ row. StretchPasses part.version (length parts) host item row old new) is came

    pub none_passing : o ≡ None → IsPassing parts cuts places new
    none_passing is = still_passing item is_next (blocks is)

    pub none_blocked : o ≡ None → AllBlocked parts cuts places new (host + 1)
    none_blocked is = one_more_blocked item is_next (blocks is)

    module _ (row : Row) (is : o ≡ Some row) where
      pub passes : StretchPasses part.version (length parts) host item row old new
      passes =
          MatchOption-at_some (StretchBlocks part.version (length parts) host item old new)
          (λ r. StretchPasses part.version (length parts) host item r old new) row is came

      pub some_items_left : place.items < length part.items.now
      some_items_left = fits item is_next row passes

      pub some_entries_within : place.entries + row.entries ≤ length (entries_in part)
      some_entries_within = within item is_next row passes

      pub some_passing : IsPassing parts cuts (after item is_next row passes) new
      some_passing = goes_on_passing item is_next row passes

      pub some_blocked : (k : ℕ) → k ≡ (if row.is_silent then host else 0)
          → AllBlocked parts cuts (after item is_next row passes) new k
      some_blocked k k_is = lower_blocked item is_next row passes row.is_silent k refl k_is

-- THE END

-- a host of the journals is blocked, if its part is
pub has_passed : (parts : List PlainPart) (cuts : List Bool) (places : List Place) (known : Known) (n : ℕ)
    → IsPassing parts cuts places known → AllBlocked parts cuts places known n → length parts ≤ n
    → (j : Journals) → AreOf j parts → HasPassed j (marked cuts) (taken places)
has_passed parts cuts places known n passing all le j are =
    passed j (marked cuts) (taken places) (places_of known.made) (marked known.spent.items)
    (passing.passage j are) blocked
  where
    blocked : (x : ℕ) → x < j.openings.count
        → IsBlocked (j.openings.host x).version j.openings.count x (places_of known.made) (marked known.spent.items)
        (marked cuts x) (j.entries x) (taken places x)
    blocked x lt =
        let c = are.count_is in
        let there : x < length parts = omega (arith, lt, c) in
        let part = part_at parts x there in
        let is_of = are.each x part.0 part.1 in
        subst (λ v. IsBlocked v j.openings.count x (places_of known.made) (marked known.spent.items) (marked cuts x)
        (j.entries x) (taken places x)) is_of.version_is
        (subst (λ k. IsBlocked part.0.version k x (places_of known.made) (marked known.spent.items) (marked cuts x)
        (j.entries x) (taken places x)) (sym are.count_is)
        (subst (λ xs. IsBlocked part.0.version (length parts) x (places_of known.made) (marked known.spent.items)
        (marked cuts x)
        xs (taken places x)) is_of.entries_are
        (all x part.0 (omega (arith, there, le)) part.1)))
