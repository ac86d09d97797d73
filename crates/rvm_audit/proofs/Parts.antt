-- A merge of parts: where it begins, how a turn leaves it, and where it ends.
use Rattle.std.proofs.Common.{◌≡◌, ◌∙◌, ℕ, zero, suc, ◌+◌, ◌<◌, ◌≤◌, Bool, true, false, if◌then◌else◌, List, [], ◌∷◌, ◌++◌, drop, get_or, length, replicate, None, Some, refl, sym, ap, subst, arith, inl, inr}
use Rattle.std.specs.Prelude.{MatchOption, Option, slice_get}
use Rattle.std.proofs.lemmas.Bool.{cases_lt}
use Rattle.std.proofs.lemmas.List.{get_or_default}
use Rattle.std.proofs.lemmas.Option.{MatchOption-at_none, MatchOption-at_some, same_Some, slice_get_read}
use Rattle.rvm_recorder.specs.Entries.{PlainEntry}
use Rattle.rvm_recorder.specs.Items.{all_of, entries_at}
use Rattle.rvm_audit.specs.Orders.{Journals}
use Rattle.rvm_audit.specs.declared.merge.Merge.{Merge}
use Rattle.rvm_audit.specs.PlainParts.{PlainPart}
use Rattle.rvm_audit.specs.declared.part.Place.{Place}
use Rattle.rvm_audit.specs.Merged.{Merged}
use Rattle.rvm_audit.specs.Merging.{AreTaken, AreWaiting, IsWaiting, Places, Takes, places_of}
use Rattle.rvm_audit.specs.Parts.{AllWait, AreOf, IsAt, Stands, entries_in, place_at, taken}
use Rattle.rvm_audit.specs.Rule.{IsEnd}
use Rattle.rvm_audit.proofs.Behind.{OnePart, as_long, at_each, at_place, behind, entries_left, entries_within, items_left, other_place, start, taken_is, there}
use Rattle.rvm_audit.proofs.Merges.{ended, nothing}
use Rattle.rvm_audit.proofs.Taken.{LowerWait, item_taken, one_frame, same_places, still, waits_at, waits_still}

-- each part that is there can be looked at
pub part_at : {X : Type 0} (xs : List X) (x : ℕ) → x < length xs → (a : X) × (slice_get xs x ≡ Some a)
part_at [] x lt = absurd (omega (arith, lt))
part_at (a ∷ xs) zero lt = (a, refl)
part_at (a ∷ xs) (suc x) lt = part_at xs x (omega (arith, lt))

-- a host of the journals waits, if its part does
waits_in : (j : Journals) (parts : List PlainPart) (places : List Place) (p : Places) (n : ℕ) → AreOf j parts
    → AllWait parts places p n → (x : ℕ) → x < n → x < length parts
    → IsWaiting (j.openings.host x).version j.openings.count x (j.entries x) (taken places x) p
waits_in j parts places p n are all x lt there =
    let part = part_at parts x there in
    let is_of = are.each x part.0 part.1 in
    subst (λ v. IsWaiting v j.openings.count x (j.entries x) (taken places x) p) is_of.version_is
    (subst (λ c. IsWaiting part.0.version c x (j.entries x) (taken places x) p) (sym are.count_is)
    (subst (λ xs. IsWaiting part.0.version (length parts) x xs (taken places x) p) is_of.entries_are
    (all x part.0 lt part.1)))

pub nothing_at : (part : PlainPart) → IsAt part start
nothing_at part = let none : 0 ≤ length (entries_in part) = omega arith in record { within = none; left = refl }

-- nothing was taken
pub begins : (parts : List PlainPart) (places : List Place) (m : Merge) → m.order ≡ [] → m.made ≡ 0
    → ((key : List ℕ) → places_of m.places key ≡ None) → length places ≡ length parts
    → ((x : ℕ) → place_at places x ≡ start) → Stands parts places m
begins parts places m order made none long at = record {
  long = long;
  each = λ x part here. subst (λ (k : Place). IsAt part k) (sym (at x)) (nothing_at part);
  merged = λ j are.
      subst (λ (v : ℕ → ℕ). Merged j v m.order (places_of m.places) m.made) (λ i x. (ap (λ (k : Place). k.entries) (sym (at x))) i)
      (subst (λ es. Merged j (λ x. 0) es (places_of m.places) m.made) (sym order)
      (subst (λ c. Merged j (λ x. 0) [] (places_of m.places) c) (sym made)
      (nothing j (places_of m.places) none)));
}

pub starts : (n x : ℕ) (places : List Place) → ◌≡◌ {A = List Place} places (replicate n start) → place_at places x ≡ start
starts n x places is = ap (λ (ps : List Place). place_at ps x) is ∙ none n x where
  none : (n x : ℕ) → ◌≡◌ {A = Place} (place_at (replicate {A = Place} n start) x) start
  none zero x = refl
  none (suc n) zero = refl
  none (suc n) (suc x) = none n x

-- A TURN

-- the turn of a host whose part is there, while the hosts below wait
pub record Turn (parts : List PlainPart) (places : List Place) (old : Merge) (host : ℕ) (part : PlainPart) (place : Place) : Type 0 where
  pub stands : Stands parts places old
  pub lower : AllWait parts places (places_of old.places) host
  pub here : slice_get parts host ≡ Some part
  pub place_is : place ≡ place_at places host

pub turn : (parts : List PlainPart) (places : List Place) (old : Merge) (host : ℕ) (part : PlainPart) (place : Place)
    → Stands parts places old → AllWait parts places (places_of old.places) host → host < length parts
    → part ≡ get_or parts host part → place ≡ get_or places host place → Turn parts places old host part place
turn parts places old host part place stands lower lt part_is place_is = record {
  stands = stands;
  lower = lower;
  here = slice_get_read parts (length parts) host part refl lt part_is;
  place_is = place_is ∙ get_or_default places host place start (let long = stands.long in omega (arith, long, lt));
}

module _ (parts : List PlainPart) (places : List Place) (old new : Merge) (host : ℕ) (part : PlainPart) (place : Place)
    (turn : Turn parts places old host part place) where
  one : OnePart parts places host part place
  one = record { long = turn.stands.long; each = turn.stands.each; here = turn.here; place_is = turn.place_is }

  is_at : IsAt part place
  is_at = at_place parts places host part place one

  abbrev left : List (List PlainEntry)
  left = drop place.items part.items.now

  abbrev AreStill : Type 0
  AreStill = AreWaiting part.version (length parts) host left old new

  abbrev Took : ℕ → Type 0
  Took n = AreTaken part.version (length parts) host left n old new

  one_waits : AreStill → AllWait parts places (places_of old.places) (host + 1)
  one_waits are = λ x other lt at. elim (cases_lt x host) [
    | inl below ↦ turn.lower x other below at
    | inr above ↦
        (let same : host ≡ x = omega (arith, lt, above) in
        let part_is : part ≡ other = same_Some part other (sym turn.here ∙ ap (slice_get parts) same ∙ at) in
        subst (λ y. IsWaiting other.version (length parts) y (entries_in other) (taken places y) (places_of old.places)) same
        (subst (λ (q : PlainPart). IsWaiting q.version (length parts) host (entries_in q) (taken places host) (places_of old.places)) part_is
        (subst (λ (k : Place). IsWaiting part.version (length parts) host (entries_in part) k.entries (places_of old.places)) turn.place_is
        (waits_at part.version (length parts) host old new (entries_in part) place.entries left is_at.left are))))
  ]

  -- its next item was taken
  module _ (n : ℕ) (t : Took n) where
    abbrev after : List Place
    after = behind places host place n

    merged : (j : Journals) → AreOf j parts → Merged j (taken after) new.order (places_of new.places) new.made
    merged j are =
        let is_of = are.each host part turn.here in
        let count_is = are.count_is in
        let h = there parts places host part place one in
        let lt : host < j.openings.count = omega (arith, count_is, h) in
        let at : taken places host ≡ place.entries = ap (λ (k : Place). k.entries) (sym turn.place_is) in
        let split : drop (taken places host) (j.entries host) ≡ entries_at t.item ++ all_of t.rest =
        (λ i. drop (at i) (sym is_of.entries_are i))
        ∙ entries_left parts places host part place one n (entries_at t.item) t.rest t.split t.count_is
        in
        let takes : Takes (j.openings.host host).version j.openings.count host t.item old new =
        subst (λ v. Takes v j.openings.count host t.item old new) is_of.version_is
        (subst (λ c. Takes part.version c host t.item old new) (sym count_is) t.takes)
        in
        let lower : LowerWait j host lt is_of.replay (taken places) (places_of old.places) =
        λ y y_lt. waits_in j parts places (places_of old.places) host are turn.lower y y_lt (omega (arith, y_lt, h))
        in
        subst (λ (v : ℕ → ℕ). Merged j v new.order (places_of new.places) new.made)
        (taken_is parts places host part place one n (entries_at t.item) t.rest t.split t.count_is)
        (item_taken j host lt is_of.replay (taken places) old new (turn.stands.merged j are) lower t.item (all_of t.rest) split takes)

    -- if it made no frame, the hosts below go on waiting
    silent : new.made ≡ old.made → AllWait parts after (places_of new.places) host
    silent is = λ x other lt at.
        subst (λ (k : Place). IsWaiting other.version (length parts) x (entries_in other) k.entries (places_of new.places))
        (sym (other_place parts places host part place one n (entries_at t.item) t.rest t.split t.count_is x
        (λ same. omega (arith, same, lt))))
        (waits_still other.version (length parts) x (entries_in other) (taken places x) (places_of old.places) (places_of new.places)
        (same_places part.version (length parts) host old new t.item t.takes is) (turn.lower x other lt at))

  -- what the turn leaves
  module _ (o : Option ℕ) (came : MatchOption o AreStill Took) where
    waiting : o ≡ None → AreStill
    waiting is = MatchOption-at_none AreStill Took is came

    same_merge : o ≡ None → new ≡ old
    same_merge is = still part.version (length parts) host old new left (waiting is)

    pub still_stands : o ≡ None → Stands parts places new
    still_stands is = subst (Stands parts places) (sym (same_merge is)) turn.stands

    pub one_more_waits : o ≡ None → AllWait parts places (places_of new.places) (host + 1)
    one_more_waits is =
        subst (λ (m : Merge). AllWait parts places (places_of m.places) (host + 1)) (sym (same_merge is))
        (one_waits (waiting is))

    module _ (n : ℕ) (is : o ≡ Some n) where
      pub took : Took n
      took = MatchOption-at_some AreStill Took n is came

      pub items_fit : place.items < length part.items.now
      items_fit = items_left parts places host part place one n (entries_at took.item) took.rest took.split took.count_is

      pub entries_fit : place.entries + n ≤ length (entries_in part)
      entries_fit = entries_within parts places host part place one n (entries_at took.item) took.rest took.split took.count_is

      pub goes_on : Stands parts (after n took) new
      goes_on = record {
        long = as_long parts places host part place one n (entries_at took.item) took.rest took.split took.count_is;
        each = at_each parts places host part place one n (entries_at took.item) took.rest took.split took.count_is;
        merged = merged n took;
      }

      pub few_frames : new.made ≤ old.made + 1
      few_frames = one_frame part.version (length parts) host old new took.item took.takes

      -- after a frame was made, the first host has the turn
      pub lower_wait : (b : Bool) (k : ℕ) → (b ≡ true → new.made ≡ old.made) → k ≡ (if b then host else 0)
          → AllWait parts (after n took) (places_of new.places) k
      lower_wait true k same k_is =
          subst (AllWait parts (after n took) (places_of new.places)) (sym k_is) (silent n took (same refl))
      lower_wait false k same k_is = λ x other lt at. absurd (omega (arith, lt, k_is))

-- THE END

pub at_end : (parts : List PlainPart) (places : List Place) (m : Merge) (n : ℕ) → Stands parts places m
    → AllWait parts places (places_of m.places) n → length parts ≤ n → (j : Journals) → AreOf j parts
    → IsEnd j (taken places) m.order
at_end parts places m n stands all le j are =
    ended j (taken places) m.order (places_of m.places) m.made (stands.merged j are)
    (λ x lt.
    let c = are.count_is in
    waits_in j parts places (places_of m.places) n are all x (omega (arith, lt, c, le)) (omega (arith, lt, c)))
