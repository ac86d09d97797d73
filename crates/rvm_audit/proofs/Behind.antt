-- The places of parts after an item of one of them.
use Rattle.std.proofs.Common.{◌≡◌, ◌∙◌, ◌≢◌, ℕ, ◌+◌, ◌<◌, ◌≤◌, Bool, if◌then◌else◌, List, ◌∷◌, ◌++◌, drop, set, length, length-append, length-drop, length-set, Some, sym, ap, subst, arith, inl, inr}
use Rattle.std.specs.Prelude.{slice_get}
use Rattle.std.proofs.lemmas.Bool.{cases_eq, eq-eqb, ne_eqb}
use Rattle.std.proofs.lemmas.List.{get_or-set_other, get_or-set_same}
use Rattle.std.proofs.lemmas.Option.{same_Some, slice_get_within}
use Rattle.rvm_recorder.specs.Entries.{PlainEntry}
use Rattle.rvm_recorder.specs.Items.{all_of}
use Rattle.rvm_recorder.proofs.Spans.{drop_all_of, drop_drop, next_within}
use Rattle.rvm_protocol.specs.Pages.{put}
use Rattle.rvm_audit.specs.PlainParts.{PlainPart}
use Rattle.rvm_audit.specs.declared.part.Place.{Place}
use Rattle.rvm_audit.specs.Parts.{IsAt, entries_in, place_at, taken}

abbrev pub start : Place
start = record { items = 0; entries = 0 }

-- the place after an item of n entries
abbrev pub next_place : Place → (n : ℕ) → Place
next_place place n = record { items = place.items + 1; entries = place.entries + n }

-- the places after the item at this place of a host
abbrev pub behind : List Place → (host : ℕ) → Place → (n : ℕ) → List Place
behind places host place n = set places host (next_place place n)

-- the parts were taken up to these places, and this is the part of one host, with its place
pub record OnePart (parts : List PlainPart) (places : List Place) (host : ℕ) (part : PlainPart) (place : Place) : Type 0 where
  pub long : length places ≡ length parts
  pub each : (x : ℕ) (other : PlainPart) → slice_get parts x ≡ Some other → IsAt other (place_at places x)
  pub here : slice_get parts host ≡ Some part
  pub place_is : place ≡ place_at places host

module _ (parts : List PlainPart) (places : List Place) (host : ℕ) (part : PlainPart) (place : Place)
    (one : OnePart parts places host part place) where
  pub at_place : IsAt part place
  at_place = subst (λ (k : Place). IsAt part k) (sym one.place_is) (one.each host part one.here)

  pub there : host < length parts
  there = slice_get_within parts host part one.here

  -- its next item has these n entries
  module _ (n : ℕ) (xs : List PlainEntry) (rest : List (List PlainEntry))
      (split : drop place.items part.items.now ≡ xs ∷ rest) (n_is : n ≡ length xs) where
    abbrev next : Place
    next = next_place place n

    abbrev now : List Place
    now = behind places host place n

    pub items_left : place.items < length part.items.now
    items_left = next_within part.items.now place.items xs rest split

    -- the entries that are left
    pub entries_left : drop place.entries (entries_in part) ≡ xs ++ all_of rest
    entries_left = sym at_place.left ∙ ap all_of split

    pub entries_within : place.entries + n ≤ length (entries_in part)
    entries_within =
        let w = at_place.within in
        let l = ap (λ (ys : List PlainEntry). length ys) entries_left in
        let both = length-append xs (all_of rest) in
        omega (arith, w, l, both, length-drop place.entries (entries_in part), n_is)

    own : place_at now host ≡ next
    own = get_or-set_same places host next start (let l = one.long in let h = there in omega (arith, l, h))

    pub other_place : (x : ℕ) → x ≢ host → place_at now x ≡ place_at places x
    other_place x ne = get_or-set_other places host x next start ne

    moved : (x : ℕ) → put (taken places) host (place.entries + n) x ≡ taken now x
    moved x = elim (cases_eq x host) [
      | inl same ↦
          ap (λ (b : Bool). if b then place.entries + n else taken places x) (eq-eqb x host same)
          ∙ sym (ap (taken now) same ∙ ap (λ (k : Place). k.entries) own)
      | inr ne ↦
          ap (λ (b : Bool). if b then place.entries + n else taken places x) (ne_eqb x host ne)
          ∙ sym (ap (λ (k : Place). k.entries) (other_place x ne))
    ]

    -- how many entries of each were taken
    pub taken_is : ◌≡◌ {A = ℕ → ℕ} (put (taken places) host (taken places host + length xs)) (taken now)
    taken_is =
        let at : taken places host ≡ place.entries = ap (λ (k : Place). k.entries) (sym one.place_is) in
        let size : taken places host + length xs ≡ place.entries + n = omega (arith, n_is, at) in
        λ i x. (ap (λ k. put (taken places) host k x) size ∙ moved x) i

    at_next : IsAt part next
    at_next = record {
      within = entries_within;
      left =
          ap all_of (sym (drop_drop part.items.now place.items 1) ∙ ap (drop 1) split)
          ∙ sym (drop_all_of xs (all_of rest)) ∙ ap (drop (length xs)) (sym entries_left)
          ∙ drop_drop (entries_in part) place.entries (length xs)
          ∙ ap (λ k. drop (place.entries + k) (entries_in part)) (sym n_is);
    }

    pub at_each : (x : ℕ) (other : PlainPart) → slice_get parts x ≡ Some other → IsAt other (place_at now x)
    at_each x other is = elim (cases_eq x host) [
      | inl same ↦
          (let part_is : part ≡ other = same_Some part other (sym one.here ∙ ap (slice_get parts) (sym same) ∙ is) in
          subst (λ (k : Place). IsAt other k) (sym (ap (place_at now) same ∙ own))
          (subst (λ (q : PlainPart). IsAt q next) part_is at_next))
      | inr ne ↦ subst (λ (k : Place). IsAt other k) (sym (other_place x ne)) (one.each x other is)
    ]

    pub as_long : length now ≡ length parts
    as_long = length-set places host next ∙ one.long
