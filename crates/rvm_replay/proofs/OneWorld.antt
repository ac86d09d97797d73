-- The hosts that journals are of are those of a new world.
use Rattle.std.proofs.Common.{◌≡◌, ◌∙◌, ℕ, ◌<◌, ◌==◌, ◌||◌, Bool, true, false, if◌then◌else◌, is_some, List, get_or, length, Option, Some, None, refl, sym, ap, subst}
use Rattle.std.proofs.lemmas.Bool.{eq-eqb, eqb-true, true≢false}
use Rattle.std.proofs.lemmas.List.{get_or-map, length-map}
use Rattle.std.proofs.lemmas.Option.{same_Some, slice_get-get_or}
use Rattle.rvm_board.specs.Guest.{GuestState}
use Rattle.rvm_guest.specs.TheGuest.{board}
use Rattle.rvm_guest.specs.Valid.{is_valid}
use Rattle.rvm_protocol.specs.World.{new_world}
use Rattle.rvm_host.specs.Hosts.{new_host}
use Rattle.rvm_recorder.specs.History.{History, Recording}
use Rattle.rvm_core.specs.declared.event.Event.{Event}
use Rattle.rvm_audit.specs.ListOrders.{no_history}
use Rattle.rvm_audit.specs.Orders.{IsOrder, Journals}
use Rattle.rvm_audit.specs.Worlds.{AreNew, IsWorldRun}
use Rattle.rvm_journal.specs.declared.header.Header.{Header}
use Rattle.rvm_journal.specs.declared.header.Image.{Image}
use Rattle.rvm_replay.specs.declared.headers.Wanted.TheVariants.{OfHost, WithGuest}
use Rattle.rvm_replay.specs.Audited.{AreReplayed, HasDone, HasOneGuest, IsHostBy, IsOnlyOne, is_wanted, journals_in}
use Rattle.rvm_replay.specs.Journals.{IsGuestNamed, JournalText, header_number, headers_in}

-- TESTS

false_if : (b : Bool) → (b ≡ true → ⊥) → b ≡ false
false_if true never = absurd (never refl)
false_if false never = refl

or_true : (b : Bool) → (b || true) ≡ true
or_true true = refl
or_true false = refl

-- hosts that are not the same
apart : (x y : ℕ) → (x == y) ≡ false → (y == x) ≡ false
apart x y is = false_if (y == x) (λ e. true≢false (sym (eq-eqb x y (sym (eqb-true y x e))) ∙ is))

-- GUESTS

no_guest : (i : Option Image) → is_some i ≡ false → i ≡ None
no_guest None is = refl
no_guest (Some i) is = absurd (true≢false is)

-- the guest that is named, if one is
the_guest : (image : List ℕ) (i : Option Image) (g : Option GuestState) (P : Option GuestState → Type 0) → is_some i ≡ true
    → IsGuestNamed i image g → P g → (guest : GuestState) × IsGuestNamed i image (Some guest) × P (Some guest)
the_guest image None g P is named here = absurd (true≢false (sym is))
the_guest image (Some i) None P is named here = absurd named
the_guest image (Some i) (Some guest) P is named here = (guest, named, here)

-- a guest that is named is valid
valid_of : (image : List ℕ) (i : Option Image) (g : GuestState) → IsGuestNamed i image (Some g) → is_valid g.guest ≡ true
valid_of image None g named = cc
valid_of image (Some i) g named = named.2

-- what stands for the host of a number that a list does not have
abbrev blank : Recording
blank = record { journal = no_history; capacity = 0 }

module _ (files : List JournalText) (image : List ℕ) (all : List Recording) (are : AreReplayed files image all) where
  abbrev opening : Header
  opening = are.world.opening

  abbrev first : ℕ
  first = are.world.one_world.first

  abbrev origin : ℕ
  origin = are.world.opening.host

  -- the header of a journal tells the number of hosts
  hosts_are : (i : ℕ) (h : Header) → i < length files → header_number files i ≡ Some h → h.hosts ≡ length all
  hosts_are i h less at =
      let told = are.world.one_world.headers i less in
      ap (λ (z : Header). z.hosts) (same_Some h told.header (sym at ∙ told.header_is)) ∙ told.hosts_are

  first_below : first < length files
  first_below = are.world.one_world.one_guest.0

  -- the host with the guest is one of them
  origin_there : origin < length all
  origin_there =
      let told = are.world.one_world.headers first first_below in
      subst (λ (h : Header). h.host < length all)
      (same_Some told.header opening (sym told.header_is ∙ are.world.one_world.opening_is)) told.there

  -- the journal of the host with the guest
  is_first : (i : ℕ) (h : Header) → i ≡ first → header_number files i ≡ Some h → h ≡ opening
  is_first i h is at = same_Some h opening (sym at ∙ ap (header_number files) is ∙ are.world.one_world.opening_is)

  -- whether that journal is the one of a host
  is_of : (x : ℕ) → is_wanted (OfHost x) (header_number files first) ≡ (origin == x)
  is_of x = ap (is_wanted (OfHost x)) are.world.one_world.opening_is

  has_guest : is_some opening.guest ≡ true
  has_guest = sym (ap (is_wanted WithGuest) are.world.one_world.opening_is) ∙ are.world.one_world.one_guest.1

  -- a host of a journal is the one of its header
  host_is : (x i : ℕ) (h : Header) → header_number files i ≡ Some h → is_wanted (OfHost x) (header_number files i) ≡ true → h.host ≡ x
  host_is x i h at wanted = eqb-true h.host x (sym (ap (is_wanted (OfHost x)) at) ∙ wanted)

  -- each other host begins without a guest
  other_by : (x : ℕ) (r : Recording) (found : Option ℕ) → (x == origin) ≡ false → IsOnlyOne (headers_in files) (OfHost x) found
      → IsHostBy files image (length all) x found r → r.journal.opening ≡ new_host None x (length all) 4096 3
  other_by x r None other only done = done.opening
  other_by x r (Some i) other only done =
      let h = done.header in
      let here : h.host ≡ x = host_is x i h done.header_is only.1 in
      let without : is_some h.guest ≡ false =
      false_if (is_some h.guest)
      (λ e. (let same = is_first i h (are.world.one_world.one_guest.2 i only.0 (ap (is_wanted WithGuest) done.header_is ∙ e)) done.header_is in
      true≢false (sym (eq-eqb x origin (sym here ∙ ap (λ (z : Header). z.host) same)) ∙ other))) in
      let named : done.host.guest ≡ None = subst (λ g. IsGuestNamed g image done.host.guest) (no_guest h.guest without) done.host.guest_is in
      let count = hosts_are i h only.0 done.header_is in
      done.host.opening ∙ (λ j. new_host (named j) (here j) (count j) 4096 3)

  -- the host with the guest begins with it
  origin_by : (r : Recording) (found : Option ℕ) → IsOnlyOne (headers_in files) (OfHost origin) found
      → IsHostBy files image (length all) origin found r
      → (guest : GuestState) × IsGuestNamed opening.guest image (Some guest)
      × (r.journal.opening ≡ new_host (Some guest) origin (length all) 4096 3)
  origin_by r None only done =
      absurd (true≢false (sym (is_of origin ∙ eq-eqb origin origin refl) ∙ only first first_below))
  origin_by r (Some i) only done =
      let h = done.header in
      let at_first : first ≡ i = only.2 first first_below (is_of origin ∙ eq-eqb origin origin refl) in
      let same : h ≡ opening = is_first i h (sym at_first) done.header_is in
      let count = hosts_are i h only.0 done.header_is in
      the_guest image opening.guest done.host.guest (λ g. r.journal.opening ≡ new_host g origin (length all) 4096 3) has_guest
      (subst (λ (z : Header). IsGuestNamed z.guest image done.host.guest) same done.host.guest_is)
      (done.host.opening ∙ (λ j. new_host done.host.guest (same j).host (count j) 4096 3))

  -- the host with a number
  abbrev at : ℕ → Recording
  at x = get_or all x blank

  done_at : (x : ℕ) → x < length all → HasDone files image (length all) x (at x)
  done_at x less = are.each x (at x) (slice_get-get_or all x blank less)

  begun : (guest : GuestState) × IsGuestNamed opening.guest image (Some guest)
      × ((at origin).journal.opening ≡ new_host (Some guest) origin (length all) 4096 3)
  begun =
      let done = done_at origin origin_there in origin_by (at origin) done.found done.only done.done

  opened_by : (x : ℕ) (b : Bool) → x < length all → (x == origin) ≡ b
      → (at x).journal.opening ≡ new_host (if b then Some begun.0 else None) x (length all) 4096 3
  opened_by x true less is =
      subst (λ y. (at y).journal.opening ≡ new_host (Some begun.0) y (length all) 4096 3) (sym (eqb-true x origin is)) begun.2
  opened_by x false less is =
      let done = done_at x less in other_by x (at x) done.found is done.only done.done

  count_is : (journals_in all).openings.count ≡ length all
  count_is = length-map all (λ (r : Recording). r.journal)

  new : AreNew 3 origin begun.0 (λ x. 4096) (journals_in all).openings
  new = record {
    spoken = or_true ((journals_in all).openings.count == 2);
    each = λ x less.
        (let below : x < length all = subst (λ n. x < n) count_is less in
        ap (λ (h : History). h.opening) (get_or-map (λ (r : Recording). r.journal) all x blank no_history below)
        ∙ opened_by x (x == origin) below refl
        ∙ ap (λ n. new_host (if x == origin then Some begun.0 else None) x n 4096 3) (sym count_is));
  }

-- an order of their journals is a run of that world, by the law of the audit
pub has_one_guest : (files : List JournalText) (image : List ℕ) (all : List Recording) (events : List Event)
    → (are : AreReplayed files image all) → IsOrder (journals_in all) events
    → ((version origin : ℕ) (g : GuestState) (limits : ℕ → ℕ) (j : Journals) (events : List Event)
    → is_valid g.guest ≡ true → AreNew version origin g limits j.openings → IsOrder j events
    → IsWorldRun (new_world board version origin g.guest j.openings.count limits) origin g.guest j events)
    → HasOneGuest image are.world.opening all events
has_one_guest files image all events are order law =
    let g = begun files image all are in
    let origin = are.world.opening.host in record {
      guest = g.0;
      guest_is = g.1;
      run = subst (λ n. IsWorldRun (new_world board 3 origin g.0.guest n (λ x. 4096)) origin g.0.guest (journals_in all) events)
          (count_is files image all are)
          (law 3 origin g.0 (λ x. 4096) (journals_in all) events
          (valid_of image are.world.opening.guest g.0 g.1) (new files image all are) order);
    }
