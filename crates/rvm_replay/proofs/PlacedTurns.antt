-- The turns of an order of journals are those that the journals tell.
use Rattle.std.proofs.Common.{◌≡◌, ◌∙◌, ℕ, zero, suc, ◌+◌, ◌-◌, ◌<◌, ◌≤◌, ◌==◌, Bool, true, false, if◌then◌else◌, List, [], ◌∷◌, ◌++◌, Option, Some, None, ap, arith, flat_map, get_or, length, map, refl, replicate, subst, sym, take}
use Rattle.std.specs.Prelude.{slice_get}
use Rattle.std.proofs.lemmas.Bool.{eq-eqb, true≢false}
use Rattle.std.proofs.lemmas.List.{length-map}
use Rattle.std.proofs.lemmas.List.Sums.{sum_by-cons, sum_by-take-le}
use Rattle.std.proofs.lemmas.Option.{same_Some}
use Rattle.rvm_audit.specs.Hosts.{HostEntry, Hosts, IsRun, Makes, Openings, after, cons_if, entries_at}
use Rattle.rvm_audit.specs.ListOrders.{no_history}
use Rattle.rvm_audit.specs.Rule.{IsMerge}
use Rattle.rvm_core.specs.declared.event.Event.{Event}
use Rattle.rvm_core.specs.declared.event.Event.TheVariants.{At, Deliver}
use Rattle.rvm_recorder.specs.Entries.{PlainEntry}
use Rattle.rvm_recorder.specs.History.{Recording}
use Rattle.rvm_replay.specs.Audited.{AreReplayed, HasDone, IsHostBy, IsOnlyOne, is_wanted, journals_in}
use Rattle.rvm_replay.specs.Counts.{turns_in}
use Rattle.rvm_replay.specs.Turns.{EndWithTurn, IsPlaceOf, count_at, turn_at, turn_hosts, turns_of}
use Rattle.rvm_replay.specs.Journals.{JournalText, header_number, headers_in}
use Rattle.rvm_replay.specs.declared.headers.Wanted.TheVariants.{OfHost}
use Rattle.rvm_replay.proofs.CountedTurns.{count_append, one_if}

-- ENTRIES

-- the host of an entry, if that is of a turn
abbrev entry_at : HostEntry → List ℕ
entry_at s = replicate (turns_in s.1.event) s.0

-- from these opening hosts
module _ (openings : Openings) where
  same_turn : (w : Hosts) (e : Event) (s : HostEntry) → Makes openings w e s.0 s.1 → turn_at e ≡ entry_at s
  same_turn w (At host c) s made = λ i. replicate (turns_in (sym made.event.1 i)) (made.event.0 i)
  same_turn w (Deliver k) s made = sym (ap (λ ev. replicate (turns_in ev) s.0) made.event.event)

  -- the turns of a run are those of its entries
  run_turns : (w : Hosts) (events : List Event) (sequence : List HostEntry) → IsRun openings w events sequence
      → turn_hosts events ≡ flat_map entry_at sequence
  run_turns w [] [] run = refl
  run_turns w [] (s ∷ ss) run = absurd run
  run_turns w (e ∷ es) [] run = absurd run
  run_turns w (e ∷ es) (s ∷ ss) (made, run) =
      λ i. same_turn w e s made i ++ run_turns (after openings w s.0 s.1) es ss run i

  -- a turn is of a host that is there
  host_there : (w : Hosts) (events : List Event) (sequence : List HostEntry) (i x : ℕ) → IsRun openings w events sequence
      → slice_get (flat_map entry_at sequence) i ≡ Some x → x < openings.count
  host_there w [] [] i x run at = cc
  host_there w [] (s ∷ ss) i x run at = absurd run
  host_there w (e ∷ es) [] i x run at = absurd run
  host_there w (e ∷ es) (s ∷ ss) i x (made, run) at =
      by_place (turns_in s.1.event) i at (λ j later. host_there (after openings w s.0 s.1) es ss j x run later) where
        by_place : (n k : ℕ) → slice_get (replicate n s.0 ++ flat_map entry_at ss) k ≡ Some x
            → ((j : ℕ) → slice_get (flat_map entry_at ss) j ≡ Some x → x < openings.count) → x < openings.count
        by_place zero k there later = later k there
        by_place (suc n) zero there later = subst (λ h. h < openings.count) (same_Some s.0 x there) made.there
        by_place (suc n) (suc k) there later = by_place n k there later

-- COUNTS

-- n turns of one host
count_same : (x n h : ℕ) → count_at x (replicate n h) ≡ (if x == h then n else 0)
count_same x zero h = none (x == h) where
  none : (b : Bool) → ◌≡◌ {A = ℕ} 0 (if b then 0 else 0)
  none true = refl
  none false = refl
count_same x (suc n) h =
    sum_by-cons (one_if x) h (replicate n h) ∙ one_more (x == h) (count_at x (replicate n h)) (count_same x n h) where
      one_more : (b : Bool) (c : ℕ) → c ≡ (if b then n else 0) → (if b then 1 else 0) + c ≡ (if b then suc n else 0)
      one_more true c is = omega (arith, is)
      one_more false c is = omega (arith, is)

-- the turns of a host are those of its entries
own_turns : (x : ℕ) (sequence : List HostEntry) → count_at x (flat_map entry_at sequence) ≡ turns_of (entries_at x sequence)
own_turns x [] = refl
own_turns x (s ∷ ss) =
    count_append x (entry_at s) (flat_map entry_at ss)
    ∙ by_host (x == s.0) (count_at x (entry_at s)) (count_same x (turns_in s.1.event) s.0) (own_turns x ss) where
      by_host : (b : Bool) (c : ℕ) → c ≡ (if b then turns_in s.1.event else 0)
          → count_at x (flat_map entry_at ss) ≡ turns_of (entries_at x ss)
          → c + count_at x (flat_map entry_at ss) ≡ turns_of (cons_if b s.1 (entries_at x ss))
      by_host true c is more =
          let all = sum_by-cons (λ e. turns_in e.event) s.1 (entries_at x ss) in omega (arith, is, more, all)
      by_host false c is more = omega (arith, is, more)

some_counted : (x : ℕ) (hosts : List ℕ) (n : ℕ) → slice_get hosts n ≡ Some x → 1 ≤ count_at x (take (suc n) hosts)
some_counted x [] n at = cc
some_counted x (h ∷ hs) zero at =
    let first = sum_by-cons (one_if x) h [] in
    let is : one_if x h ≡ 1 = ap (λ b. if b then 1 else 0) (eq-eqb x h (sym (same_Some h x at))) in
    omega (arith, first, is)
some_counted x (h ∷ hs) (suc n) at =
    let first = sum_by-cons (one_if x) h (take (suc n) hs) in
    let more = some_counted x hs n at in
    omega (arith, first, more)

-- JOURNALS

-- in an order of the journals of these hosts, the turn with this number is of host x
module _ (all : List Recording) (events : List Event) (merge : IsMerge (journals_in all) events) (turn x : ℕ) (some : 1 ≤ turn)
    (at : slice_get (turn_hosts events) (turn - 1) ≡ Some x) where
  own : ℕ
  own = count_at x (take turn (turn_hosts events))

  entries : turn_hosts events ≡ flat_map entry_at merge.order.sequence
  entries = run_turns (journals_in all).openings _ events merge.order.sequence merge.order.run

  pub is_host : x < length all
  is_host =
      subst (λ n. x < n) (length-map all (λ (r : Recording). r.journal))
      (host_there (journals_in all).openings _ events merge.order.sequence (turn - 1) x merge.order.run
      (ap (λ hs. slice_get hs (turn - 1)) (sym entries) ∙ at))

  pub is_counted : 1 ≤ count_at x (take turn (turn_hosts events))
  is_counted =
      let is : suc (turn - 1) ≡ turn = omega (arith, some) in
      subst (λ n. 1 ≤ count_at x (take n (turn_hosts events))) is (some_counted x (turn_hosts events) (turn - 1) at)

  pub is_told : (r : Recording) → slice_get all x ≡ Some r → count_at x (take turn (turn_hosts events)) ≤ turns_of r.journal.entries
  is_told r there =
      let told : count_at x (turn_hosts events) ≡ turns_of ((journals_in all).entries x) =
      ap (count_at x) entries ∙ own_turns x merge.order.sequence
      ∙ ap turns_of (merge.order.entries x (subst (λ n. x < n) (sym (length-map all (λ (s : Recording). s.journal))) is_host)) in
      let own_entries : (journals_in all).entries x ≡ r.journal.entries = entries_of all x r there in
      let first = sum_by-take-le (one_if x) (turn_hosts events) turn in
      let last : turns_of ((journals_in all).entries x) ≡ turns_of r.journal.entries = ap turns_of own_entries in
      omega (arith, told, first, last)
    where
      entries_of : (rs : List Recording) (i : ℕ) (s : Recording) → slice_get rs i ≡ Some s
          → (get_or (map (λ (t : Recording). t.journal) rs) i no_history).entries ≡ s.journal.entries
      entries_of [] i s is = cc
      entries_of (t ∷ ts) zero s is = ap (λ (u : Recording). u.journal.entries) (same_Some t s is)
      entries_of (t ∷ ts) (suc i) s is = entries_of ts i s is

-- FILES

-- entries with a turn are some
not_none : (entries : List PlainEntry) (turn count : ℕ) → EndWithTurn entries turn count → entries ≡ [] → ⊥
not_none entries turn count ends none = some ends.before (sym ends.entries_are ∙ none) where
  some : (xs : List PlainEntry) → xs ++ ends.last ∷ ends.rest ≡ [] → ⊥
  some [] is = cc
  some (y ∷ ys) is = cc

-- a host that did something has a journal
pub has_journal : (files : List JournalText) (image : List ℕ) (all : List Recording) (x turn count : ℕ) (r : Recording)
    → AreReplayed files image all → slice_get all x ≡ Some r → EndWithTurn r.journal.entries turn count
    → IsOnlyOne (headers_in files) (OfHost x) None → ⊥
has_journal files image all x turn count r are there ends none = by_journal (are.each x r there) where
  by_found : (found : Option ℕ) → IsOnlyOne (headers_in files) (OfHost x) found → IsHostBy files image (length all) x found r → ⊥
  by_found None only done = not_none r.journal.entries turn count ends done.nothing
  by_found (Some k) only done = true≢false (sym only.1 ∙ none k only.0)

  by_journal : HasDone files image (length all) x r → ⊥
  by_journal d = by_found d.found d.only d.done

-- the place of a turn
pub placed : (files : List JournalText) (all : List Recording) (events : List Event) (turn x own count index : ℕ) (r : Recording)
    → slice_get (turn_hosts events) (turn - 1) ≡ Some x → own ≡ count_at x (take turn (turn_hosts events))
    → slice_get all x ≡ Some r → EndWithTurn r.journal.entries own count
    → is_wanted (OfHost x) (header_number files index) ≡ true
    → IsPlaceOf files all events turn index count
placed files all events turn x own count index r at own_is host_is there of_host = record {
  host = x;
  turn_is = record {
    own = own;
    host = r;
    of_host = record { host_is = at; own_is = sym own_is };
    host_is = host_is;
    there = there;
  };
  of_host = of_host;
}
