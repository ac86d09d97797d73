-- Entries that are forgotten, and those that follow them.
use Rattle.std.proofs.Common.{◌≡◌, ◌∙◌, ℕ, ◌+◌, ◌≤◌, List, [], ◌∷◌, ◌++◌, length, length-append, refl, sym, ap, subst, arith}
use Rattle.std.proofs.lemmas.List.{append-nil, map-append}
use Rattle.rvm_host.specs.Hosts.{PlainHost, host_of}
use Rattle.rvm_host.specs.Spelled.{AreSpelled}
use Rattle.rvm_message.specs.declared.event.HostEvent.{HostEvent}
use Rattle.rvm_message.specs.Events.{event_of}
use Rattle.rvm_recorder.specs.Entries.{PlainEntry}
use Rattle.rvm_recorder.specs.History.{Recording, host_now}
use Rattle.rvm_journal.specs.Recorders.{Records, events_in}
use Rattle.rvm_recorder.specs.Reopening.{IsReopened, LeadsTo}
use Rattle.rvm_replay.specs.Behind.{IsBehind, most_replayed, replayed_of}
use Rattle.rvm_journal.proofs.Recorders.{longer}
use Rattle.rvm_recorder.specs.Replay.{IsReplay, IsReplayFrom, LawHost, outcome_at, replay, replay_from}

-- entries after others
replay_both : (o : PlainHost) (h : LawHost) (xs ys : List PlainEntry)
    → replay_from o h (xs ++ ys) ≡ replay_from o (replay_from o h xs) ys
replay_both o h [] ys = refl
replay_both o h (x ∷ xs) ys = replay_both o (outcome_at o h (event_of x.event)).next xs ys

is_replay_both : (o : PlainHost) (h : LawHost) (xs ys : List PlainEntry) → IsReplayFrom o h xs
    → IsReplayFrom o (replay_from o h xs) ys → IsReplayFrom o h (xs ++ ys)
is_replay_both o h [] ys first more = more
is_replay_both o h (x ∷ xs) ys first more =
    (first.0, is_replay_both o (outcome_at o h (event_of x.event)).next xs ys first.1 more)

-- what a host does depends on its numbers alone, beside the host of the protocol
module _ (o k : PlainHost) (same : k ≡ record o { mode = k.mode; partner = k.partner }) where
  same_outcome : (h : LawHost) (x : PlainEntry)
      → outcome_at k h (event_of x.event) ≡ outcome_at o h (event_of x.event)
  same_outcome h x = ap (λ (p : PlainHost). outcome_at p h (event_of x.event)) same

  same_replay : (h : LawHost) (ys : List PlainEntry) → replay_from k h ys ≡ replay_from o h ys
  same_replay h [] = refl
  same_replay h (y ∷ ys) =
      ap (λ r. replay_from k r.next ys) (same_outcome h y)
      ∙ same_replay (outcome_at o h (event_of y.event)).next ys

  is_same_replay : (h : LawHost) (ys : List PlainEntry) → IsReplayFrom k h ys → IsReplayFrom o h ys
  is_same_replay h [] is = tt
  is_same_replay h (y ∷ ys) is = (
    record {
      reply = is.0.reply ∙ ap (λ r. r.reply) (same_outcome h y);
      frame = subst (λ (p : PlainHost). AreSpelled p.version (outcome_at p h (event_of y.event)).made y.frame) same is.0.frame;
    },
    is_same_replay (outcome_at o h (event_of y.event)).next ys
        (subst (λ r. IsReplayFrom k r.next ys) (same_outcome h y) is.1),
  )

module _ (o : PlainHost) (xs : List PlainEntry) (k : PlainHost) (leads : LeadsTo o xs k) where
  -- the entries after those that lead to a host
  pub replay_behind : (ys : List PlainEntry) → replay k ys ≡ replay o (xs ++ ys)
  replay_behind ys =
      same_replay o k leads.numbers (host_of k) ys ∙ ap (λ h. replay_from o h ys) leads.there
      ∙ sym (replay_both o (host_of o) xs ys)

  pub is_replay_behind : (ys : List PlainEntry) → IsReplay o xs → IsReplay k ys → IsReplay o (xs ++ ys)
  is_replay_behind ys first more =
      is_replay_both o (host_of o) xs ys first
      (subst (λ h. IsReplayFrom o h ys) leads.there (is_same_replay o k leads.numbers (host_of k) ys more))

  pub leads_on : (ys : List PlainEntry) (j : PlainHost) → LeadsTo k ys j → LeadsTo o (xs ++ ys) j
  leads_on ys j next = record {
    numbers = next.numbers ∙ ap (λ (p : PlainHost). record p { mode = j.mode; partner = j.partner }) leads.numbers;
    there = next.there ∙ replay_behind ys;
  }

-- a journal without entries leads to the host with which it opens
pub leads_nowhere : (o : PlainHost) → LeadsTo o [] o
leads_nowhere o = record { numbers = refl; there = refl }

-- a host that has done nothing has an empty past
pub behind_none : (o : PlainHost) (r : Recording) → r.journal.opening ≡ o → r.journal.entries ≡ [] → r.capacity ≡ 4294967295
    → IsBehind o [] 0 r
behind_none o r is none few = record {
  leads = subst (LeadsTo o []) (sym is) (leads_nowhere o);
  replay = tt;
  count_is = refl;
  capacity = few;
  fits = let size = ap length none in omega (arith, size);
}

-- the entries that were recorded are forgotten as well
pub behind_more : (o : PlainHost) (past more : List PlainEntry) (count next : ℕ) (old new : Recording)
    → IsBehind o past count old → IsReplay old.journal.opening old.journal.entries → more ≡ past ++ old.journal.entries
    → next ≡ count + length old.journal.entries → IsReopened old new → IsBehind o more next new
behind_more o past more count next old new behind own more_is next_is done =
    let xs = old.journal.entries in
    let size = behind.count_is in
    let fits = behind.fits in
    let none = ap length done.empty in
    subst (λ ys. IsBehind o ys next new) (sym more_is)
    (record {
      leads = leads_on o past old.journal.opening behind.leads xs new.journal.opening done.opening;
      replay = is_replay_behind o past old.journal.opening behind.leads xs behind.replay own;
      count_is = omega (arith, next_is, size, length-append past xs);
      capacity = done.capacity ∙ behind.capacity;
      fits = omega (arith, next_is, fits, none);
    })

-- nothing was there to forget
pub behind_still : (o : PlainHost) (past : List PlainEntry) (count : ℕ) (r : Recording) → r.journal.entries ≡ []
    → IsReopened r r
behind_still o past count r empty = record {
  opening = subst (λ xs. LeadsTo r.journal.opening xs r.journal.opening) (sym empty) (leads_nowhere r.journal.opening);
  empty = empty;
  reserved = refl;
  capacity = refl;
}

-- events are recorded after the past
pub behind_recorded : (o : PlainHost) (past : List PlainEntry) (count : ℕ) (mid new : Recording) (es : List HostEvent)
    → IsBehind o past count mid → mid.journal.entries ≡ [] → Records mid es new → count + length es ≤ most_replayed
    → IsBehind o past count new
behind_recorded o past count mid new es behind empty done few =
    let none = ap length empty in
    let size = longer mid new es done in
    record {
      leads = subst (LeadsTo o past) (sym done.opening) behind.leads;
      replay = behind.replay;
      count_is = behind.count_is;
      capacity = done.capacity ∙ behind.capacity;
      fits = omega (arith, few, none, size);
    }

-- the host of a recorder that keeps nothing is the one that the whole past leads to
pub same_host : (o : PlainHost) (past more : List PlainEntry) (count : ℕ) (old new : Recording) → IsBehind o more count new
    → new.journal.entries ≡ [] → more ≡ past ++ old.journal.entries → host_now new ≡ host_now (replayed_of o past old)
same_host o past more count old new behind empty more_is =
    ap (replay new.journal.opening) empty ∙ behind.leads.there ∙ ap (replay o) more_is

-- what is recorded then
pub recorded_behind : (o : PlainHost) (past more : List PlainEntry) (old mid new : Recording) (es : List HostEvent)
    → more ≡ past ++ old.journal.entries → mid.journal.entries ≡ [] → Records mid es new
    → Records (replayed_of o past old) es (replayed_of o more new)
recorded_behind o past more old mid new es more_is empty done = record {
  opening = refl;
  events = ap (λ xs. events_in (xs ++ new.journal.entries)) more_is
      ∙ map-append (λ x. x.event) (past ++ old.journal.entries) new.journal.entries
      ∙ ap (λ l. events_in (past ++ old.journal.entries) ++ l)
      (done.events ∙ ap (λ xs. events_in xs ++ es) empty);
  capacity = refl;
}

-- where nothing is kept, all entries are past
pub all_past : (o : PlainHost) (past : List PlainEntry) (r : Recording) → r.journal.entries ≡ []
    → (replayed_of o past r).journal.entries ≡ past
all_past o past r none = ap (λ xs. past ++ xs) none ∙ append-nil past
