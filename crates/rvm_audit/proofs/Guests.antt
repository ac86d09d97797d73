-- The accepted events are the same in every order of the journals of a new world.
use Rattle.std.proofs.Common.{◌≡◌, ◌≢◌, ◌∙◌, ℕ, ◌<◌, Bool, true, false, ◌&&◌, if◌then◌else◌, List, [], ◌∷◌, ◌++◌, map, drop, take-append-drop, Some, None, refl, sym, ap}
use Rattle.std.proofs.lemmas.Bool.{lt-ltb}
use Rattle.rvm_board.specs.Guest.{GuestState}
use Rattle.rvm_board.specs.declared.event.BoardEvent.{BoardEvent}
use Rattle.rvm_board.specs.declared.event.BoardReply.{BoardReply}
use Rattle.rvm_guest.proofs.TheGuest.{board_laws}
use Rattle.rvm_guest.specs.TheGuest.{board}
use Rattle.rvm_guest.specs.Valid.{is_valid}
use Rattle.rvm_recorder.specs.Entries.{PlainEntry}
use Rattle.rvm_recorder.specs.History.{is_board}
use Rattle.rvm_recorder.specs.Replay.{LawHost}
use Rattle.rvm_message.specs.declared.event.Command.TheVariants as command
use Rattle.rvm_message.specs.declared.event.HostEvent.{HostEvent}
use Rattle.rvm_message.specs.declared.event.HostEvent.TheVariants.{Do, Came}
use Rattle.rvm_message.specs.Events.{event_of}
use Rattle.rvm_message.specs.Replies.{reply_of}
use Rattle.rvm_protocol.specs.Commands as protocol
use Rattle.rvm_protocol.specs.NeverMoving.{accepted, accepted_here, answered, answered_here, is_answer}
use Rattle.rvm_protocol.specs.OneGuest.{AlwaysOneGuest}
use Rattle.rvm_protocol.specs.Pages.{put}
use Rattle.rvm_protocol.specs.Replies.{Answered, BadHost, Refused, Reply}
use Rattle.rvm_protocol.specs.World.{and_sent, happened, history, meaning, new_world, reply_or, reply_to, run, step}
use Rattle.rvm_protocol.specs.World as law
use Rattle.rvm_protocol.proofs.OneGuestHolds.{the_law}
use Rattle.rvm_core.specs.declared.event.Event.{Event}
use Rattle.rvm_core.specs.Worlds.{BoardWorld, meant}
use Rattle.rvm_audit.specs.Hosts.{HostEntry, Hosts, Makes, Openings, after, cons_if, entries_at, opened, outcome_in}
use Rattle.rvm_audit.specs.Orders.{IsOrder, Journals, cut}
use Rattle.rvm_audit.specs.Worlds.{AreNew, AreOneHistory, accepted_entries, is_accepted, seen}
use Rattle.rvm_audit.proofs.Law.{Linked, Posted, allowed, begins, goes_on, new, result_is, runs, world}
use Rattle.rvm_audit.proofs.Runs.{event_made}
use Rattle.rvm_audit.proofs.Same.{CanRun, CanStep, begins_alike, can_run, same_accepted}
use Rattle.rvm_audit.proofs.Steps.{and_both}

-- the guest's event that an entry is
board_event : (v : HostEvent) → is_board v ≡ true → (e : BoardEvent) × (v ≡ Do (command.Board e))
board_event (Do (command.Board e)) is = (e, refl)
board_event (Do (command.Begin to p)) is = absurd cc
board_event (Do command.Copy) is = absurd cc
board_event (Do command.Resend) is = absurd cc
board_event (Do command.Abort) is = absurd cc
board_event (Came from f) is = absurd cc

run_more : (w : BoardWorld) (es : List (law.Event BoardEvent)) (e : law.Event BoardEvent)
    → run board w (es ++ e ∷ []) ≡ step board (run board w es) e
unfolding run
run_more w [] e = refl
run_more w (d ∷ es) e = run_more (step board w d) es e

module _ (version origin : ℕ) (g : GuestState) (limits : ℕ → ℕ) (o : Openings) (are : AreNew version origin g limits o)
    (valid : is_valid g.guest ≡ true) where
  abbrev at_new : BoardWorld
  at_new = new version origin g limits o are

  abbrev in_world : (ℕ → LawHost) → List Posted → BoardWorld
  in_world hosts sent = world version origin g limits o are hosts sent

  -- some events of the protocol lead there
  record IsReached (w : Hosts) : Type 0 where
    events : List (law.Event BoardEvent)
    hosts : ℕ → LawHost
    sent : List Posted
    linked : Linked version origin g limits o are w hosts sent
    is : in_world hosts sent ≡ run board at_new events

  goes : (w : Hosts) (x : ℕ) (n : PlainEntry) → IsReached w → CanStep o w x n → IsReached (after o w x n)
  goes w x n r can =
      let e = event_made o w x n.event n.event refl can.came in
      let makes : Makes o w e.0 x n = record { there = can.there; event = e.1; answer = can.answer } in
      let one = goes_on version origin g limits o are w r.hosts r.sent r.linked e.0 x n makes in
      let q = outcome_in o w x n.event in
      record {
        events = r.events ++ meant e.0 ∷ [];
        hosts = put r.hosts x q.next;
        sent = and_sent r.sent q.made;
        linked = one.linked;
        is =
            sym one.next ∙ ap (λ (u : BoardWorld). step board u (meant e.0)) r.is
            ∙ sym (run_more at_new r.events (meant e.0));
      }

  -- what an answered entry says of the protocol's reply
  answered_there : (w : Hosts) (x : ℕ) (n : PlainEntry) (r : IsReached w) → CanStep o w x n → (e : BoardEvent)
      → n.event ≡ Do (command.Board e) → is_answer (reply_of n.reply) ≡ true
      → is_answer (reply_to board (run board at_new r.events) (law.At x (protocol.Board e))) ≡ true
  answered_there w x n r can e is answer =
      ap (λ (u : BoardWorld). is_answer (reply_to board u (law.At x (protocol.Board e)))) (sym r.is)
      ∙ ap (λ (b : Bool). is_answer (reply_or board (in_world r.hosts r.sent) (Refused BadHost)
      (if b then Some (x, protocol.Do (protocol.Board e)) else None))) (lt-ltb x o.count can.there)
      ∙ ap (λ z. is_answer z.reply)
      (result_is version origin g limits o are w r.hosts r.sent r.linked x can.there (Do (command.Board e)))
      ∙ ap (λ (v : HostEvent). is_answer (outcome_in o w x v).reply) (sym is)
      ∙ ap is_answer (sym can.answer.reply) ∙ answer

  one : (w : Hosts) (x y : ℕ) (n m : PlainEntry) → IsReached w → x ≢ y → CanStep o w x n → CanStep o w y m
      → is_accepted n ≡ true → is_accepted m ≡ true → ⊥
  unfolding AlwaysOneGuest
  one w x y n m r ne can_n can_m is_n is_m =
      let p = and_both _ _ is_n in
      let q = and_both _ _ is_m in
      let e = board_event n.event p.0 in
      let f = board_event m.event q.0 in
      let here = answered_there w x n r can_n e.0 e.1 p.1 in
      let there = answered_there w y m r can_m f.0 f.1 q.1 in
      let law_of = the_law board board_laws g.guest version origin o.count limits r.events (allowed g.guest valid) in
      let never = law_of.one_host x y e.0 f.0 ne in
      both_not _ _ here there never
    where
      both_not : (a b : Bool) → a ≡ true → b ≡ true → (a && b) ≡ false → ⊥
      both_not true true ha hb nay = cc
      both_not true false ha hb nay = cc
      both_not false b ha hb nay = cc

  at_first : IsReached (opened o)
  unfolding run
  at_first = record {
    events = [];
    hosts = at_new.hosts;
    sent = [];
    linked = begins version origin g limits o are;
    is = refl;
  }

  pub one_history : (ss ts : List HostEntry) → CanRun o (opened o) ss → CanRun o (opened o) ts
      → ((z : ℕ) → z < o.count → entries_at z ss ≡ entries_at z ts) → accepted_entries ss ≡ accepted_entries ts
  one_history ss ts can_s can_t same =
      same_accepted o IsReached goes one ss ts (opened o) at_first can_s can_t same

pub every_order : (version origin : ℕ) (g : GuestState) (limits : ℕ → ℕ) (j : Journals) (es fs : List Event)
    → is_valid g.guest ≡ true → AreNew version origin g limits j.openings → (a : IsOrder j es) → (b : IsOrder j fs)
    → accepted_entries a.sequence ≡ accepted_entries b.sequence
every_order version origin g limits j es fs valid are a b =
    one_history version origin g limits j.openings are valid a.sequence b.sequence
    (can_run j.openings es a.sequence (opened j.openings) a.run)
    (can_run j.openings fs b.sequence (opened j.openings) b.run)
    (λ z lt. a.entries z lt ∙ sym (b.entries z lt))

-- what was cut off comes after what is left
pub every_cut : (version origin : ℕ) (g : GuestState) (limits : ℕ → ℕ) (j : Journals) (q : ℕ → ℕ) (es fs : List Event)
    → is_valid g.guest ≡ true → AreNew version origin g limits j.openings → (a : IsOrder (cut q j) es) → (b : IsOrder j fs)
    → (rest : List HostEntry) × (accepted_entries b.sequence ≡ accepted_entries a.sequence ++ rest)
every_cut version origin g limits j q es fs valid are a b =
    begins_alike j.openings (IsReached version origin g limits j.openings are valid)
    (goes version origin g limits j.openings are valid)
    (one version origin g limits j.openings are valid) a.sequence b.sequence (opened j.openings)
    (at_first version origin g limits j.openings are valid) (can_run j.openings es a.sequence (opened j.openings) a.run)
    (can_run j.openings fs b.sequence (opened j.openings) b.run)
    (λ z lt. (
      drop (q z) (j.entries z),
      b.entries z lt ∙ sym (take-append-drop (q z) (j.entries z))
          ∙ ap (λ xs. xs ++ drop (q z) (j.entries z)) (sym (a.entries z lt)),
    ))

-- IN THE WORLD

not_accepted : (v : HostEvent) (r : Reply BoardReply) → (is_board v && is_answer r) ≡ false
    → (accepted_here (event_of v) r ≡ []) × (answered_here (event_of v) r ≡ [])
not_accepted (Do (command.Board e)) (Answered a) is = absurd cc
not_accepted (Do (command.Board e)) r is = (refl, refl)
not_accepted (Do (command.Begin to p)) r is = (refl, refl)
not_accepted (Do command.Copy) r is = (refl, refl)
not_accepted (Do command.Resend) r is = (refl, refl)
not_accepted (Do command.Abort) r is = (refl, refl)
not_accepted (Came from f) r is = (refl, refl)

-- the entries that are left out say nothing of the guest
record SameGuest (ss ts : List HostEntry) : Type 0 where
  accepted_so : accepted (map seen ss) ≡ accepted (map seen ts)
  answered_so : answered (map seen ss) ≡ answered (map seen ts)

one_step : (x : ℕ) (n : PlainEntry) (ss ts : List HostEntry) → SameGuest ss ts → (b : Bool) → is_accepted n ≡ b
    → SameGuest ((x, n) ∷ ss) (cons_if b (x, n) ts)
unfolding accepted answered
one_step x n ss ts same true is = record {
  accepted_so = ap (λ es. accepted_here (event_of n.event) (reply_of n.reply) ++ es) same.accepted_so;
  answered_so = ap (λ es. answered_here (event_of n.event) (reply_of n.reply) ++ es) same.answered_so;
}
one_step x n ss ts same false is =
    let none = not_accepted n.event (reply_of n.reply) is in
    record {
      accepted_so = ap (λ es. es ++ accepted (map seen ss)) none.0 ∙ same.accepted_so;
      answered_so = ap (λ es. es ++ answered (map seen ss)) none.1 ∙ same.answered_so;
    }

only_accepted : (ss : List HostEntry) → SameGuest ss (accepted_entries ss)
only_accepted [] = record { accepted_so = refl; answered_so = refl }
only_accepted ((x, n) ∷ ss) = one_step x n ss (accepted_entries ss) (only_accepted ss) (is_accepted n) refl

pub one_guest : (version origin : ℕ) (g : GuestState) (limits : ℕ → ℕ) (j : Journals) (es fs : List Event)
    → is_valid g.guest ≡ true → AreNew version origin g limits j.openings → IsOrder j es → IsOrder j fs
    → AreOneHistory (new_world board version origin g.guest j.openings.count limits) es fs
one_guest version origin g limits j es fs valid are a b =
    let u = new version origin g limits j.openings are in
    let begun = begins version origin g limits j.openings are in
    let s = runs version origin g limits j.openings are es a.sequence (opened j.openings) u.hosts [] begun a.run in
    let t = runs version origin g limits j.openings are fs b.sequence (opened j.openings) u.hosts [] begun b.run in
    let same = every_order version origin g limits j es fs valid are a b in
    let p = only_accepted a.sequence in
    let q = only_accepted b.sequence in
    record {
      events_are =
          ap accepted s.seen_so ∙ p.accepted_so ∙ ap (λ ss. accepted (map seen ss)) same ∙ sym q.accepted_so
          ∙ sym (ap accepted t.seen_so);
      answers_are =
          ap answered s.seen_so ∙ p.answered_so ∙ ap (λ ss. answered (map seen ss)) same ∙ sym q.answered_so
          ∙ sym (ap answered t.seen_so);
    }
