-- An interleaving is an order.
use Rattle.std.proofs.Common.{◌≡◌, ◌∙◌, ℕ, ◌<◌, ◌==◌, Bool, true, false, if◌then◌else◌, List, [], ◌∷◌, refl, sym, ap, subst}
use Rattle.std.proofs.lemmas.Bool.{eq-eqb, eqb-true}
use Rattle.rvm_host.specs.Hosts.{host_of}
use Rattle.rvm_recorder.specs.Entries.{PlainEntry}
use Rattle.rvm_recorder.specs.Replay.{IsReplayFrom, replay, replay_from}
use Rattle.rvm_message.specs.declared.event.HostEvent.{HostEvent}
use Rattle.rvm_message.specs.declared.event.HostEvent.TheVariants.{Do, Came}
use Rattle.rvm_core.specs.declared.event.Event.{Event}
use Rattle.rvm_core.specs.declared.event.Event.TheVariants.{At, Deliver}
use Rattle.rvm_audit.specs.Hosts.{AllFollow, CameMade, HostEntry, Hosts, IsEvent, IsRun, Openings, after, after_all, cons_if, entries_at, opened, outcome_in}
use Rattle.rvm_audit.specs.Orders.{IsInterleaving, IsOrder, Journals}

module _ (o : Openings) where
  -- one entry of host y, seen from host x
  one_entry : (w : Hosts) (x y : ℕ) (n : PlainEntry) (es : List PlainEntry) (b : Bool) → (b ≡ true → x ≡ y)
      → replay_from (o.host x) (if b then (outcome_in o w y n.event).next else w.host x) es
      ≡ replay_from (o.host x) (w.host x) (cons_if b n es)
  one_entry w x y n es true is = ap (λ z. replay_from (o.host x) (outcome_in o w z n.event).next es) (sym (is refl))
  one_entry w x y n es false is = refl

  -- each host is where its entries lead
  pub host_after : (x : ℕ) (w : Hosts) (ss : List HostEntry)
      → (after_all o w ss).host x ≡ replay_from (o.host x) (w.host x) (entries_at x ss)
  host_after x w [] = refl
  host_after x w ((y, n) ∷ ss) =
      host_after x (after o w y n) ss ∙ one_entry w x y n (entries_at x ss) (x == y) (eqb-true x y)

  -- the replies to a host's entries after one of them
  replay_next : (w : Hosts) (x y : ℕ) (n : PlainEntry) (es : List PlainEntry) (b : Bool) → (b ≡ true → x ≡ y)
      → IsReplayFrom (o.host x) (w.host x) (cons_if b n es)
      → IsReplayFrom (o.host x) (if b then (outcome_in o w y n.event).next else w.host x) es
  replay_next w x y n es true is r =
      subst (λ z. IsReplayFrom (o.host x) (outcome_in o w z n.event).next es) (is refl) r.1
  replay_next w x y n es false is r = r

  -- the event of the world that a host's event is, whose frame was made
  pub event_made : (w : Hosts) (x : ℕ) (u v : HostEvent) → u ≡ v → CameMade o w.made x v
      → (e : Event) × IsEvent o w e x u
  event_made w x u (Do c) is was = (At x c, (refl, is))
  event_made w x u (Came from f) is was = (
    Deliver was.place,
    record {
      from = from;
      frame = f;
      bytes = was.bytes;
      event = is;
      other = was.other;
      stands = was.stands;
      same = was.same;
    },
  )

  run_made : (ss : List HostEntry) (w : Hosts) → AllFollow o w.made ss
      → ((x : ℕ) → x < o.count → IsReplayFrom (o.host x) (w.host x) (entries_at x ss))
      → (es : List Event) × IsRun o w es ss
  run_made [] w all replays = ([], tt)
  run_made ((x, n) ∷ ss) w all replays =
      let first = all.0 in
      let e = event_made w x n.event n.event refl first.came in
      let own =
      subst (λ b. IsReplayFrom (o.host x) (w.host x) (cons_if b n (entries_at x ss))) (eq-eqb x x refl)
      (replays x first.there)
      in
      let rest =
      run_made ss (after o w x n) all.1
      (λ y lt. replay_next w y x n (entries_at y ss) (y == x) (eqb-true y x) (replays y lt))
      in (
        e.0 ∷ rest.0,
        (record { there = first.there; event = e.1; answer = own.0 }, rest.1),
      )

-- a run that has the entries of the journals ends where their replays end
pub ends_of : (j : Journals) (ss : List HostEntry) → ((x : ℕ) → x < j.openings.count → entries_at x ss ≡ j.entries x)
    → (x : ℕ) → x < j.openings.count
    → (after_all j.openings (opened j.openings) ss).host x ≡ replay (j.openings.host x) (j.entries x)
ends_of j ss same x lt =
    host_after j.openings x (opened j.openings) ss
    ∙ ap (replay_from (j.openings.host x) (host_of (j.openings.host x))) (same x lt)

-- an interleaving is an order, in its own sequence
pub interleaved : (j : Journals) (ss : List HostEntry) → IsInterleaving j ss
    → (es : List Event) × (r : IsOrder j es) × (r.sequence ≡ ss)
interleaved j ss is =
    let o = j.openings in
    let run =
    run_made o ss (opened o) is.follow
    (λ x lt. subst (λ xs. IsReplayFrom (o.host x) (host_of (o.host x)) xs) (sym (is.entries x lt)) (is.replays x lt))
    in (
      run.0,
      record {
        sequence = ss;
        run = run.1;
        entries = is.entries;
        ends = ends_of j ss is.entries;
      },
      refl,
    )
