-- An order is a run of the protocol.
use Rattle.std.proofs.Common.{◌≡◌, ◌∙◌, ℕ, zero, suc, ◌<◌, ◌==◌, Bool, true, false, nat_lt, if◌then◌else◌, List, [], ◌∷◌, ◌++◌, map, Option, Some, None, refl, sym, ap, subst, append-nil}
use Rattle.std.specs.Prelude.{slice_get}
use Rattle.std.proofs.lemmas.Bool.{eqb-true, lt-ltb}
use Rattle.std.proofs.lemmas.Option.{same_Some}
use Rattle.rvm_host.specs.Hosts.{host_of, new_host}
use Rattle.rvm_host.specs.Spelled.{AreSpelled, IsSpelled}
use Rattle.rvm_board.specs.Guest.{Guest, GuestState}
use Rattle.rvm_guest.proofs.TheGuest.{board_laws}
use Rattle.rvm_guest.specs.TheGuest.{board}
use Rattle.rvm_guest.specs.Valid.{is_valid}
use Rattle.rvm_recorder.specs.Entries.{PlainEntry}
use Rattle.rvm_recorder.specs.Replay.{IsAnswered, LawHost, Outcome, outcome_at}
use Rattle.rvm_message.specs.declared.event.Command.{Command}
use Rattle.rvm_message.specs.declared.event.HostEvent.{HostEvent}
use Rattle.rvm_message.specs.Events.{BoardHostEvent, command_of, event_of}
use Rattle.rvm_protocol.specs.Commands as protocol
use Rattle.rvm_protocol.specs.Course.{RunsNeverMove, RunsTellTheirPast}
use Rattle.rvm_protocol.specs.Frames.{Addressed}
use Rattle.rvm_protocol.specs.Host.{host_step, is_there}
use Rattle.rvm_protocol.specs.Pages.{put}
use Rattle.rvm_protocol.specs.World.{and_sent, entry_of, frame_for, happened, history, meaning, new_world, result_at, run}
use Rattle.rvm_protocol.specs.Modes as modes
use Rattle.rvm_protocol.proofs.Course.{course_law, past_law}
use Rattle.rvm_core.specs.declared.event.Event.{Event}
use Rattle.rvm_core.specs.declared.event.Event.TheVariants.{At, Deliver}
use Rattle.rvm_core.specs.Worlds.{BoardWorld, meant}
use Rattle.rvm_host.proofs.Moves.{Keeps}
use Rattle.rvm_audit.proofs.Moves.{goes_there, keeps_on}
use Rattle.rvm_audit.specs.Hosts.{HasBytes, HostEntry, Hosts, IsEvent, IsRun, Made, Makes, Openings, after, after_all, made_more, opened, outcome_in}
use Rattle.rvm_audit.specs.Orders.{IsInterleaving, IsOrder, Journals}
use Rattle.rvm_audit.specs.Worlds.{AreNew, IsWorldRun, seen}
use Rattle.rvm_audit.proofs.Heard.{goes_to, heard}
use Rattle.rvm_audit.proofs.Runs.{interleaved}

-- THE GUEST

pub allowed : (g : Guest) → is_valid g ≡ true → board.valid g ≡ true
unfolding board
allowed g valid = valid

-- FRAMES

abbrev pub Posted : Type 0
Posted = Addressed (List ℕ) (List ℕ)

-- the bytes that a host made, and the frame of the protocol
pub record IsSame (version count : ℕ) (m : Made) (s : Posted) : Type 0 where
  pub from : s.from ≡ m.0
  pub there : is_there m.0 count s.to ≡ true
  pub spelled : IsSpelled version s m.1

abbrev pub AllSame : (version count : ℕ) → List Made → List Posted → Type 0
AllSame version count [] [] = Unit {0}
AllSame version count [] (s ∷ ss) = ⊥
AllSame version count (m ∷ ms) [] = ⊥
AllSame version count (m ∷ ms) (s ∷ ss) = IsSame version count m s × AllSame version count ms ss

-- a frame that was made is of this host, and goes to another one
abbrev pub Goes : (x count : ℕ) → Option Posted → Type 0
Goes x count None = Unit {0}
Goes x count (Some s) = (s.from ≡ x) × (is_there x count s.to ≡ true)

module _ (version count : ℕ) where
  same_at : (ms : List Made) (ss : List Posted) (k : ℕ) (m : Made) → AllSame version count ms ss
      → slice_get ms k ≡ Some m → (s : Posted) × (slice_get ss k ≡ Some s) × IsSame version count m s
  same_at [] ss k m all at = cc
  same_at (n ∷ ms) [] k m all at = absurd all
  same_at (n ∷ ms) (s ∷ ss) zero m all at = (s, refl, subst (λ y. IsSame version count y s) (same_Some n m at) all.0)
  same_at (n ∷ ms) (s ∷ ss) (suc k) m all at = same_at ms ss k m all.1 at

  same_snoc : (ms : List Made) (ss : List Posted) (m : Made) (s : Posted) → AllSame version count ms ss
      → IsSame version count m s → AllSame version count (ms ++ m ∷ []) (ss ++ s ∷ [])
  same_snoc [] [] m s all is = (is, tt)
  same_snoc [] (t ∷ ss) m s all is = absurd all
  same_snoc (n ∷ ms) [] m s all is = absurd all
  same_snoc (n ∷ ms) (t ∷ ss) m s all is = (all.0, same_snoc ms ss m s all.1 is)

  sent_next : (x : ℕ) (ms : List Made) (ss : List Posted) (made : Option Posted) (frame : Option (List ℕ))
      → AllSame version count ms ss → AreSpelled version made frame → Goes x count made
      → AllSame version count (ms ++ made_more x frame) (and_sent ss made)
  sent_next x ms ss None None all is goes = subst (λ ns. AllSame version count ns ss) (sym (append-nil ms)) all
  sent_next x ms ss (Some s) (Some bytes) all is goes =
      same_snoc ms ss (x, bytes) s all (record { from = goes.0; there = goes.1; spelled = is })
  sent_next x ms ss None (Some bytes) all is goes = absurd is
  sent_next x ms ss (Some s) None all is goes = absurd is

-- a host before any move
first_host : (b : Bool) (g : GuestState) (x count limit version : ℕ)
    → host_of (new_host (if b then Some g else None) x count limit version)
    ≡ record { mode = if b then modes.Run 0 g.guest else modes.Empty 0; partner = x }
first_host true g x count limit version = refl
first_host false g x count limit version = refl

module _ (version origin : ℕ) (g : GuestState) (limits : ℕ → ℕ) (o : Openings)
    (are : AreNew version origin g limits o) where
  abbrev pub world : (ℕ → LawHost) → List Posted → BoardWorld
  world hosts sent = record { version = version; count = o.count; limits = limits; hosts = hosts; sent = sent }

  -- what an event does at a host, by the numbers of its world
  numbered : (w : Hosts) (x : ℕ) → x < o.count → (e : BoardHostEvent)
      → host_step board version x o.count (limits x) e (w.host x) ≡ outcome_at (o.host x) (w.host x) e
  numbered w x lt e =
      ap (λ h. host_step board h.version h.id h.count h.limit e (w.host x)) (sym (are.each x lt))

  version_is : (x : ℕ) → x < o.count → (o.host x).version ≡ version
  version_is x lt = ap (λ h. h.version) (are.each x lt)

  -- the hosts in a world of the protocol
  pub record Linked (w : Hosts) (hosts : ℕ → LawHost) (sent : List Posted) : Type 0 where
    pub there : (x : ℕ) → x < o.count → hosts x ≡ w.host x
    pub same : AllSame version o.count w.made sent
    pub keeps : (x : ℕ) → x < o.count → Keeps x o.count (w.host x).partner (w.host x).mode

  -- a command at a host
  abbrev at_host : Command → ℕ → Option (ℕ × BoardHostEvent)
  at_host c n = if nat_lt n o.count then Some (n, protocol.Do (command_of c)) else None

  module _ (w : Hosts) (hosts : ℕ → LawHost) (sent : List Posted) (so : Linked w hosts sent) where
    -- an event of the world means the entry
    means : (e : Event) (x : ℕ) (v : HostEvent) → x < o.count → IsEvent o w e x v
        → meaning board (world hosts sent) (meant e) ≡ Some (x, event_of v)
    means (At h c) x v lt is =
        ap (at_host c) is.0
        ∙ ap (λ (b : Bool). if b then Some (x, protocol.Do (command_of c)) else None) (lt-ltb x o.count lt)
        ∙ ap (λ (y : HostEvent). Some (x, event_of y)) (sym is.1)
    means (Deliver k) x v lt is =
        let at = same_at version o.count w.made sent k (is.from, is.bytes) so.same is.stands in
        let s = at.0 in
        let bytes = subst (λ n. HasBytes n is.from x is.frame is.bytes) (version_is x lt) is.same in
        let frame_is = heard version is.from x is.frame is.bytes s at.2.spelled bytes in
        let to_is =
        goes_to version o.count x is.from is.frame is.bytes s are.spoken lt is.other at.2.there at.2.spelled bytes
        in
        ap (frame_for board) at.1 ∙ (λ j. Some (to_is j, protocol.Came (at.2.from j) (frame_is j)))
        ∙ ap (λ (y : HostEvent). Some (x, event_of y)) (sym is.event)

    pub result_is : (x : ℕ) → x < o.count → (v : HostEvent)
        → result_at board (world hosts sent) x (event_of v) ≡ outcome_in o w x v
    result_is x lt v =
        ap (λ (h : LawHost). host_step board version x o.count (limits x) (event_of v) h) (so.there x lt)
        ∙ numbered w x lt (event_of v)

    -- the hosts and the world after one more event
    linked_next : (x : ℕ) (n : PlainEntry) → x < o.count → IsAnswered version (outcome_in o w x n.event) n
        → Linked (after o w x n) (put hosts x (outcome_in o w x n.event).next)
        (and_sent sent (outcome_in o w x n.event).made)
    linked_next x n lt is =
        let q = outcome_in o w x n.event in
        let goes : Goes x o.count q.made =
        subst (λ (r : Outcome). Goes x o.count r.made) (numbered w x lt (event_of n.event))
        (goes_there version x o.count (limits x) (w.host x) (so.keeps x lt) (event_of n.event))
        in
        let kept : Keeps x o.count q.next.partner q.next.mode =
        subst (λ (r : Outcome). Keeps x o.count r.next.partner r.next.mode) (numbered w x lt (event_of n.event))
        (keeps_on version x o.count (limits x) (w.host x) (so.keeps x lt) (event_of n.event))
        in
        record {
          there = λ y y_lt. ap (λ (h : LawHost). if y == x then q.next else h) (so.there y y_lt);
          same = sent_next version o.count x w.made sent q.made n.frame so.same is.frame goes;
          keeps = λ y y_lt. still y (y == x) (eqb-true y x) kept (so.keeps y y_lt);
        }
      where
        still : (y : ℕ) (b : Bool) → (b ≡ true → y ≡ x)
            → Keeps x o.count (outcome_in o w x n.event).next.partner (outcome_in o w x n.event).next.mode
            → Keeps y o.count (w.host y).partner (w.host y).mode
            → (let h : LawHost = if b then (outcome_in o w x n.event).next else w.host y in
            Keeps y o.count h.partner h.mode)
        still y true same new old =
            subst (λ z. Keeps z o.count (outcome_in o w x n.event).next.partner (outcome_in o w x n.event).next.mode)
            (sym (same refl)) new
        still y false same new old = old

  -- a run of the hosts is one of the protocol
  pub record Runs (w : Hosts) (u : BoardWorld) (es : List Event) (ss : List HostEntry) : Type 0 where
    pub seen_so : history board u (map meant es) ≡ map seen ss
    pub there : (x : ℕ) → x < o.count → (run board u (map meant es)).hosts x ≡ (after_all o w ss).host x

  -- one step of both
  pub record GoesOn (w : Hosts) (hosts : ℕ → LawHost) (sent : List Posted) (e : Event) (x : ℕ) (n : PlainEntry)
      : Type 0 where
    pub next : happened board (world hosts sent) (meaning board (world hosts sent) (meant e))
        ≡ world (put hosts x (outcome_in o w x n.event).next) (and_sent sent (outcome_in o w x n.event).made)
    pub seen_is : entry_of board (world hosts sent) (meaning board (world hosts sent) (meant e)) ≡ seen (x, n) ∷ []
    pub linked : Linked (after o w x n) (put hosts x (outcome_in o w x n.event).next)
        (and_sent sent (outcome_in o w x n.event).made)

  pub goes_on : (w : Hosts) (hosts : ℕ → LawHost) (sent : List Posted) → Linked w hosts sent
      → (e : Event) (x : ℕ) (n : PlainEntry) → Makes o w e x n → GoesOn w hosts sent e x n
  goes_on w hosts sent so e x n makes =
      let u = world hosts sent in
      let v = event_of n.event in
      let is : IsAnswered version (outcome_in o w x n.event) n =
      subst (λ k. IsAnswered k (outcome_in o w x n.event) n) (version_is x makes.there) makes.answer
      in
      let q = outcome_in o w x n.event in
      let m = means w hosts sent so e x n.event makes.there makes.event in
      let q_is : result_at board u x v ≡ q = result_is w hosts sent so x makes.there n.event in
      record {
        next =
            ap (happened board u) m
            ∙ ap (λ (r : Outcome). world (put hosts x r.next) (and_sent sent r.made)) q_is;
        seen_is =
            ap (entry_of board u) m ∙ ap (λ (r : Outcome). record { host = x; event = v; reply = r.reply } ∷ []) q_is
            ∙ ap (λ r. record { host = x; event = v; reply = r } ∷ []) (sym is.reply);
        linked = linked_next w hosts sent so x n makes.there is;
      }

  pub runs : (es : List Event) (ss : List HostEntry) (w : Hosts) (hosts : ℕ → LawHost) (sent : List Posted)
      → Linked w hosts sent → IsRun o w es ss → Runs w (world hosts sent) es ss
  unfolding history run
  runs [] [] w hosts sent so r = record { seen_so = refl; there = so.there }
  runs [] (s ∷ ss) w hosts sent so r = absurd r
  runs (e ∷ es) [] w hosts sent so r = absurd r
  runs (e ∷ es) ((x, n) ∷ ss) w hosts sent so r =
      let q = outcome_in o w x n.event in
      let rest = map meant es in
      let one = goes_on w hosts sent so e x n r.0 in
      let t = runs es ss (after o w x n) (put hosts x q.next) (and_sent sent q.made) one.linked r.1 in
      record {
        seen_so =
            (λ j. one.seen_is j ++ history board (one.next j) rest) ∙ ap (λ es. seen (x, n) ∷ es) t.seen_so;
        there = λ y lt. ap (λ z. (run board z rest).hosts y) one.next ∙ t.there y lt;
      }

  abbrev pub new : BoardWorld
  new = new_world board version origin g.guest o.count limits

  at_first : (b : Bool) (x : ℕ)
      → (let h = host_of (new_host (if b then Some g else None) x o.count (limits x) version) in
      Keeps x o.count h.partner h.mode)
  at_first true x = tt
  at_first false x = tt

  pub begins : Linked (opened o) new.hosts []
  begins = record {
    there = λ x lt.
        sym (ap host_of (are.each x lt) ∙ first_host (x == origin) g x o.count (limits x) version);
    same = tt;
    keeps = λ x lt.
        subst (λ h. Keeps x o.count (host_of h).partner (host_of h).mode) (sym (are.each x lt))
        (at_first (x == origin) x);
  }

-- an order is a run of the world, in its own sequence
pub own_run : (version origin : ℕ) (g : GuestState) (limits : ℕ → ℕ) (j : Journals) (events : List Event)
    → is_valid g.guest ≡ true → AreNew version origin g limits j.openings → (o : IsOrder j events)
    → (r : IsWorldRun (new_world board version origin g.guest j.openings.count limits) origin g.guest j events)
    × (r.sequence ≡ o.sequence)
unfolding RunsNeverMove RunsTellTheirPast
own_run version origin g limits j events valid are o =
    let u = new version origin g limits j.openings are in
    let begun = begins version origin g limits j.openings are in
    let t = runs version origin g limits j.openings are events o.sequence (opened j.openings) u.hosts [] begun o.run in (
      record {
        sequence = o.sequence;
        entries = o.entries;
        seen_are = t.seen_so;
        ends = λ x lt. t.there x lt ∙ o.ends x lt;
        never_moved = course_law board board_laws g.guest version origin j.openings.count limits (map meant events)
            (allowed g.guest valid);
        past = past_law board board_laws g.guest version origin j.openings.count limits (map meant events)
            (allowed g.guest valid);
      },
      refl,
    )

pub is_world_run : (version origin : ℕ) (g : GuestState) (limits : ℕ → ℕ) (j : Journals) (events : List Event)
    → is_valid g.guest ≡ true → AreNew version origin g limits j.openings → IsOrder j events
    → IsWorldRun (new_world board version origin g.guest j.openings.count limits) origin g.guest j events
is_world_run version origin g limits j events valid are o = (own_run version origin g limits j events valid are o).0

-- an interleaving is a run of the world, in its own sequence
pub interleaved_run : (version origin : ℕ) (g : GuestState) (limits : ℕ → ℕ) (j : Journals) (sequence : List HostEntry)
    → is_valid g.guest ≡ true → AreNew version origin g limits j.openings → IsInterleaving j sequence
    → (events : List Event)
    × (r : IsWorldRun (new_world board version origin g.guest j.openings.count limits) origin g.guest j events)
    × (r.sequence ≡ sequence)
interleaved_run version origin g limits j sequence valid are is =
    let o = interleaved j sequence is in
    let r = own_run version origin g limits j o.0 valid are o.1 in
    (o.0, r.0, r.1 ∙ o.2)
