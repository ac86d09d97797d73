-- Each event at a host of a world does what the protocol of live migration says.
use Rattle.std.proofs.Common.{◌≡◌, inl, inr, ℕ, zero, suc, ◌-◌, ◌<◌, ◌≤◌, Bool, true, false, if◌then◌else◌, List, [], ◌∷◌, ◌++◌, map, length, get_or, set, Option, Some, None, Ok, Err, OnErr, refl, sym, ap, ◌∙◌, subst, arith}
use Rattle.std.specs.Prelude.{Result, slice_get}
use Rattle.std.proofs.lemmas.Bool.{cases_eq, cases_lt, eq-eqb, le-ltb, lt-ltb, ne_eqb}
use Rattle.std.proofs.lemmas.List.{get_or-append_right, get_or-set_other, get_or-set_same, get_or_append_left, get_or_default, length-append, length-map, length-set, set-get_or}
use Rattle.std.proofs.Math.Path.{fun_ext}
use Rattle.std.proofs.Math.Seq.{map-set_same}
use Rattle.rvm_board.specs.declared.event.BoardEvent.{BoardEvent}
use Rattle.rvm_board.specs.declared.event.BoardReply.{BoardReply}
use Rattle.rvm_board.specs.Guest.{Guest}
use Rattle.rvm_frame.specs.declared.addressed.Addressed.{Addressed}
use Rattle.rvm_guest.specs.TheGuest.{board}
use Rattle.rvm_message.specs.declared.reply.HostReply.{HostReply}
use Rattle.rvm_message.specs.Events.{BoardHostEvent}
use Rattle.rvm_message.specs.Frames.{BoardFrame, addressed_made}
use Rattle.rvm_message.specs.Replies.{is_refused_outright, reply_of}
use Rattle.rvm_protocol.specs.Commands as commands
use Rattle.rvm_protocol.specs.Commands.{Command, Do, Came}
use Rattle.rvm_protocol.specs.Frames as frames
use Rattle.rvm_protocol.specs.Host.{host_step}
use Rattle.rvm_protocol.specs.Host as protocol
use Rattle.rvm_protocol.specs.Pages.{put}
use Rattle.rvm_protocol.specs.Replies.{Reply, Refused, BadHost, NoFrame}
use Rattle.rvm_protocol.specs.World.{Event, At, Deliver, and_sent, frame_for, happened, meaning, new_world, reply_or, reply_to, result_at, run, step, world_at}
use Rattle.rvm_host.specs.Bounds.{CanBePosted, event_body, frame_bound, with_header}
use Rattle.rvm_host.specs.Hosts.{PlainHost, Steps, host_of, new_host, step_of}
use Rattle.rvm_host.specs.Spelled.{AreSpelled}
use Rattle.rvm_core.specs.Worlds.{BoardWorld, IsHeeded, IsKept, IsReached, IsWorld, Kept, Placed, PlainWorld, asks_memory, current_after, frame_in, host_at, is_sized, kept_of, no_kept, posted, world_of}
use Rattle.rvm_core.proofs.Current.{moves_on}
use Rattle.rvm_core.proofs.Keeping.{kept_made, posted_kept}

-- HOSTS

hosts_put : (xs : List PlainHost) (p : ℕ) (v : PlainHost) → p < length xs
    → (λ q. host_of (host_at (set xs p v) q)) ≡ put (λ q. host_of (host_at xs q)) p (host_of v)
hosts_put xs p v lt =
    fun_ext (λ q. elim (cases_eq q p) [
      | inl e ↦
          rw (eq-eqb q p e) (ap host_of (ap (λ z. get_or (set xs p v) z (new_host None q 0 0 0)) e
          ∙ get_or-set_same xs p v (new_host None q 0 0 0) lt))
      | inr n ↦ rw (ne_eqb q p n) (ap host_of (get_or-set_other xs p q v (new_host None q 0 0 0) n))
    ])

limits_stay : (xs : List PlainHost) (p : ℕ) (v : PlainHost) → p < length xs → v.limit ≡ (host_at xs p).limit
    → ◌≡◌ {A = ℕ → ℕ} (λ q. (host_at (set xs p v) q).limit) (λ q. (host_at xs q).limit)
limits_stay xs p v lt same =
    fun_ext (λ q. elim (cases_eq q p) [
      | inl e ↦
          ap (λ (h : PlainHost). h.limit) (ap (λ z. get_or (set xs p v) z (new_host None q 0 0 0)) e
          ∙ get_or-set_same xs p v (new_host None q 0 0 0) lt)
          ∙ same ∙ ap (λ z. (host_at xs z).limit) (sym e)
      | inr n ↦ ap (λ (h : PlainHost). h.limit) (get_or-set_other xs p q v (new_host None q 0 0 0) n)
    ])

-- ONE EVENT

-- a world with another host at a place, these frames, and the guest at this host
abbrev pub with_host : PlainWorld → ℕ → PlainHost → List Kept → ℕ → PlainWorld
with_host w x h sent current =
    record { version = w.version; hosts = set w.hosts x h; sent = sent; current = current }

-- a world after an event at a host of it
abbrev pub after : PlainWorld → ℕ → Option Addressed → PlainHost → ℕ → PlainWorld
after w x frame h current = with_host w x h (w.sent ++ posted w.version frame) current

-- a reply and a world after it are those of the protocol at a host
pub record Happens (w new : PlainWorld) (x : ℕ) (e : BoardHostEvent) (answer : HostReply) : Type 0 where
  pub replied : reply_of answer ≡ (result_at board (world_of w) x e).reply
  pub turned : world_of new ≡ world_at board (world_of w) x e

-- the result of an event at a host, as the protocol has it
abbrev Answer : Type 0
Answer = protocol.Result Guest (List ℕ) BoardReply (List ℕ)

same_step : (w : PlainWorld) (x : ℕ) (e : BoardHostEvent) → Placed w.version (length w.hosts) x (host_at w.hosts x)
    → step_of (host_at w.hosts x) e ≡ result_at board (world_of w) x e
same_step w x e p =
    let h = host_at w.hosts x in
    λ i. host_step board (p.writes i) (p.named i) (p.counts i) h.limit e (host_of h)

made_here : (w : PlainWorld) (x most : ℕ) (o : Option Addressed) → IsWorld w → x < length w.hosts
    → CanBePosted (host_at w.hosts x) most o
    → map (kept_of w.version) (w.sent ++ posted w.version o)
    ≡ and_sent (map (kept_of w.version) w.sent) (addressed_made o)
made_here w x most o is lt p =
    subst (λ v. map (kept_of v) (w.sent ++ posted v o) ≡ and_sent (map (kept_of v) w.sent) (addressed_made o))
    (is.placed x lt).writes
    (kept_made (host_at w.hosts x) most o w.sent p)

happens : (w : PlainWorld) (x most now : ℕ) (e : BoardHostEvent) (a : HostReply × Option Addressed) (h : PlainHost)
    → IsWorld w → x < length w.hosts → Steps (host_at w.hosts x) e a h → CanBePosted (host_at w.hosts x) most a.1
    → Happens w (after w x a.1 h now) x e a.0
happens w x most now e a h is lt s p =
    let same = same_step w x e (is.placed x lt) in
    let stays : h.limit ≡ (host_at w.hosts x).limit = ap (λ (z : PlainHost). z.limit) s.rest in
    let count = length-set w.hosts x h in
    let limits = limits_stay w.hosts x h lt stays in
    let hosts = hosts_put w.hosts x h lt
    ∙ ap (put (λ q. host_of (host_at w.hosts q)) x) (s.next ∙ ap (λ (r : Answer). r.next) same) in
    let sent = made_here w x most a.1 is lt p
    ∙ ap (and_sent (map (kept_of w.version) w.sent)) (s.made ∙ ap (λ (r : Answer). r.made) same) in
    record {
      replied = s.reply ∙ ap (λ (r : Answer). r.reply) same;
      turned = λ i. record {
        version = w.version;
        count = count i;
        limits = limits i;
        hosts = hosts i;
        sent = sent i;
      };
    }

-- EVENTS OF A WORLD

-- a reply and a world after it are those of the protocol's step
pub record Turned (w new : PlainWorld) (ev : Event BoardEvent) (answer : Reply BoardReply) : Type 0 where
  pub replied : answer ≡ reply_to board (world_of w) ev
  pub turned : world_of new ≡ step board (world_of w) ev

at_there : (w : BoardWorld) (x : ℕ) (c : Command BoardEvent) → x < w.count
    → meaning board w (At x c) ≡ Some (x, Do c)
at_there w x c lt = ap (λ b. if b then Some (x, Do c) else None) (lt-ltb x w.count lt)

at_past : (w : BoardWorld) (x : ℕ) (c : Command BoardEvent) → w.count ≤ x → meaning board w (At x c) ≡ None
at_past w x c le = ap (λ b. if b then Some (x, Do c) else None) (le-ltb x w.count le)

-- a command to a host that is not there is refused
pub at_refused : (w : PlainWorld) (x : ℕ) (c : Command BoardEvent) → length w.hosts ≤ x
    → Turned w w (At x c) (Refused BadHost)
at_refused w x c le =
    let W = world_of w in
    let past = at_past W x c le in
    record {
      replied = ap (reply_or board W (Refused BadHost)) (sym past);
      turned = ap (happened board W) (sym past);
    }

at_turned : (w new : PlainWorld) (x : ℕ) (c : Command BoardEvent) (answer : HostReply)
    → x < length w.hosts → Happens w new x (Do c) answer → Turned w new (At x c) (reply_of answer)
at_turned w new x c answer lt h =
    let W = world_of w in
    let there = at_there W x c lt in
    record {
      replied = h.replied ∙ ap (reply_or board W (Refused BadHost)) (sym there);
      turned = h.turned ∙ ap (happened board W) (sym there);
    }

sent_there : (f : Kept → frames.Addressed (List ℕ) (List ℕ)) (xs : List Kept) (k : ℕ) (d : Kept) → k < length xs
    → slice_get (map f xs) k ≡ Some (f (get_or xs k d))
sent_there f [] k d lt = absurd (omega (arith, lt))
sent_there f (x ∷ xs) zero d lt = refl
sent_there f (x ∷ xs) (suc k) d lt = sent_there f xs k d (omega (arith, lt))

sent_past : (f : Kept → frames.Addressed (List ℕ) (List ℕ)) (xs : List Kept) (k : ℕ) → length xs ≤ k
    → slice_get (map f xs) k ≡ None
sent_past f [] k le = refl
sent_past f (x ∷ xs) zero le = absurd (omega (arith, le))
sent_past f (x ∷ xs) (suc k) le = sent_past f xs k (omega (arith, le))

-- the delivery of a frame that was not sent is refused
pub deliver_refused : (w : PlainWorld) (k : ℕ) → length w.sent ≤ k → Turned w w (Deliver k) (Refused NoFrame)
deliver_refused w k le =
    let W = world_of w in
    let past = ap (frame_for {E = BoardEvent} board) (sent_past (kept_of w.version) w.sent k le) in
    record {
      replied = ap (reply_or board W (Refused NoFrame)) (sym past);
      turned = ap (happened board W) (sym past);
    }

deliver_there : (w : PlainWorld) (k : ℕ) (kept : Kept) (frame : BoardFrame) → k < length w.sent
    → kept ≡ get_or w.sent k kept → frame ≡ frame_in w.version kept.bytes
    → meaning board (world_of w) (Deliver k) ≡ Some (kept.to, Came kept.from frame)
deliver_there w k kept frame lt is reads =
    ap (frame_for {E = BoardEvent} board) (sent_there (kept_of w.version) w.sent k kept lt
    ∙ (λ i. Some (record { from = (sym is i).from; to = (sym is i).to; frame = frame_in w.version (sym is i).bytes }))
    ∙ (λ i. Some (record { from = kept.from; to = kept.to; frame = sym reads i })))

deliver_turned : (w new : PlainWorld) (k : ℕ) (kept : Kept) (frame : BoardFrame) (answer : HostReply)
    → k < length w.sent → kept ≡ get_or w.sent k kept → frame ≡ frame_in w.version kept.bytes
    → Happens w new kept.to (Came kept.from frame) answer → Turned w new (Deliver k) (reply_of answer)
deliver_turned w new k kept frame answer lt is reads h =
    let W = world_of w in
    let there = deliver_there w k kept frame lt is reads in
    record {
      replied = h.replied ∙ ap (reply_or board W (Refused NoFrame)) (sym there);
      turned = h.turned ∙ ap (happened board W) (sym there);
    }

-- WHAT HOLDS OF EACH WORLD

run_more : (w : BoardWorld) (es : List (Event BoardEvent)) (e : Event BoardEvent)
    → run board w (es ++ e ∷ []) ≡ step board (run board w es) e
unfolding run
run_more w [] e = refl
run_more w (x ∷ es) e = run_more (step board w x) es e

same_version : (w : BoardWorld) (o : Option (ℕ × BoardHostEvent)) → (happened board w o).version ≡ w.version
same_version w None = refl
same_version w (Some e) = refl

same_count : (w : BoardWorld) (o : Option (ℕ × BoardHostEvent)) → (happened board w o).count ≡ w.count
same_count w None = refl
same_count w (Some e) = refl

reached_more : (w new : BoardWorld) (e : Event BoardEvent) → new ≡ step board w e → IsReached w → IsReached new
reached_more w new e is r =
    let version = ap (λ (z : BoardWorld). z.version) is ∙ same_version w (meaning board w e) in
    let count = ap (λ (z : BoardWorld). z.count) is ∙ same_count w (meaning board w e) in
    let first = new_world board w.version 0 r.start w.count r.limits in
    let made : new ≡ run board first (r.before ++ e ∷ []) =
    is ∙ ap (λ z. step board z e) r.reached ∙ sym (run_more first r.before e) in
    record {
      start = r.start;
      limits = r.limits;
      before = r.before ++ e ∷ [];
      valid = r.valid;
      reached = made
          ∙ (λ i. run board (new_world board (sym version i) 0 r.start (sym count i) r.limits) (r.before ++ e ∷ []));
    }

placed_still : (w : PlainWorld) (x : ℕ) (h : PlainHost) → IsWorld w → x < length w.hosts
    → h ≡ record (host_at w.hosts x) { mode = h.mode; partner = h.partner } → (y : ℕ) → y < length (set w.hosts x h)
    → Placed w.version (length (set w.hosts x h)) y (host_at (set w.hosts x h) y)
placed_still w x h is lt rest y ly =
    let n = length w.hosts in
    let count = length-set w.hosts x h in
    let p = is.placed x lt in
    let here : Placed w.version n x h = record {
      named = ap (λ (z : PlainHost). z.id) rest ∙ p.named;
      counts = ap (λ (z : PlainHost). z.count) rest ∙ p.counts;
      writes = ap (λ (z : PlainHost). z.version) rest ∙ p.writes;
    } in
    let none = new_host None y 0 0 0 in
    subst (λ z. Placed w.version z y (host_at (set w.hosts x h) y)) (sym count)
    (elim (cases_eq y x) [
      | inl same ↦
          subst (λ z. Placed w.version n z (get_or (set w.hosts x h) z none)) (sym same)
          (subst (λ z. Placed w.version n x z) (sym (get_or-set_same w.hosts x h none lt)) here)
      | inr other ↦
          subst (λ z. Placed w.version n y z) (sym (get_or-set_other w.hosts x y h none other))
          (is.placed y (subst (λ z. y < z) count ly))
    ])

kept_still : (w : PlainWorld) (x most : ℕ) (o : Option Addressed) → IsWorld w → x < length w.hosts
    → CanBePosted (host_at w.hosts x) most o → (k : ℕ) → k < length (w.sent ++ posted w.version o)
    → IsKept w.version (length w.hosts) (get_or (w.sent ++ posted w.version o) k no_kept)
kept_still w x most o is lt p k lk =
    let old = host_at w.hosts x in
    let n = length w.hosts in
    let place = is.placed x lt in
    let more = posted w.version o in
    let all = length-append w.sent more in
    let news : (j : ℕ) → j < length more → IsKept w.version n (get_or more j no_kept) =
    subst (λ v. (j : ℕ) → j < length (posted v o) → IsKept v n (get_or (posted v o) j no_kept)) place.writes
    (subst (λ c. (j : ℕ) → j < length (posted old.version o)
    → IsKept old.version c (get_or (posted old.version o) j no_kept)) place.counts
    (posted_kept old most o p (omega (arith, lt, place.named, place.counts)))) in
    elim (cases_lt k (length w.sent)) [
      | inl less ↦
          subst (λ z. IsKept w.version n z) (sym (get_or_append_left w.sent more no_kept k less)) (is.kept k less)
      | inr past ↦
          subst (λ z. IsKept w.version n z) (sym (get_or-append_right w.sent more (length w.sent) k no_kept refl past))
          (news (k - length w.sent) (omega (arith, lk, all, past)))
    ]

stays_world : (w : PlainWorld) (x most now : ℕ) (ev : Event BoardEvent) (e : BoardHostEvent)
    (a : HostReply × Option Addressed) (h : PlainHost) → IsWorld w → x < length w.hosts
    → Steps (host_at w.hosts x) e a h → CanBePosted (host_at w.hosts x) most a.1
    → world_of (after w x a.1 h now) ≡ step board (world_of w) ev → meaning board (world_of w) ev ≡ Some (x, e)
    → now ≡ current_after e (reply_of a.0) w.current → IsWorld (after w x a.1 h now)
stays_world w x most now ev e a h is lt s p turned means moved =
    let W = world_of w in
    let reply = s.reply ∙ ap (λ (r : Answer). r.reply) (same_step w x e (is.placed x lt)) in
    let count = length-set w.hosts x h in
    let limit : h.limit ≡ (host_at w.hosts x).limit = ap (λ (z : PlainHost). z.limit) s.rest in
    record {
      sized = ap (is_sized w.version)
          (map-set_same (λ (z : PlainHost). z.limit) w.hosts x h (new_host None x 0 0 0) limit) ∙ is.sized;
      placed = placed_still w x h is lt s.rest;
      kept = λ k lk.
          subst (λ z. IsKept w.version z (get_or (w.sent ++ posted w.version a.1) k no_kept)) (sym count)
          (kept_still w x most a.1 is lt p k lk);
      reached = reached_more W (world_of (after w x a.1 h now)) ev turned is.reached;
      current = λ t shown.
          moved ∙ ap (λ r. current_after e r w.current) reply
          ∙ moves_on W (world_of (after w x a.1 h now)) ev x e w.current is.reached is.current means
          (turned ∙ ap (happened board W) means) t shown;
    }

-- a reply and a world after it are those of the protocol's step, and it is a world still
pub record Becomes (w new : PlainWorld) (ev : Event BoardEvent) (answer : Reply BoardReply) : Type 0 where
  pub replied : answer ≡ reply_to board (world_of w) ev
  pub turned : world_of new ≡ step board (world_of w) ev
  pub stays : IsWorld new

-- the host that was read from the list is the host of the world
pub is_host : (xs : List PlainHost) (x : ℕ) (h : PlainHost) → x < length xs → h ≡ get_or xs x h → h ≡ host_at xs x
is_host xs x h lt is = is ∙ get_or_default xs x h (new_host None x 0 0 0) lt

-- the frame that was read from the list is one of the world
pub is_kept : (w : PlainWorld) (k : ℕ) (kept : Kept) → IsWorld w → k < length w.sent
    → kept ≡ get_or w.sent k kept → IsKept w.version (length w.hosts) kept
is_kept w k kept is lt same =
    subst (λ z. IsKept w.version (length w.hosts) z) (sym (same ∙ get_or_default w.sent k kept no_kept lt))
    (is.kept k lt)

-- the bytes of a frame that was sent are its spelling
pub spelled_there : (w : PlainWorld) (k : ℕ) (kept : Kept) → IsWorld w → k < length w.sent
    → kept ≡ get_or w.sent k kept → AreSpelled w.version (slice_get (world_of w).sent k) (Some kept.bytes)
spelled_there w k kept is lt same =
    subst (λ z. AreSpelled w.version z (Some kept.bytes))
    (ap (λ z. Some (kept_of w.version z)) same ∙ sym (sent_there (kept_of w.version) w.sent k kept lt))
    (is_kept w k kept is lt same).spelled

pub spelled_past : (w : PlainWorld) (k : ℕ) → length w.sent ≤ k
    → AreSpelled w.version (slice_get (world_of w).sent k) None
spelled_past w k past =
    subst (λ z. AreSpelled w.version z None) (sym (sent_past (kept_of w.version) w.sent k past)) tt

-- a command at a host
pub at_becomes : (w : PlainWorld) (sent : List Kept) (x most : ℕ) (c : Command BoardEvent)
    (a : HostReply × Option Addressed) (old h : PlainHost) → IsWorld w → x < length w.hosts
    → old ≡ get_or w.hosts x old → Steps old (Do c) a h → CanBePosted old most a.1
    → sent ≡ w.sent ++ posted w.version a.1
    → Becomes w (with_host w x h sent w.current) (At x c) (reply_of a.0)
at_becomes w sent x most c a old h is lt here s p all =
    let one = is_host w.hosts x old lt here in
    let s' = subst (λ z. Steps z (Do c) a h) one s in
    let p' = subst (λ z. CanBePosted z most a.1) one p in
    let now = w.current in
    let t = at_turned w (after w x a.1 h now) x c a.0 lt (happens w x most now (Do c) a h is lt s' p') in
    subst (λ z. Becomes w (with_host w x h z now) (At x c) (reply_of a.0)) (sym all)
    (record {
      replied = t.replied;
      turned = t.turned;
      stays = stays_world w x most now (At x c) (Do c) a h is lt s' p' t.turned (at_there (world_of w) x c lt) refl;
    })

-- the reply to a command is its host's
at_said : (w : PlainWorld) (x : ℕ) (c : Command BoardEvent) → IsWorld w → x < length w.hosts
    → reply_to board (world_of w) (At x c) ≡ (step_of (host_at w.hosts x) (Do c)).reply
at_said w x c is lt =
    sym (ap (λ (r : Answer). r.reply) (same_step w x (Do c) (is.placed x lt))
    ∙ ap (reply_or board (world_of w) (Refused BadHost)) (sym (at_there (world_of w) x c lt)))

pub at_heeded : (w : PlainWorld) (x : ℕ) (c : Command BoardEvent) (old : PlainHost) → IsWorld w → x < length w.hosts
    → old ≡ get_or w.hosts x old → is_refused_outright (step_of old (Do c)).reply ≡ false → IsHeeded (world_of w) (At x c)
at_heeded w x c old is lt here so =
    subst (λ (r : Reply BoardReply). is_refused_outright r ≡ false) (sym (at_said w x c is lt))
    (subst (λ (h : PlainHost). is_refused_outright (step_of h (Do c)).reply ≡ false) (is_host w.hosts x old lt here) so)

by_bound : (b : Bool) (n : ℕ) → 0 < (if b then 0 else n) → b ≡ false
by_bound true n some = absurd (omega (arith, some))
by_bound false n some = refl

-- if there is room for a command's frame, the command is not refused outright
pub bound_heeds : (h : PlainHost) (c : Command BoardEvent) → 0 < frame_bound h (Do c)
    → is_refused_outright (step_of h (Do c)).reply ≡ false
bound_heeds h c some = by_bound (is_refused_outright (step_of h (Do c)).reply) (with_header h.version (event_body h (Do c))) some

no_room : (b : Bool) → 0 < (if b then 0 else 0) → ⊥
no_room true some = omega (arith, some)
no_room false some = omega (arith, some)

-- if there is room for a command's frame, the command may take memory
pub bound_asks : (h : PlainHost) (x : ℕ) (c : Command BoardEvent) → 0 < frame_bound h (Do c) → asks_memory (At x c) ≡ true
bound_asks h x (commands.Board e) some = absurd (no_room (is_refused_outright (step_of h (Do (commands.Board e))).reply) some)
bound_asks h x (commands.Begin to p) some = refl
bound_asks h x commands.Copy some = refl
bound_asks h x commands.Resend some = refl
bound_asks h x commands.AbortMove some = refl

pub deliver_heeded : (w : PlainWorld) (k : ℕ) → k < length w.sent → IsHeeded (world_of w) (Deliver k)
deliver_heeded w k lt = subst (λ n. k < n) (sym (length-map w.sent (kept_of w.version))) lt

-- a frame comes to its host
pub deliver_becomes : (w : PlainWorld) (sent : List Kept) (k : ℕ) (kept : Kept) (from to most now : ℕ) (frame : BoardFrame)
    (a : HostReply × Option Addressed) (old h : PlainHost) → IsWorld w → k < length w.sent
    → kept ≡ get_or w.sent k kept → from ≡ kept.from → to ≡ kept.to → frame ≡ frame_in w.version kept.bytes
    → to < length w.hosts → old ≡ get_or w.hosts to old → Steps old (Came from frame) a h → CanBePosted old most a.1
    → sent ≡ w.sent ++ posted w.version a.1
    → now ≡ current_after (Came from frame) (reply_of a.0) w.current
    → Becomes w (with_host w to h sent now) (Deliver k) (reply_of a.0)
deliver_becomes w sent k kept from to most now frame a old h is lk same ef et reads lt here s p all moved =
    let one = is_host w.hosts to old lt here in
    let s' = subst (λ z. Steps z (Came from frame) a h) one s in
    let p' = subst (λ z. CanBePosted z most a.1) one p in
    let hap = happens w to most now (Came from frame) a h is lt s' p' in
    let new = after w to a.1 h now in
    let means = deliver_there w k kept frame lk same reads ∙ (λ i. Some (sym et i, Came (sym ef i) frame)) in
    let t = deliver_turned w new k kept frame a.0 lk same reads
    (subst (λ z. Happens w new z (Came kept.from frame) a.0) et
    (subst (λ z. Happens w new to (Came z frame) a.0) ef hap)) in
    subst (λ z. Becomes w (with_host w to h z now) (Deliver k) (reply_of a.0)) (sym all)
    (record {
      replied = t.replied;
      turned = t.turned;
      stays = stays_world w to most now (Deliver k) (Came from frame) a h is lt s' p' t.turned means moved;
    })

-- OUT OF MEMORY

-- with a host that stays as it was read, and no frame more, the world is unchanged
pub unchanged : (w : PlainWorld) (x : ℕ) (old h : PlainHost) (sent : List Kept) → h ≡ old
    → old ≡ get_or w.hosts x old → sent ≡ w.sent → with_host w x h sent w.current ≡ w
unchanged w x old h sent stays here same =
    let hosts = ap (set w.hosts x) (stays ∙ here) ∙ set-get_or w.hosts x old in
    λ i. record { version = w.version; hosts = hosts i; sent = same i; current = w.current }

pub on_err : {A E : Type 0} → (r : Result A E) → (P : Type 0) → P → OnErr r P
on_err (Ok a) P p = tt
on_err (Err e) P p = p
