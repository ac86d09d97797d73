-- A host's move always has a number and another host for its other party, and its frames go to a host that is there.
use Rattle.std.proofs.Common.{◌≡◌, ℕ, ◌-◌, ◌^◌, ◌<◌, ◌==◌, ◌&&◌, Bool, true, false, if◌then◌else◌, refl, nat_lt, nat_le, ◌||◌, List, length, Option, Some, None, sym, ap, subst, arith}
use Rattle.std.proofs.lemmas.Bool.{ltb-true}
use Rattle.rvm_codec.proofs.Steps.{both_are}
use Rattle.rvm_board.specs.Guest.{Guest, GuestState}
use Rattle.rvm_board.specs.declared.event.BoardEvent.{BoardEvent}
use Rattle.rvm_frame.specs.declared.addressed.Addressed.{Addressed}
use Rattle.rvm_guest.specs.TheGuest.{board}
use Rattle.rvm_message.specs.Answers.{BoardMode, BoardOutcome}
use Rattle.rvm_message.specs.Events.{BoardHostEvent}
use Rattle.rvm_message.specs.Frames.{BoardFrame, addressed_made}
use Rattle.rvm_message.specs.declared.reply.HostReply.{HostReply}
use Rattle.rvm_precopy.specs.Plans.{Plan}
use Rattle.rvm_protocol.specs.Commands.{Policy, Command, Board, Begin, Copy, Resend, AbortMove, Do, Came, is_allowed}
use Rattle.rvm_protocol.specs.Frames.{Offer, Accept, Refuse, Page, RoundEnd, Lost, State, Part, Ready, Go, Started, Abort, is_compact, made_as, plain, posted}
use Rattle.rvm_protocol.specs.Frames as protocol
use Rattle.rvm_protocol.specs.Host as law
use Rattle.rvm_protocol.specs.Host.{addressee, is_heard, is_offer_above, is_there, obey_at, partner_then}
use Rattle.rvm_protocol.specs.Modes.{Empty, Run, Offering, Copying, Stopped, Given, Staging, Held, move_of, says, sends, refuses, ignores}
use Rattle.rvm_protocol.specs.Obeying.{begin, begin_allowed, begun, copy_last, copy_page, resend_last, sends_last, sends_page}
use Rattle.rvm_protocol.specs.Pages.{gathered, size}
use Rattle.rvm_protocol.specs.Receiving.{came, guest_read, of_this_move, offer_above, offered, page_came, part_came, part_kept, pieces_joined, state_came, state_compared}
use Rattle.rvm_protocol.specs.Replies.{Accepted, BadHost, BadSize, BadState, Declined, EpochsSpent, SeqSpent, Stopping}
use Rattle.rvm_protocol.specs.Rounds.{Last, Rounds, next_page, stopped, to_copy}
use Rattle.rvm_protocol.specs.Staging.{Stage, lacks, takes_part, with_part}
use Rattle.rvm_source.specs.Sources.{mode_in}
use Rattle.rvm_source.specs.declared.phase.Phase.{Phase}
use Rattle.rvm_source.specs.declared.phase.Phase.TheVariants as phases
use Rattle.rvm_host.specs.Bounds.{IsHost, IsMove, KeepsMove}
use Rattle.rvm_host.specs.Hosts.{PlainHost, Steps, host_of}
use Rattle.rvm_host.specs.Modes as core
use Rattle.rvm_host.specs.Modes.{PlainMode, mode_of}
use Rattle.rvm_host.proofs.Settling.{outcome_of}

abbrev BoardStage : Type 0
BoardStage = Stage (List ℕ)

-- what holds of both values holds of the one that a test chooses
pub either : {X : Type 0} (Q : X → Type 0) (b : Bool) (x y : X) → (b ≡ true → Q x) → (b ≡ false → Q y)
    → Q (if b then x else y)
either Q true x y f g = f refl
either Q false x y f g = g refl

module _ (id count : ℕ) where
  abbrev pub There : ℕ → Type 0
  There x = is_there id count x ≡ true

  -- in each mode of a move, as the protocol has it, the move has a number, and another host is its other party
  abbrev pub Keeps : (partner : ℕ) → BoardMode → Type 0
  Keeps x (Empty n) = Unit {0}
  Keeps x (Run n g) = Unit {0}
  Keeps x (Offering n g p) = IsMove id count x n
  Keeps x (Copying n r) = IsMove id count x n
  Keeps x (Stopped n l) = IsMove id count x n
  Keeps x (Given n kept) = IsMove id count x n
  Keeps x (Staging n s) = IsMove id count x n
  Keeps x (Held n g) = IsMove id count x n

  -- a frame that was made goes to a host that is there
  abbrev pub Reaches : {A : Type 0} → (to : ℕ) → Option A → Type 0
  Reaches to None = Unit {0}
  Reaches to (Some f) = There to

  -- both hold after an event
  abbrev pub Stays : BoardHostEvent → (partner : ℕ) → BoardOutcome → Type 0
  Stays e x o = Keeps (partner_then e o.reply x) o.next × Reaches (addressee e (partner_then e o.reply x)) o.made

  -- COMMANDS

  module _ (x : ℕ) where
    abbrev pub Obeys : Command BoardEvent → BoardOutcome → Type 0
    Obeys c = Stays (Do c) x

    copied_stays : (n : ℕ) (r : Rounds Guest) (q : Option ℕ) → IsMove id count x n
        → Obeys Copy (copy_page board n r q)
    copied_stays n r (Some p) ok =
        either (Obeys Copy) (nat_le (2 ^ 32 - 1) r.copies) (refuses SeqSpent (Copying n r)) (sends_page board n r p)
        (λ _. (ok, tt)) (λ _. (ok, ok.1))
    copied_stays n r None ok = (ok, ok.1)

    last_stays : (v n : ℕ) (l : Last Guest) (q : Option ℕ) → IsMove id count x n
        → Obeys Copy (copy_last board v n l q)
    last_stays v n l (Some p) ok =
        either (Obeys Copy) (nat_le (2 ^ 32 - 1) l.copies) (refuses SeqSpent (Stopped n l)) (sends_last board n l p)
        (λ _. (ok, tt)) (λ _. (ok, ok.1))
    last_stays v n l None ok = either (Obeys Copy) (is_compact v) _ _ (λ _. (ok, ok.1)) (λ _. (ok, ok.1))

    resent_stays : (v n : ℕ) (l : Last Guest) (q : Option ℕ) → IsMove id count x n
        → Obeys Resend (resend_last board v n l q)
    resent_stays v n l (Some p) ok = (ok, tt)
    resent_stays v n l None ok = either (Obeys Resend) (is_compact v) _ _ (λ _. (ok, ok.1)) (λ _. (ok, ok.1))

    begin_stays : (v to : ℕ) (p : Policy) (n : ℕ) (g : Guest)
        → Obeys (Begin to p) (obey_at board v id count (Begin to p) (Run n g))
    begin_stays v to p n g =
        let e = Begin to p in
        either (Obeys e) (is_there id count to) (begin board p (Run n g)) (refuses BadHost (Run n g))
        (λ there. either (Obeys e) (is_allowed p) (begin_allowed board p n g) (refuses BadSize (Run n g))
        (λ _. either (Obeys e) (n == 2 ^ 64 - 1) (refuses EpochsSpent (Run n g)) (begun board p n g)
        (λ _. (tt, tt)) (λ _. ((omega arith, there), there)))
        (λ _. (tt, tt)))
        (λ _. (tt, tt))

    pub obey_stays : (v : ℕ) (c : Command BoardEvent) (mode : BoardMode) → Keeps x mode
        → Obeys c (obey_at board v id count c mode)
    obey_stays v (Board e) (Run n g) ok = (tt, tt)
    obey_stays v (Begin to p) (Run n g) ok = begin_stays v to p n g
    obey_stays v Copy (Copying n r) ok =
        either (Obeys Copy) r.stop (says Stopping (Stopped n (stopped board r)))
        (copy_page board n r (next_page board r)) (λ _. (ok, tt)) (λ _. copied_stays n r (next_page board r) ok)
    obey_stays v Copy (Stopped n l) ok = last_stays v n l (to_copy board l) ok
    obey_stays v Resend (Offering n g p) ok = (ok, ok.1)
    obey_stays v Resend (Stopped n l) ok = resent_stays v n l (to_copy board l) ok
    obey_stays v Resend (Given n kept) ok = (ok, ok.1)
    obey_stays v Resend (Held n g) ok = (ok, ok.1)
    obey_stays v AbortMove (Offering n g p) ok = (tt, ok.1)
    obey_stays v AbortMove (Copying n r) ok = (tt, ok.1)
    obey_stays v AbortMove (Stopped n l) ok = (tt, ok.1)
    obey_stays v c mode ok = (ok, tt)

  -- FRAMES

  module _ (x y : ℕ) (there : There y) (h : BoardFrame) where
    abbrev pub Hears : BoardOutcome → Type 0
    Hears = Stays (Came y h) x

    equal_stays : (n k : ℕ) (o : BoardOutcome) (mode : BoardMode) → Keeps x mode → Hears o
        → Hears (of_this_move board n k o mode)
    equal_stays n k o mode ok so = either Hears (n == k) o (ignores mode) (λ _. so) (λ _. (ok, tt))

    above_stays : (limit seen k a b : ℕ) (mode : BoardMode) → Keeps x mode
        → Hears (offer_above board seen limit k a b mode)
    above_stays limit seen k a b mode ok =
        either Hears (nat_lt seen k) (offered board limit k a b mode) (ignores mode)
        (λ e. either Hears (nat_lt limit a) (sends (Declined limit) (Refuse k limit) mode)
        (sends Accepted (Accept k) (Staging k _)) (λ _. (ok, there))
        (λ _. let above : seen < k = ltb-true seen k e in ((omega (arith, above), there), there)))
        (λ _. (ok, tt))

    read_stays : (n : ℕ) (old : BoardStage) (q : Option Guest) → IsMove id count x n
        → Hears (guest_read board n old q)
    read_stays n old None ok = (ok, tt)
    read_stays n old (Some g) ok = (ok, there)

    state_stays : (n : ℕ) (old s : BoardStage) (numbers body : List ℕ) → IsMove id count x n
        → Hears (state_came board n old s numbers body)
    state_stays n old s numbers body ok =
        let made = board.build s.processors body s.pages in
        either Hears (length numbers == length s.pages) (state_compared board n old s numbers body)
        (refuses BadState (Staging n old))
        (λ _. either Hears (nat_lt 0 (size (lacks s numbers) (length s.pages))) _ (guest_read board n old made)
        (λ _. (ok, there)) (λ _. read_stays n old made ok))
        (λ _. (ok, tt))

    joined_stays : (n : ℕ) (old s : BoardStage) (q : Option (List ℕ × List ℕ)) → IsMove id count x n
        → Hears (pieces_joined board n old s q)
    joined_stays n old s None ok = (ok, tt)
    joined_stays n old s (Some z) ok = state_stays n old s z.0 z.1 ok

    kept_stays : (n : ℕ) (old s : BoardStage) (part parts : ℕ) (q : Option (List (List ℕ))) → IsMove id count x n
        → Hears (part_kept board n old s part parts q)
    kept_stays n old s part parts None ok = (ok, tt)
    kept_stays n old s part parts (Some pieces) ok = joined_stays n old s (board.join pieces) ok

    part_stays : (n : ℕ) (s : BoardStage) (stamp part parts : ℕ) (bytes : List ℕ) → IsMove id count x n
        → Hears (part_came board n s stamp part parts bytes)
    part_stays n s stamp part parts bytes ok =
        let t = with_part s stamp part parts bytes in
        let pieces = gathered t.pieces 0 parts in
        either Hears (takes_part s stamp part parts) (part_kept board n s t part parts pieces) (ignores (Staging n s))
        (λ _. kept_stays n s t part parts pieces ok) (λ _. (ok, tt))

    pub came_stays : (limit : ℕ) (f : BoardFrame) (mode : BoardMode) → Keeps x mode
        → Hears (came board limit f mode)
    came_stays limit (Offer k a b) (Empty n) ok = above_stays limit n k a b (Empty n) ok
    came_stays limit (Offer k a b) (Given n kept) ok = above_stays limit n k a b (Given n kept) ok
    came_stays limit (Offer k a b) (Held n g) ok = above_stays limit n k a b (Held n g) ok
    came_stays limit (Offer k a b) (Staging n s) ok =
        either Hears (n == k) (sends Accepted (Accept n) (Staging n s))
        (offer_above board n limit k a b (Staging n s))
        (λ _. ((ok.0, there), there)) (λ _. above_stays limit n k a b (Staging n s) ok)
    came_stays limit (Accept k) (Offering n g p) ok = equal_stays n k _ (Offering n g p) ok (ok, tt)
    came_stays limit (Refuse k most) (Offering n g p) ok = equal_stays n k _ (Offering n g p) ok (tt, tt)
    came_stays limit (Page k p number bytes) (Staging n s) ok =
        equal_stays n k (page_came board n s p number bytes) (Staging n s) ok
        (either Hears (nat_lt p (length s.pages) && nat_lt (s.have p) number) _ (ignores (Staging n s))
        (λ _. (ok, tt)) (λ _. (ok, tt)))
    came_stays limit (RoundEnd k a b c d) (Staging n s) ok = equal_stays n k _ (Staging n s) ok (ok, tt)
    came_stays limit (State k numbers body) (Staging n s) ok =
        equal_stays n k _ (Staging n s) ok (state_stays n s s numbers body ok)
    came_stays limit (State k numbers body) (Held n g) ok = equal_stays n k _ (Held n g) ok (ok, there)
    came_stays limit (Part k stamp part parts bytes) (Staging n s) ok =
        equal_stays n k _ (Staging n s) ok (part_stays n s stamp part parts bytes ok)
    came_stays limit (Part k stamp part parts bytes) (Held n g) ok = equal_stays n k _ (Held n g) ok (ok, there)
    came_stays limit (Lost k ps) (Stopped n l) ok = equal_stays n k _ (Stopped n l) ok (ok, tt)
    came_stays limit (Ready k) (Stopped n l) ok = equal_stays n k _ (Stopped n l) ok (ok, there)
    came_stays limit (Go k) (Held n g) ok = equal_stays n k _ (Held n g) ok (tt, there)
    came_stays limit (Go k) (Run n g) ok = equal_stays n k _ (Run n g) ok (tt, there)
    came_stays limit (Started k) (Given n kept) ok = equal_stays n k _ (Given n kept) ok (tt, tt)
    came_stays limit (Abort k) (Staging n s) ok = equal_stays n k _ (Staging n s) ok (tt, tt)
    came_stays limit (Abort k) (Held n g) ok = equal_stays n k _ (Held n g) ok (tt, tt)
    came_stays limit f mode ok = (ok, tt)

  -- MODES AS PLAIN VALUES

  to_phase : (x n : ℕ) (g : GuestState) (r : Plan) (phase : Phase) → IsMove id count x n
      → Keeps x (mode_in n g r phase)
  to_phase x n g r phases.Offering is = is
  to_phase x n g r phases.Copying is = is
  to_phase x n g r (phases.Stopped turn) is = is

  of_phase : (x n : ℕ) (g : GuestState) (r : Plan) (phase : Phase) → Keeps x (mode_in n g r phase)
      → IsMove id count x n
  of_phase x n g r phases.Offering is = is
  of_phase x n g r phases.Copying is = is
  of_phase x n g r (phases.Stopped turn) is = is

  to_law : (x : ℕ) (mode : PlainMode) → KeepsMove id count x mode → Keeps x (mode_of mode)
  to_law x (core.Empty n) is = tt
  to_law x (core.Run n g) is = tt
  to_law x (core.Leaving s) is = to_phase x s.move_number s.guest s.plan s.phase is
  to_law x (core.Given n kept) is = is
  to_law x (core.Staging n s) is = is
  to_law x (core.Held n g) is = is

  of_law : (x : ℕ) (mode : PlainMode) → Keeps x (mode_of mode) → KeepsMove id count x mode
  of_law x (core.Empty n) is = tt
  of_law x (core.Run n g) is = tt
  of_law x (core.Leaving s) is = of_phase x s.move_number s.guest s.plan s.phase is
  of_law x (core.Given n kept) is = is
  of_law x (core.Staging n s) is = is
  of_law x (core.Held n g) is = is

-- FRAMES WITH THEIR ADDRESSES

module _ (id count : ℕ) where
  abbrev pub Goes : Option Addressed → Type 0
  Goes None = Unit {0}
  Goes (Some a) = is_there id count a.to ≡ true

  abbrev to_or : Option (protocol.Addressed (List ℕ) (List ℕ)) → ℕ
  to_or None = 0
  to_or (Some a) = a.to

  reaches_as : (to v : ℕ) (made : Option BoardFrame) → Reaches id count to made
      → Reaches id count to (made_as board v made)
  reaches_as to v None so = tt
  reaches_as to v (Some f) so = so

  goes : (self to : ℕ) (made : Option BoardFrame) (a : Option Addressed) → addressed_made a ≡ posted self to made
      → Reaches id count to made → Goes a
  goes self to made None is so = tt
  goes self to None (Some a) is so = absurd cc
  goes self to (Some f) (Some a) is so =
      subst (λ (z : ℕ). is_there id count z ≡ true) (sym (ap to_or is)) so

-- HOSTS

module _ (h : PlainHost) (ok : IsHost h) where
  law_keeps : Keeps h.id h.count h.partner (mode_of h.mode)
  law_keeps = to_law h.id h.count h.partner h.mode ok.moves

  stays : (e : BoardHostEvent) → Stays h.id h.count e h.partner (outcome_of h e)
  stays (Do c) = obey_stays h.id h.count h.partner h.version c (mode_of h.mode) law_keeps
  stays (Came from f) =
      let there = is_there h.id h.count from in
      let offers = is_offer_above (move_of (mode_of h.mode)) (plain board f) in
      either (Stays h.id h.count (Came from f) h.partner) (is_heard h.id h.count from (plain board f) (host_of h))
      (came board h.limit (plain board f) (mode_of h.mode)) (ignores (mode_of h.mode))
      (λ e. came_stays h.id h.count h.partner from (both_are there (from == h.partner || offers) e).0 f h.limit
      (plain board f) (mode_of h.mode) law_keeps)
      (λ _. (law_keeps, tt))

  -- after an event it is a host still
  pub host_stays : (new : PlainHost) (e : BoardHostEvent) (answer : HostReply × Option Addressed)
      → Steps h e answer new → IsHost new
  host_stays new e answer does =
      subst IsHost (sym does.rest) (record {
        sized = ok.sized;
        moves = of_law h.id h.count new.partner new.mode
            (subst (λ (x : law.Host Guest (List ℕ)). Keeps h.id h.count x.partner x.mode) (sym does.next)
            (stays e).0);
      })

  -- a frame that it makes goes to a host that is there
  pub host_reaches : (new : PlainHost) (e : BoardHostEvent) (answer : HostReply × Option Addressed)
      → Steps h e answer new → Goes h.id h.count answer.1
  host_reaches new e answer does =
      let o = outcome_of h e in
      let to = addressee e (partner_then e o.reply h.partner) in
      goes h.id h.count h.id to (made_as board h.version o.made) answer.1 does.made
      (reaches_as h.id h.count to h.version o.made (stays e).1)
