-- A whole move.
use Rattle.std.proofs.Common.{◌≡◌, ℕ, suc, ◌+◌, ◌-◌, ◌*◌, ◌^◌, ◌<◌, ◌==◌, Bool, true, false, nat_le, nat_lt, List, ◌++◌, append-nil, length, codes, Some, None, refl, ap, sym, ◌∙◌, subst, arith}
use Rattle.std.specs.Fmt.{decimal}
use Rattle.std.specs.Prelude.{if◌then◌else◌}
use Rattle.std.proofs.lemmas.Bool.{leb-false, leb-true, ltb-true}
use Rattle.rvm_board.specs.declared.event.BoardReply.{BoardReply}
use Rattle.rvm_board.specs.Guest.{Guest}
use Rattle.rvm_guest.specs.TheGuest.{board}
use Rattle.rvm_message.specs.declared.reply.HostRefusal.{HostRefusal}
use Rattle.rvm_message.specs.declared.reply.HostRefusal.TheVariants as refusal
use Rattle.rvm_message.specs.Replies.{refusal_of}
use Rattle.rvm_precopy.specs.declared.policy.Policy.{Policy}
use Rattle.rvm_precopy.specs.Policies.{policy_of}
use Rattle.rvm_protocol.proofs.MoveNumbers.{below_if, either, moves_are_numbered}
use Rattle.rvm_protocol.specs.Commands as protocol
use Rattle.rvm_protocol.specs.Commands.{Begin, Do, is_allowed}
use Rattle.rvm_protocol.specs.DrivenMove.{drive_opening, state_frames}
use Rattle.rvm_protocol.specs.Host.{is_there, obey_at}
use Rattle.rvm_protocol.specs.Modes.{Mode, Empty, Run, Offering, Copying, Stopped, Given, Staging, Held, Outcome, guest_in, move_of, refuses}
use Rattle.rvm_protocol.specs.Obeying.{begin_allowed, begun, begin}
use Rattle.rvm_protocol.specs.Replies as reply
use Rattle.rvm_protocol.specs.Replies.{Reply}
use Rattle.rvm_protocol.specs.Rounds.{page_count}
use Rattle.rvm_protocol.specs.Told.{Told}
use Rattle.rvm_protocol.specs.World.{At, mode_at, reply_or, reply_to}
use Rattle.rvm_core.specs.declared.drive.Driven.{Driven}
use Rattle.rvm_core.specs.declared.drive.Driven.TheVariants as driven
use Rattle.rvm_core.specs.Driving.{CanBegin, DrivesTo, drive_of}
use Rattle.rvm_core.specs.Worlds.{BoardWorld, IsReached}
use Rattle.rvm_core.specs.Replies.{move_text, place_text, words_of}
use Rattle.rvm_core.specs.Runs.{driven_text, standing}
use Rattle.rvm_core.specs.WorldScript.{Replied, after_all, moved, moved_if, moved_with}
use Rattle.rvm_core.proofs.Making.{after_run}

-- a move begins with this number
record Begins (w : BoardWorld) (from to : ℕ) (p : protocol.Policy) (n : ℕ) : Type 0 where
  before : ℕ
  guest : Guest
  can : CanBegin w from to p before guest
  number : n ≡ suc before

-- the reply that Begin can get
abbrev BeginReply : (w : BoardWorld) (from to : ℕ) → protocol.Policy → Reply BoardReply → Type 0
BeginReply w from to p (reply.Begun n) = Begins w from to p n
BeginReply w from to p (reply.Refused why) = Unit {0}
BeginReply w from to p r = ⊥

begin_running : (w : BoardWorld) (from to : ℕ) (p : protocol.Policy) (n : ℕ) (g : Guest) → n < 2 ^ 64
    → mode_at board w from ≡ Run n g → nat_lt from w.count ≡ true
    → BeginReply w from to p (obey_at board w.version from w.count (Begin to p) (Run n g)).reply
begin_running w from to p n g few runs here =
    let R : Outcome Guest (List ℕ) BoardReply (List ℕ) → Type 0 = λ o. BeginReply w from to p o.reply in
    either R (is_there from w.count to) (begin board p (Run n g)) (refuses reply.BadHost (Run n g))
    (λ there. either R (is_allowed p) (begin_allowed board p n g) (refuses reply.BadSize (Run n g))
    (λ allowed. either R (n == 2 ^ 64 - 1) (refuses reply.EpochsSpent (Run n g)) (begun board p n g) (λ _. tt)
    (λ other. let most = below_if n (nat_lt n (2 ^ 64 - 1)) refl few other in record {
      before = n;
      guest = g;
      can = record {
        runs = runs;
        number = omega (arith, most);
        allowed = allowed;
        here = ltb-true from w.count here;
        there = there;
      };
      number = refl;
    }))
    (λ _. tt))
    (λ _. tt)

begin_in : (w : BoardWorld) (from to : ℕ) (p : protocol.Policy) (O : Mode Guest (List ℕ)) → move_of O < 2 ^ 64
    → mode_at board w from ≡ O → nat_lt from w.count ≡ true
    → BeginReply w from to p (obey_at board w.version from w.count (Begin to p) O).reply
begin_in w from to p (Empty n) few is here = tt
begin_in w from to p (Run n g) few is here = begin_running w from to p n g few is here
begin_in w from to p (Offering n g q) few is here = tt
begin_in w from to p (Copying n r) few is here = tt
begin_in w from to p (Stopped n l) few is here = tt
begin_in w from to p (Given n kept) few is here = tt
begin_in w from to p (Staging n s) few is here = tt
begin_in w from to p (Held n g) few is here = tt

begin_if : (w : BoardWorld) (from to : ℕ) (p : protocol.Policy) (b : Bool) → move_of (mode_at board w from) < 2 ^ 64
    → nat_lt from w.count ≡ b
    → BeginReply w from to p
    (reply_or board w (reply.Refused reply.BadHost) (if b then Some (from, Do (Begin to p)) else None))
begin_if w from to p true few here = begin_in w from to p (mode_at board w from) few refl here
begin_if w from to p false few here = tt

begin_told : (w : BoardWorld) (from to : ℕ) (p : protocol.Policy) → IsReached w
    → BeginReply w from to p (reply_to board w (At from (Begin to p)))
begin_told w from to p r =
    begin_if w from to p (nat_lt from w.count)
    (subst (λ (z : BoardWorld). move_of (z.hosts from).mode < 2 ^ 64) (sym r.reached)
    (moves_are_numbered board r.start w.version 0 w.count r.limits r.before from))
    refl

-- a refusal of the protocol is a host's
record Named (why : reply.Refusal) : Type 0 where
  name : HostRefusal
  is : refusal_of name ≡ why

named : (why : reply.Refusal) → Named why
named reply.BadSize = record { name = refusal.BadSize; is = refl }
named reply.BadState = record { name = refusal.BadState; is = refl }
named reply.SeqSpent = record { name = refusal.SeqSpent; is = refl }
named reply.NotHere = record { name = refusal.NotHere; is = refl }
named reply.Paused = record { name = refusal.Paused; is = refl }
named reply.Busy = record { name = refusal.Busy; is = refl }
named reply.NoMove = record { name = refusal.NoMove; is = refl }
named reply.EpochsSpent = record { name = refusal.EpochsSpent; is = refl }
named reply.Ignored = record { name = refusal.Ignored; is = refl }
named reply.NoFrame = record { name = refusal.NoFrame; is = refl }
named reply.BadHost = record { name = refusal.BadHost; is = refl }

no_place : (text : List ℕ) → text ++ place_text None ++ codes "\n" ≡ text ++ codes "\n"
no_place text = ap (λ l. l ++ codes "\n") (append-nil text)

refused_text : (why : HostRefusal) (r : reply.Refusal) → refusal_of why ≡ r
    → driven_text (driven.Refused why) ≡ words_of (reply.Refused r) ++ codes "\n"
refused_text why r is = ap (λ z. move_text (reply.Refused z) None) is ∙ no_place (words_of (reply.Refused r))

-- the world that a move left, and the text of its answer
pub record MovedAs (d : Driven) (new : BoardWorld) (r : Replied) : Type 0 where
  pub world : new ≡ r.standing.world
  pub text : driven_text d ≡ r.text

moved_fits : (d : Driven) (w new : BoardWorld) (from to : ℕ) (p : Policy) (t : Told Guest) (n e : ℕ) (g : Guest)
    → DrivesTo d w new from to (policy_of p) → CanBegin w from to (policy_of p) e g → n ≡ suc e
    → MovedAs d new (moved_with from to p (Some g) n (standing w t))
moved_fits d w new from to p t n e g drives can number =
    let s = standing w t in
    let events = drive_of w from to (policy_of p) g in
    let count = 2 * page_count board g + 9 + 2 * state_frames board w.version g in
    let opening = drive_opening from to (policy_of p) (length w.sent) in
    either (MovedAs d new) (nat_le (page_count board g) (w.limits to))
    (record {
      standing = after_all s events;
      text = codes "moved " ++ decimal n ++ codes " events " ++ decimal (length events) ++ codes "\n";
    })
    (record { standing = after_all s opening; text = codes "declined " ++ decimal (w.limits to) ++ codes "\n" })
    (λ fits.
    let m = drives.moved e g can (leb-true (page_count board g) (w.limits to) fits) in
    record {
      world = m.made ∙ sym (after_run s events);
      text =
          ap driven_text m.answer
          ∙ ap (λ k. codes "moved " ++ decimal k ++ codes " events " ++ decimal count ++ codes "\n") (sym number)
          ∙ ap (λ k. codes "moved " ++ decimal n ++ codes " events " ++ decimal k ++ codes "\n") (sym m.events);
    })
    (λ large.
    let m = drives.declined e g can (leb-false (page_count board g) (w.limits to) large) in
    record { world = m.made ∙ sym (after_run s opening); text = ap driven_text m.answer })

moved_by : (d : Driven) (w new : BoardWorld) (from to : ℕ) (p : Policy) (t : Told Guest)
    → DrivesTo d w new from to (policy_of p) → (r : Reply BoardReply)
    → reply_to board w (At from (Begin to (policy_of p))) ≡ r → BeginReply w from to (policy_of p) r
    → MovedAs d new (moved_if from to p r (standing w t))
moved_by d w new from to p t drives (reply.Begun n) is b =
    subst (λ O. MovedAs d new (moved_with from to p (guest_in O) n (standing w t))) (sym b.can.runs)
    (moved_fits d w new from to p t n b.before b.guest drives b.can b.number)
moved_by d w new from to p t drives (reply.Refused why) is b =
    let q = named why in
    let m = drives.refused q.name (is ∙ ap (λ z. reply.Refused z) (sym q.is)) in
    record {
      world = m.stays;
      text = ap driven_text m.answer ∙ refused_text q.name why q.is;
    }
moved_by d w new from to p t drives (reply.Answered answer) is b = absurd b
moved_by d w new from to p t drives (reply.Copied page number) is b = absurd b
moved_by d w new from to p t drives (reply.RoundEnded round sent skipped left) is b = absurd b
moved_by d w new from to p t drives reply.Stopping is b = absurd b
moved_by d w new from to p t drives reply.StateSent is b = absurd b
moved_by d w new from to p t drives (reply.PartSent part parts) is b = absurd b
moved_by d w new from to p t drives reply.Resent is b = absurd b
moved_by d w new from to p t drives reply.Aborted is b = absurd b
moved_by d w new from to p t drives reply.Open is b = absurd b
moved_by d w new from to p t drives (reply.MoveDeclined limit) is b = absurd b
moved_by d w new from to p t drives (reply.Fixing count) is b = absurd b
moved_by d w new from to p t drives (reply.Committed n) is b = absurd b
moved_by d w new from to p t drives reply.Finished is b = absurd b
moved_by d w new from to p t drives reply.Accepted is b = absurd b
moved_by d w new from to p t drives (reply.Declined limit) is b = absurd b
moved_by d w new from to p t drives (reply.Stored page number) is b = absurd b
moved_by d w new from to p t drives reply.Noted is b = absurd b
moved_by d w new from to p t drives (reply.Kept part parts) is b = absurd b
moved_by d w new from to p t drives (reply.Lacking count) is b = absurd b
moved_by d w new from to p t drives reply.ReadySent is b = absurd b
moved_by d w new from to p t drives reply.StartedHere is b = absurd b
moved_by d w new from to p t drives reply.Dropped is b = absurd b

-- a move that was driven is the one that a script makes
pub moved_as : (d : Driven) (w new : BoardWorld) (from to : ℕ) (p : Policy) (t : Told Guest) → IsReached w
    → DrivesTo d w new from to (policy_of p) → MovedAs d new (moved from to p (standing w t))
moved_as d w new from to p t reached drives =
    moved_by d w new from to p t drives (reply_to board w (At from (Begin to (policy_of p)))) refl
    (begin_told w from to (policy_of p) reached)
