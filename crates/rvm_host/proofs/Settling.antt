-- The step of a host follows from the answer of its mode.
use Rattle.std.proofs.Common.{◌≡◌, ℕ, Bool, true, false, ◌&&◌, not, if◌then◌else◌, Option, None, refl, sym, ap, subst, ◌∙◌}
use Rattle.rvm_board.specs.declared.event.BoardReply.{BoardReply}
use Rattle.rvm_frame.specs.declared.addressed.Addressed.{Addressed}
use Rattle.rvm_frame.specs.declared.frame.Frame.{Frame}
use Rattle.rvm_guest.specs.TheGuest.{board}
use Rattle.rvm_message.specs.Answers.{Answers, BoardOutcome}
use Rattle.rvm_message.specs.Events.{BoardHostEvent, command_of}
use Rattle.rvm_message.specs.declared.event.Command.{Command}
use Rattle.rvm_message.specs.declared.event.Command.TheVariants as command
use Rattle.rvm_precopy.specs.declared.policy.Policy as code
use Rattle.rvm_message.specs.Frames.{BoardFrame, addressed_made, frame_made}
use Rattle.rvm_message.specs.Replies.{reply_of}
use Rattle.rvm_message.specs.declared.reply.HostReply.{HostReply}
use Rattle.rvm_message.specs.declared.reply.HostReply.TheVariants as reply
use Rattle.rvm_message.specs.declared.reply.HostRefusal.TheVariants as refusal
use Rattle.rvm_protocol.specs.Commands.{Policy, AbortMove, Begin, Board, Came, Copy, Do, Resend}
use Rattle.rvm_protocol.specs.Frames.{plain, posted}
use Rattle.rvm_protocol.specs.Host.{addressee, is_heard, is_there, obey_at, outcome, partner_then}
use Rattle.rvm_protocol.specs.Modes.{ignores, refuses}
use Rattle.rvm_protocol.specs.Obeying as obeying
use Rattle.rvm_protocol.specs.Receiving as receiving
use Rattle.rvm_protocol.specs.Replies.{BadHost, Reply}
use Rattle.rvm_board.specs.Guest.{GuestState}
use Rattle.rvm_precopy.specs.Plans.{Plan}
use Rattle.rvm_source.specs.Sources.{mode_in}
use Rattle.rvm_source.specs.declared.phase.Phase.{Phase}
use Rattle.rvm_source.specs.declared.phase.Phase.TheVariants as phases
use Rattle.rvm_host.specs.Hosts.{PlainHost, Steps, host_of, partner_of}
use Rattle.rvm_host.specs.Modes.{PlainMode, Empty, Run, Leaving, Given, Staging, Held, mode_of, runs}

-- the protocol's outcome of an event at a host
abbrev pub outcome_of : PlainHost → BoardHostEvent → BoardOutcome
outcome_of h e = outcome board h.version h.id h.count h.limit e (host_of h)

pub settle : (old new : PlainHost) (e : BoardHostEvent) (answer : HostReply × Option Frame) (made : Option Addressed) (after : PlainMode) (p : ℕ)
    → Answers old.version (outcome_of old e) answer (mode_of after)
    → p ≡ partner_then e (reply_of answer.0) old.partner
    → addressed_made made ≡ posted old.id (addressee e p) (frame_made answer.1)
    → new ≡ record old { mode = after; partner = p }
    → Steps old e (answer.0, made) new
settle old new e answer made after p does ep em en =
    let pp : p ≡ partner_then e (outcome_of old e).reply old.partner = ep ∙ ap (λ (r : Reply BoardReply). partner_then e r old.partner) does.reply in
    record {
      reply = does.reply;
      made = em ∙ (λ i. posted old.id (addressee e (pp i)) (does.made i));
      next = ap host_of en ∙ (λ i. record { mode = does.mode i; partner = pp i });
      rest = en ∙ sym (ap (λ (h : PlainHost). record old { mode = h.mode; partner = h.partner }) en);
    }

-- BEGIN

leaving_begins : (version id count to : ℕ) (p : Policy) (n : ℕ) (g : GuestState) (r : Plan) (phase : Phase)
    → obey_at board version id count (Begin to p) (mode_in n g r phase) ≡ obeying.begin board p (mode_in n g r phase)
leaving_begins version id count to p n g r phases.Offering = refl
leaving_begins version id count to p n g r phases.Copying = refl
leaving_begins version id count to p n g r (phases.Stopped turn) = refl

pub not_running : (a b : Bool) → a ≡ false → (a && b) ≡ false
not_running true b h = absurd cc
not_running false b h = refl

pub target_there : (a b : Bool) → b ≡ true → (a && not b) ≡ false
target_there true b h = ap not h
target_there false b h = refl

there : (b : Bool) → (true && not b) ≡ false → b ≡ true
there true h = refl
there false h = sym h

pub begins_there : (version id count to : ℕ) (p : Policy) (mode : PlainMode) → (runs mode && not (is_there id count to)) ≡ false
    → obey_at board version id count (Begin to p) (mode_of mode) ≡ obeying.begin board p (mode_of mode)
begins_there version id count to p (Run n g) is =
    ap (λ (b : Bool). if b then obeying.begin board p (mode_of (Run n g)) else refuses BadHost (mode_of (Run n g))) (there (is_there id count to) is)
begins_there version id count to p (Empty n) is = refl
begins_there version id count to p (Leaving s) is = leaving_begins version id count to p s.move_number s.guest s.plan s.phase
begins_there version id count to p (Given n kept) is = refl
begins_there version id count to p (Staging n s) is = refl
begins_there version id count to p (Held n g) is = refl

pub begin_steps : (old new : PlainHost) (to : ℕ) (policy : Policy) (answer : HostReply × Option Frame) (made : Option Addressed) (after : PlainMode) (partner : ℕ)
    → (runs old.mode && not (is_there old.id old.count to)) ≡ false
    → Answers old.version (obeying.begin board policy (mode_of old.mode)) answer (mode_of after)
    → partner ≡ partner_of (Do (Begin to policy)) answer.0 old.partner
    → addressed_made made ≡ posted old.id partner (frame_made answer.1)
    → new ≡ record old { mode = after; partner = partner }
    → Steps old (Do (Begin to policy)) (answer.0, made) new
begin_steps old new to policy answer made after partner clear does =
    settle old new (Do (Begin to policy)) answer made after partner
    (subst (λ (o : BoardOutcome). Answers old.version o answer (mode_of after)) (sym (begins_there old.version old.id old.count to policy old.mode clear)) does)

-- OTHER COMMANDS

module _ (old new : PlainHost) (answer : HostReply × Option Frame) (made : Option Addressed) (after : PlainMode)
    (em : addressed_made made ≡ posted old.id old.partner (frame_made answer.1)) (en : new ≡ record old { mode = after }) where
  pub obey_steps : (c : Command) → ((to : ℕ) (policy : code.Policy) → c ≡ command.Begin to policy → ⊥)
      → Answers old.version (obeying.obey board old.version (command_of c) (mode_of old.mode)) answer (mode_of after)
      → Steps old (Do (command_of c)) (answer.0, made) new
  obey_steps (command.Board e) other does = settle old new (Do (Board e)) answer made after old.partner does refl em en
  obey_steps (command.Begin to policy) other does = absurd (other to policy refl)
  obey_steps command.Copy other does = settle old new (Do Copy) answer made after old.partner does refl em en
  obey_steps command.Resend other does = settle old new (Do Resend) answer made after old.partner does refl em en
  obey_steps command.Abort other does = settle old new (Do AbortMove) answer made after old.partner does refl em en

-- FRAMES

module _ (old : PlainHost) (from : ℕ) (f : BoardFrame) where
  abbrev heard : Bool
  heard = is_heard old.id old.count from (plain board f) (host_of old)

  abbrev came : BoardOutcome
  came = receiving.came board old.limit (plain board f) (mode_of old.mode)

  pub heard_is : true ≡ heard → outcome_of old (Came from f) ≡ came
  heard_is is = ap (λ (b : Bool). if b then came else ignores (mode_of old.mode)) (sym is)

  pub came_steps : (new : PlainHost) (answer : HostReply × Option Frame) (made : Option Addressed) (after : PlainMode) (partner : ℕ) → true ≡ heard
      → Answers old.version came answer (mode_of after)
      → partner ≡ partner_of (Came from f) answer.0 old.partner
      → addressed_made made ≡ posted old.id from (frame_made answer.1)
      → new ≡ record old { mode = after; partner = partner }
      → Steps old (Came from f) (answer.0, made) new
  came_steps new answer made after partner is does =
      settle old new (Came from f) answer made after partner
      (subst (λ (o : BoardOutcome). Answers old.version o answer (mode_of after)) (sym (heard_is is)) does)

  pub not_heard : false ≡ heard → Steps old (Came from f) (reply.Refused refusal.Ignored, None) old
  not_heard is =
      let whole : outcome_of old (Came from f) ≡ ignores (mode_of old.mode) = ap (λ (b : Bool). if b then came else ignores (mode_of old.mode)) (sym is) in
      settle old old (Came from f) (reply.Refused refusal.Ignored, None) None old.mode old.partner
      (subst (λ (o : BoardOutcome). Answers old.version o (reply.Refused refusal.Ignored, None) (mode_of old.mode)) (sym whole) (record { reply = refl; made = refl; mode = refl }))
      refl refl refl
