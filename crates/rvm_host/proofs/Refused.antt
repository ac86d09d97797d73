-- Which commands a host refuses.
use Rattle.std.proofs.Common.{◌≡◌, ℕ, ◌-◌, ◌^◌, ◌==◌, Bool, true, false, not, ◌&&◌, ◌||◌, if◌then◌else◌, refl, ◌∙◌}
use Rattle.rvm_board.specs.Guest.{Guest, GuestState}
use Rattle.rvm_guest.specs.TheGuest.{board}
use Rattle.rvm_message.specs.Answers.{BoardOutcome}
use Rattle.rvm_message.specs.Events.{command_of}
use Rattle.rvm_message.specs.Replies.{is_refused_outright}
use Rattle.rvm_message.specs.declared.event.Command.{Command}
use Rattle.rvm_message.specs.declared.event.Command.TheVariants as command
use Rattle.rvm_precopy.specs.Plans.{Plan}
use Rattle.rvm_precopy.specs.declared.policy.Policy as code
use Rattle.rvm_protocol.specs.Commands.{Policy, Begin, Do, is_allowed}
use Rattle.rvm_protocol.specs.Host.{is_there, obey_at}
use Rattle.rvm_protocol.specs.Modes as protocol
use Rattle.rvm_protocol.specs.Modes.{refuses}
use Rattle.rvm_protocol.specs.Obeying.{abort, begin, begun, obey}
use Rattle.rvm_protocol.specs.Replies.{BadHost, BadSize, EpochsSpent}
use Rattle.rvm_source.specs.Sources as source
use Rattle.rvm_source.specs.Sources.{PlainSource, mode_in}
use Rattle.rvm_source.specs.declared.phase.Phase.{Phase}
use Rattle.rvm_source.specs.declared.phase.Phase.TheVariants as phases
use Rattle.rvm_host.specs.Hosts.{PlainHost, step_of}
use Rattle.rvm_host.specs.Modes.{PlainMode, Empty, Run, Leaving, Given, Staging, Held, mode_of, runs}

abbrev refused : BoardOutcome → Bool
refused o = is_refused_outright o.reply

-- MODES

by_rules : (allowed last : Bool) (x y z : BoardOutcome) → refused x ≡ true → refused y ≡ false → refused z ≡ true
    → refused (if allowed then (if last then x else y) else z) ≡ (not allowed || last)
by_rules true true x y z a b c = a
by_rules true false x y z a b c = b
by_rules false last x y z a b c = c

-- a guest that runs begins no move by a policy that is not allowed, and none after the last number
pub run_begins : (p : Policy) (n : ℕ) (g : Guest) → refused (begin board p (protocol.Run n g)) ≡ (not (is_allowed p) || (n == 2 ^ 64 - 1))
run_begins p n g =
    by_rules (is_allowed p) (n == 2 ^ 64 - 1) (refuses EpochsSpent (protocol.Run n g)) (begun board p n g) (refuses BadSize (protocol.Run n g)) refl refl refl

busy_in : (p : Policy) (n : ℕ) (g : GuestState) (r : Plan) (f : Phase) → refused (begin board p (mode_in n g r f)) ≡ true
busy_in p n g r phases.Offering = refl
busy_in p n g r phases.Copying = refl
busy_in p n g r (phases.Stopped turn) = refl

pub leaving_busy : (p : Policy) (s : PlainSource) → refused (begin board p (source.mode_of s)) ≡ true
leaving_busy p s = busy_in p s.move_number s.guest s.plan s.phase

given_up_in : (n : ℕ) (g : GuestState) (r : Plan) (f : Phase) → refused (abort board (mode_in n g r f)) ≡ false
given_up_in n g r phases.Offering = refl
given_up_in n g r phases.Copying = refl
given_up_in n g r (phases.Stopped turn) = refl

pub leaving_aborts : (s : PlainSource) → refused (abort board (source.mode_of s)) ≡ false
leaving_aborts s = given_up_in s.move_number s.guest s.plan s.phase

-- HOSTS

same_begin : (version id count to : ℕ) (p : Policy) (n : ℕ) (g : GuestState) (r : Plan) (f : Phase)
    → refused (obey_at board version id count (Begin to p) (mode_in n g r f)) ≡ refused (begin board p (mode_in n g r f))
same_begin version id count to p n g r phases.Offering = refl
same_begin version id count to p n g r phases.Copying = refl
same_begin version id count to p n g r (phases.Stopped turn) = refl

by_target : (there : Bool) (x y : BoardOutcome) → refused y ≡ true → refused (if there then x else y) ≡ (not there || refused x)
by_target true x y h = refl
by_target false x y h = h

begin_in : (version id count to : ℕ) (p : Policy) (mode : PlainMode)
    → refused (obey_at board version id count (Begin to p) (mode_of mode)) ≡ ((runs mode && not (is_there id count to)) || refused (begin board p (mode_of mode)))
begin_in version id count to p (Run n g) =
    by_target (is_there id count to) (begin board p (protocol.Run n g)) (refuses BadHost (protocol.Run n g)) refl
begin_in version id count to p (Empty n) = refl
begin_in version id count to p (Leaving s) = same_begin version id count to p s.move_number s.guest s.plan s.phase
begin_in version id count to p (Given n kept) = refl
begin_in version id count to p (Staging n s) = refl
begin_in version id count to p (Held n g) = refl

-- if the guest runs, Begin is refused for a target that is not there
pub begin_refused : (h : PlainHost) (to : ℕ) (p : Policy)
    → is_refused_outright (step_of h (Do (Begin to p))).reply
    ≡ ((runs h.mode && not (is_there h.id h.count to)) || is_refused_outright (begin board p (mode_of h.mode)).reply)
begin_refused h to p = begin_in h.version h.id h.count to p h.mode

pub begin_not_refused : (h : PlainHost) (to : ℕ) (p : Policy) → (runs h.mode && not (is_there h.id h.count to)) ≡ false
    → is_refused_outright (begin board p (mode_of h.mode)).reply ≡ false → is_refused_outright (step_of h (Do (Begin to p))).reply ≡ false
begin_not_refused h to p clear so = begin_refused h to p ∙ (λ i. clear i || so i)

-- any other command is refused by the mode alone
pub obey_refused : (h : PlainHost) (c : Command) → ((to : ℕ) (policy : code.Policy) → c ≡ command.Begin to policy → ⊥)
    → is_refused_outright (step_of h (Do (command_of c))).reply ≡ is_refused_outright (obey board h.version (command_of c) (mode_of h.mode)).reply
obey_refused h (command.Board e) other = refl
obey_refused h (command.Begin to policy) other = absurd (other to policy refl)
obey_refused h command.Copy other = refl
obey_refused h command.Resend other = refl
obey_refused h command.Abort other = refl
