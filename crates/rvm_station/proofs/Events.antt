-- A host after one more event.
use Rattle.std.proofs.Common.{◌≡◌, ◌∙◌, ℕ, zero, suc, ◌+◌, ◌%◌, [], ◌∷◌, ◌++◌, Option, None, Some, Result, Ok, Err, ap, refl, subst, sym}
use Rattle.std.proofs.lemmas.Grind.{fold-append}
use Rattle.std.specs.Prelude.{IfOk, IfSome, OnErr}
use Rattle.rvm_host.specs.Hosts.{PlainHost, Steps, host_of, step_of}
use Rattle.rvm_host.specs.Looks.{asked_guest}
use Rattle.rvm_host.specs.Retiring.{AreRetired, HostRetires, IsLast}
use Rattle.rvm_board.specs.declared.retiring.Retired as told
use Rattle.rvm_board.specs.declared.snapshot.Snapshot.{Snapshot}
use Rattle.rvm_frame.specs.declared.addressed.Addressed.{Addressed}
use Rattle.rvm_hart.specs.declared.outcome.Stepped.{Stepped}
use Rattle.rvm_hart.specs.declared.outcome.Stepped.TheVariants.{Retired}
use Rattle.rvm_message.specs.declared.event.HostEvent.{HostEvent}
use Rattle.rvm_message.specs.declared.reply.HostRefusal.{HostRefusal}
use Rattle.rvm_message.specs.declared.reply.HostReply.{HostReply}
use Rattle.rvm_message.specs.declared.step.StepReply.TheVariants as step
use Rattle.rvm_message.specs.Events.{BoardHostEvent, event_of}
use Rattle.rvm_message.specs.Exchanges.{step_of_hart}
use Rattle.rvm_message.specs.Steps.{reply_to_step}
use Rattle.rvm_station.specs.Events.{IsAnswer, IsMade, IsReached, next_at}
use Rattle.rvm_station.specs.Halts.{IsOfStep}
use Rattle.rvm_station.specs.Looks.{HasLooked, IsShown}
use Rattle.rvm_source.specs.Looks.{IsLook}

-- a host before any event
pub at_first : (o : PlainHost) → IsReached o o
at_first o = record { events = []; reached = refl; rest = refl }

-- the step of a host that has the numbers of the opening host
pub same_step : (o h : PlainHost) (e : BoardHostEvent) → h ≡ record o { mode = h.mode; partner = h.partner }
    → (step_of h e).next ≡ next_at o (host_of h) e
same_step o h e rest = ap (λ (x : PlainHost). (step_of x e).next) rest

-- a host after one more event
pub stepped : (o old new : PlainHost) (e : BoardHostEvent) (a : HostReply × Option Addressed)
    → IsReached o old → Steps old e a new → IsReached o new
stepped o old new e a r s = record {
  events = r.events ++ e ∷ [];
  reached =
      s.next ∙ (same_step o old e r.rest
      ∙ (ap (λ x. next_at o x e) r.reached
      ∙ sym (fold-append (next_at o) (host_of o) r.events (e ∷ []))));
  rest = s.rest ∙ ap (λ (x : PlainHost). record x { mode = new.mode; partner = new.partner }) r.rest;
}

-- a frame that a host made
pub made : (o old new : PlainHost) (e : BoardHostEvent) (reply : HostReply) (frame : Addressed)
    → IsReached o old → Steps old e (reply, Some frame) new → IsMade o frame
made o old new e reply frame r s = record { host = old; reached = r; event = e; made = s.made }

-- the frame that a host made, if it made one
pub made_in : (o old new : PlainHost) (e : BoardHostEvent) (reply : HostReply) (frame : Option Addressed)
    → IsReached o old → Steps old e (reply, frame) new → IfSome frame (IsMade o)
made_in o old new e reply None r s = tt
made_in o old new e reply (Some a) r s = made o old new e reply a r s

-- nothing was done
pub kept : (o old new : PlainHost) → new ≡ old → IsReached o old → IsReached o new
kept o old new same r = subst (λ h. IsReached o h) (sym same) r

-- a host after a call, which may have been refused
pub called : {E : Type 0} (o old new : PlainHost) (e : BoardHostEvent) (r : Result (HostReply × Option Addressed) E) → IsReached o old
    → IfOk r (λ a. Steps old e a new) → OnErr r (new ≡ old) → IsReached o new
called o old new e (Ok a) r steps same = stepped o old new e a r steps
called o old new e (Err x) r steps same = kept o old new same r

-- the reply that a host gave
pub answered : (o old new : PlainHost) (e : HostEvent) (reply : HostReply) (frame : Option Addressed)
    → IsReached o old → Steps old (event_of e) (reply, frame) new → IsAnswer o e reply
answered o old new e reply frame r s = record { host = old; reached = r; replied = s.reply }

-- a host after steps that retired an instruction
pub all_retired : (o : PlainHost) (harts n turn : ℕ) (old new : PlainHost) → IsReached o old
    → AreRetired harts n turn old new → IsReached o new
all_retired o harts zero turn old new r all = kept o old new all r
all_retired o harts (suc n) turn old new r all =
    let one = stepped o old all.0 (event_of (step_of_hart (turn % harts))) (reply_to_step (step.Stepped Retired), None) r all.1 in
    all_retired o harts n (turn + 1) all.0 new one all.2

-- a host after a step that may have been made
last_made : (o : PlainHost) (h : ℕ) (s : Option Stepped) (old new : PlainHost) → IsReached o old → IsLast h s old new
    → IsReached o new
last_made o h None old new r is = kept o old new is r
last_made o h (Some s) old new r is = stepped o old new (event_of (step_of_hart h)) (reply_to_step (step.Stepped s), None) r is

-- a host after steps that retired, and the last one
pub retired : (o : PlainHost) (harts turn count : ℕ) (old new : PlainHost) (made : told.Retired) → IsReached o old
    → HostRetires harts turn count old new made → IsReached o new
retired o harts turn count old new made r h =
    last_made o ((turn + made.count) % harts) made.last h.between new
    (all_retired o harts made.count turn old h.between r h.retired) h.last

-- the reply to a step was given
pub step_given : (o old new : PlainHost) (h : ℕ) (reply : HostReply) → IsReached o old
    → Steps old (event_of (step_of_hart h)) (reply, None) new → IsOfStep (IsAnswer o) reply
step_given o old new h reply r s = (h, answered o old new (step_of_hart h) reply None r s)

-- the reply to the last of several steps was given, if it was made
last_made_given : (o : PlainHost) (h : ℕ) (s : Option Stepped) (old new : PlainHost) → IsReached o old → IsLast h s old new
    → IfSome s (λ x. IsOfStep (IsAnswer o) (reply_to_step (step.Stepped x)))
last_made_given o h None old new r is = tt
last_made_given o h (Some s) old new r is = step_given o old new h (reply_to_step (step.Stepped s)) r is

pub last_given : (o : PlainHost) (harts turn count : ℕ) (old new : PlainHost) (made : told.Retired) → IsReached o old
    → HostRetires harts turn count old new made
    → IfSome made.last (λ x. IsOfStep (IsAnswer o) (reply_to_step (step.Stepped x)))
last_given o harts turn count old new made r h =
    last_made_given o ((turn + made.count) % harts) made.last h.between new
    (all_retired o harts made.count turn old h.between r h.retired) h.last

-- what a look gave was shown
pub shown : (o h : PlainHost) (seen : Result Snapshot HostRefusal) → IsReached o h → IsLook (asked_guest h.mode) seen
    → HasLooked (IsShown o) seen
shown o h seen r look = record {
  guest = asked_guest h.mode;
  shown = record { host = h; reached = r; shown = refl };
  look = look;
}
