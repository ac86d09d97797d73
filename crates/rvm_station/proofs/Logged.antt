-- What a log kept after one more call of its host.
use Rattle.std.proofs.Common.{◌≡◌, ◌∙◌, ℕ, zero, suc, ◌+◌, ◌%◌, List, [], ◌∷◌, ◌++◌, Option, None, Some, map, ap, refl, subst, sym}
use Rattle.std.proofs.lemmas.Grind.{fold-append}
use Rattle.std.proofs.lemmas.List.{map-append}
use Rattle.std.specs.List.{fold}
use Rattle.rvm_board.specs.declared.retiring.Retired as told
use Rattle.rvm_frame.specs.declared.addressed.Addressed.{Addressed}
use Rattle.rvm_hart.specs.declared.outcome.Stepped.{Stepped}
use Rattle.rvm_hart.specs.declared.outcome.Stepped.TheVariants.{Retired}
use Rattle.rvm_host.specs.Hosts.{PlainHost, Steps, host_of}
use Rattle.rvm_host.specs.Retiring.{AreRetired, HostRetires, IsLast}
use Rattle.rvm_message.specs.declared.event.HostEvent.{HostEvent}
use Rattle.rvm_message.specs.declared.reply.HostReply.{HostReply}
use Rattle.rvm_message.specs.declared.step.StepReply.TheVariants as step
use Rattle.rvm_message.specs.Events.{event_of}
use Rattle.rvm_message.specs.Exchanges.{step_of_hart}
use Rattle.rvm_message.specs.Steps.{reply_to_step}
use Rattle.rvm_station.specs.Events.{IsReached, next_at}
use Rattle.rvm_station.specs.Logs.{IsEmpty, KeepsOn, steps_from}
use Rattle.rvm_station.proofs.Logs.{steps_more}
use Rattle.rvm_station.specs.Logged.{IsLogged, IsTold, made_in, steps_to}
use Rattle.rvm_station.proofs.Events as events

-- EVENTS THAT LEAD FROM A HOST TO ANOTHER ONE

-- these events lead from a host to another one, if the first began as `o`
abbrev Lead : (o old new : PlainHost) → List HostEvent → Type 0
Lead o old new es = host_of new ≡ fold (next_at o) (host_of old) (map event_of es)

one : (o old new : PlainHost) (e : HostEvent) (a : HostReply × Option Addressed) → IsReached o old
    → Steps old (event_of e) a new → Lead o old new (e ∷ [])
one o old new e a r s = s.next ∙ events.same_step o old (event_of e) r.rest

both : (o old between new : PlainHost) (es fs : List HostEvent) → Lead o old between es → Lead o between new fs
    → Lead o old new (es ++ fs)
both o old between new es fs first second =
    second
    ∙ (ap (λ x. fold (next_at o) x (map event_of fs)) first
    ∙ (sym (fold-append (next_at o) (host_of old) (map event_of es) (map event_of fs))
    ∙ ap (λ l. fold (next_at o) (host_of old) l) (sym (map-append event_of es fs))))

-- TURNS

-- one turn
pub one_step : (turn harts : ℕ) → steps_from turn harts 1 ≡ step_of_hart (turn % harts) ∷ []
unfolding steps_from
one_step turn harts = refl

-- turns that retired an instruction
all_led : (o : PlainHost) (harts n turn : ℕ) (old new : PlainHost) → IsReached o old → AreRetired harts n turn old new
    → Lead o old new (steps_from turn harts n)
unfolding steps_from
all_led o harts zero turn old new r all = ap (λ (h : PlainHost). host_of h) all
all_led o harts (suc n) turn old new r all =
    let answer : HostReply × Option Addressed = (reply_to_step (step.Stepped Retired), None) in
    let first = one o old all.0 (step_of_hart (turn % harts)) answer r all.1 in
    let reached = events.stepped o old all.0 (event_of (step_of_hart (turn % harts))) answer r all.1 in
    all_led o harts n (turn + 1) all.0 new reached all.2
    ∙ ap (λ x. fold (next_at o) x (map event_of (steps_from (turn + 1) harts n))) first

-- and the last one
last_led : (o : PlainHost) (harts n turn : ℕ) (last : Option Stepped) (old between new : PlainHost) → IsReached o old
    → AreRetired harts n turn old between → IsLast ((turn + n) % harts) last between new
    → Lead o old new (steps_from turn harts (steps_to n last))
last_led o harts n turn None old between new r all is =
    ap (λ (h : PlainHost). host_of h) is ∙ all_led o harts n turn old between r all
last_led o harts n turn (Some s) old between new r all is =
    let answer : HostReply × Option Addressed = (reply_to_step (step.Stepped s), None) in
    let reached = events.all_retired o harts n turn old between r all in
    let last = one o between new (step_of_hart ((turn + n) % harts)) answer reached is in
    subst (λ es. Lead o old new es) (sym (steps_more turn harts n))
    (both o old between new (steps_from turn harts n) (step_of_hart ((turn + n) % harts) ∷ [])
    (all_led o harts n turn old between r all) last)

-- WHAT IS KEPT

-- what was kept before events, and these
kept_on : (o old new : PlainHost) (before now : Option (List HostEvent)) (es : List HostEvent) → IsTold before o old
    → KeepsOn before now es → Lead o old new es → IsTold now o new
kept_on o old new None now es told is lead = subst (λ k. IsTold k o new) (sym is) tt
kept_on o old new (Some kept) None es told is lead = tt
kept_on o old new (Some kept) (Some all) es told is lead =
    subst (λ l. Lead o o new l) (sym is) (both o o old new kept es told lead)

-- a host before any event
first_kept : (o : PlainHost) (kept : Option (List HostEvent)) → IsEmpty kept → IsTold kept o o
first_kept o None empty = tt
first_kept o (Some kept) empty = subst (λ l. Lead o o o l) (sym empty) refl

pub at_first : (o h : PlainHost) (kept : Option (List HostEvent)) → h ≡ o → IsEmpty kept → IsLogged kept o h
at_first o h kept same empty = subst (λ x. IsLogged kept o x) (sym same)
    (record { reached = events.at_first o; told = first_kept o kept empty })

-- a host after one more event, which was kept
pub one_kept : (o old new : PlainHost) (before now : Option (List HostEvent)) (e : HostEvent)
    (a : HostReply × Option Addressed) → IsLogged before o old → Steps old (event_of e) a new
    → KeepsOn before now (e ∷ []) → IsLogged now o new
one_kept o old new before now e a was s keeps = record {
  reached = events.stepped o old new (event_of e) a was.reached s;
  told = kept_on o old new before now (e ∷ []) was.told keeps (one o old new e a was.reached s);
}

-- a host after one more turn, which was kept
pub turn_kept : (o old new : PlainHost) (before now : Option (List HostEvent)) (turn harts : ℕ) (reply : HostReply)
    → IsLogged before o old → Steps old (event_of (step_of_hart (turn % harts))) (reply, None) new
    → KeepsOn before now (steps_from turn harts 1) → IsLogged now o new
turn_kept o old new before now turn harts reply was s keeps =
    one_kept o old new before now (step_of_hart (turn % harts)) (reply, None) was s
    (subst (λ es. KeepsOn before now es) (one_step turn harts) keeps)

-- a host after turns, which were kept
pub turns_kept : (o old new : PlainHost) (before now : Option (List HostEvent)) (harts turn count : ℕ)
    (made : told.Retired) → IsLogged before o old → HostRetires harts turn count old new made
    → KeepsOn before now (steps_from turn harts (made_in made)) → IsLogged now o new
turns_kept o old new before now harts turn count made was h keeps = record {
  reached = events.retired o harts turn count old new made was.reached h;
  told = kept_on o old new before now (steps_from turn harts (made_in made)) was.told keeps
      (last_led o harts made.count turn made.last old h.between new was.reached h.retired h.last);
}

-- a host whose log kept nothing more
pub same_kept : (o h : PlainHost) (before now : Option (List HostEvent)) → IsLogged before o h → KeepsOn before now []
    → IsLogged now o h
same_kept o h before now was keeps =
    record { reached = was.reached; told = kept_on o h h before now [] was.told keeps refl }
