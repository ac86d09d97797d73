-- A line makes whole events, and each of them keeps what the modes show.
use Rattle.std.proofs.Common.{◌≡◌, ℕ, zero, suc, ◌+◌, Bool, true, false, cond, List, [], ◌∷◌, ◌++◌, Option, Some, None, refl, ap, sym, ◌∙◌, subst}
use Rattle.rvm_board.specs.declared.event.BoardEvent.{BoardEvent}
use Rattle.rvm_board.specs.declared.event.BoardEvent.TheVariants as event
use Rattle.rvm_board.specs.declared.event.BoardReply.{BoardReply}
use Rattle.rvm_board.specs.Guest.{Guest}
use Rattle.rvm_guest.proofs.TheGuest.{board_laws}
use Rattle.rvm_guest.specs.TheGuest.{board}
use Rattle.rvm_guest.specs.Valid.{is_valid}
use Rattle.rvm_precopy.specs.declared.policy.Policy.{Policy}
use Rattle.rvm_precopy.specs.Policies.{policy_of}
use Rattle.rvm_protocol.proofs.OneGuestHolds.{the_law_from_any_world}
use Rattle.rvm_protocol.proofs.Runs.{told_more}
use Rattle.rvm_protocol.specs.Commands.{AbortMove, Begin, Board, Copy, Resend}
use Rattle.rvm_protocol.specs.OneGuest.{OneGuestFromAnyWorld}
use Rattle.rvm_protocol.specs.Replies as reply
use Rattle.rvm_protocol.specs.Replies.{Reply}
use Rattle.rvm_protocol.specs.Shown.{Shown}
use Rattle.rvm_protocol.specs.Told.{told}
use Rattle.rvm_protocol.specs.World.{At, Deliver, Event, entry_of, history, meaning, run}
use Rattle.rvm_debug.specs.declared.line.Line.{Line}
use Rattle.rvm_debug.specs.declared.line.Line.TheVariants as line
use Rattle.rvm_core.specs.Worlds.{IsReached}
use Rattle.rvm_core.specs.declared.world_line.Asked.{Asked}
use Rattle.rvm_core.specs.declared.world_line.Asked.TheVariants as asked
use Rattle.rvm_core.specs.declared.world_line.WorldLine.{WorldLine}
use Rattle.rvm_core.specs.declared.world_line.WorldLine.TheVariants as lines
use Rattle.rvm_core.specs.WorldLines.{world_line_of}
use Rattle.rvm_core.specs.WorldScript.{Answers, Replied, Standing, Stepping, after, after_all, answers_by, asked_done, done_by, guest_done, host_in, inputs, moved_if, moved_with, reply_in, stepping, target, world_script_of}

pub after_none : (s : Standing) → after_all s [] ≡ s
unfolding after_all
after_none s = refl

pub after_more : (s : Standing) (es fs : List (Event BoardEvent))
    → after_all s (es ++ fs) ≡ after_all (after_all s es) fs
unfolding after_all
after_more s [] fs = refl
after_more s (e ∷ es) fs = after_more (after s e) es fs

-- after events, the world and what the replies told are those of the protocol
pub after_run : (s : Standing) (es : List (Event BoardEvent)) → (after_all s es).world ≡ run board s.world es
unfolding after_all run
after_run s [] = refl
after_run s (e ∷ es) = after_run (after s e) es

after_told : (s : Standing) (es : List (Event BoardEvent))
    → (after_all s es).told ≡ told board s.told (history board s.world es)
unfolding after_all history told
after_told s [] = refl
after_told s (e ∷ es) =
    let now = after s e in
    after_told now es
    ∙ sym (told_more board board_laws s.told (entry_of board s.world (meaning board s.world e)) (history board now.world es))

allowed : (g : Guest) → is_valid g ≡ true → board.valid g ≡ true
unfolding board
allowed g valid = valid

-- if the modes of a world that was reached show what the replies told, they do so after events
shown_after_all : (s : Standing) (es : List (Event BoardEvent)) → IsReached s.world → Shown s.world.hosts s.told
    → Shown (after_all s es).world.hosts (after_all s es).told
unfolding OneGuestFromAnyWorld
shown_after_all s es r shown =
    let law =
    the_law_from_any_world board board_laws r.start s.world.version 0 s.world.count r.limits r.before es s.told
    (allowed r.start r.valid) (subst (λ z. Shown z.hosts s.told) r.reached shown)
    in
    let here =
    subst (λ z. Shown (run board z es).hosts (told board s.told (history board z es))) (sym r.reached) law.shown
    in
    subst (λ t. Shown (after_all s es).world.hosts t) (sym (after_told s es))
    (subst (λ w. Shown w.hosts (told board s.told (history board s.world es))) (sym (after_run s es)) here)

-- some events lead from one standing to another
pub record Made (s t : Standing) : Type 0 where
  pub events : List (Event BoardEvent)
  pub made : t ≡ after_all s events

made_none : (s : Standing) → Made s s
made_none s = record { events = []; made = sym (after_none s) }

made_one : (s : Standing) (e : Event BoardEvent) → Made s (after s e)
unfolding after_all
made_one s e = record { events = e ∷ []; made = refl }

made_both : (s t u : Standing) → Made s t → Made t u → Made s u
made_both s t u p q =
    record {
      events = p.events ++ q.events;
      made = q.made ∙ ap (λ z. after_all z q.events) p.made ∙ sym (after_more s p.events q.events);
    }

pub made_shown : (s t : Standing) → Made s t → IsReached s.world → Shown s.world.hosts s.told
    → Shown t.world.hosts t.told
made_shown s t m reached shown =
    subst (λ (z : Standing). Shown z.world.hosts z.told) (sym m.made) (shown_after_all s m.events reached shown)

one_of_steps : (s : Standing) (b : Bool) (p q : Stepping) → Made s p.standing → Made s q.standing
    → Made s (cond b p q).standing
one_of_steps s true p q first other = first
one_of_steps s false p q first other = other

one_of_two : (s : Standing) (b : Bool) (p q : Replied) → Made s p.standing → Made s q.standing
    → Made s (cond b p q).standing
one_of_two s true p q first other = first
one_of_two s false p q first other = other

steps_made : (x h left made : ℕ) (last : Reply BoardReply) (s : Standing)
    → Made s (stepping x h left made last s).standing
unfolding stepping
steps_made x h zero made last s = made_none s
steps_made x h (suc left) made last s =
    let ev = At x (Board (event.Step h)) in
    let rest = stepping x h left (made + 1) (reply_in s ev) (after s ev) in
    one_of_steps s _ (record { standing = s; count = made; reply = last }) rest (made_none s)
    (made_both s (after s ev) rest.standing (made_one s ev)
    (steps_made x h left (made + 1) (reply_in s ev) (after s ev)))

inputs_made : (x : ℕ) (bytes : List ℕ) (last : Reply BoardReply) (s : Standing)
    → Made s (inputs x bytes last s).standing
unfolding inputs
inputs_made x [] last s = made_none s
inputs_made x (b ∷ bs) last s =
    let ev = At x (Board (event.Input b)) in
    let rest = inputs x bs (reply_in s ev) (after s ev) in
    one_of_two s _ rest _
    (made_both s (after s ev) rest.standing (made_one s ev) (inputs_made x bs (reply_in s ev) (after s ev)))
    (made_one s ev)

guest_made : (x : ℕ) (l : Line) (s : Standing) → Made s (guest_done x l s).standing
guest_made x line.Empty s = made_none s
guest_made x (line.Steps h n) s = steps_made x h n 0 (reply.Answered _) s
guest_made x (line.Input bytes) s = inputs_made x bytes (reply.Answered _) s
guest_made x (line.Ask e) s = made_one s (At x (Board e))

guest_moved : (x to : ℕ) (p : Policy) (o : Option Guest) (n : ℕ) (s : Standing)
    → Made s (moved_with x to p o n s).standing
guest_moved x to p None n s = made_none s
guest_moved x to p (Some g) n s =
    one_of_two s _ _ _ (record { events = _; made = refl }) (record { events = _; made = refl })

moved_by : (x to : ℕ) (p : Policy) (r : Reply BoardReply) (s : Standing) → Made s (moved_if x to p r s).standing
moved_by x to p (reply.Begun n) s = guest_moved x to p _ n s
moved_by x to p (reply.Answered answer) s = made_none s
moved_by x to p (reply.Copied page number) s = made_none s
moved_by x to p (reply.RoundEnded round sent skipped left) s = made_none s
moved_by x to p reply.Stopping s = made_none s
moved_by x to p reply.StateSent s = made_none s
moved_by x to p (reply.PartSent part parts) s = made_none s
moved_by x to p reply.Resent s = made_none s
moved_by x to p reply.Aborted s = made_none s
moved_by x to p reply.Open s = made_none s
moved_by x to p (reply.MoveDeclined limit) s = made_none s
moved_by x to p (reply.Fixing count) s = made_none s
moved_by x to p (reply.Committed n) s = made_none s
moved_by x to p reply.Finished s = made_none s
moved_by x to p reply.Accepted s = made_none s
moved_by x to p (reply.Declined limit) s = made_none s
moved_by x to p (reply.Stored page number) s = made_none s
moved_by x to p reply.Noted s = made_none s
moved_by x to p (reply.Kept part parts) s = made_none s
moved_by x to p (reply.Lacking count) s = made_none s
moved_by x to p reply.ReadySent s = made_none s
moved_by x to p reply.StartedHere s = made_none s
moved_by x to p reply.Dropped s = made_none s
moved_by x to p (reply.Refused why) s = made_none s

asked_made : (x : ℕ) (a : Asked) (s : Standing) → Made s (asked_done x a s).standing
asked_made x (asked.Guest l) s = guest_made x l s
asked_made x (asked.Begin to p) s = made_one s (At x (Begin (target x to) (policy_of p)))
asked_made x (asked.Move to p) s = moved_by x (target x to) p _ s
asked_made x asked.Copy s = made_one s (At x Copy)
asked_made x asked.Resend s = made_one s (At x Resend)
asked_made x asked.Abort s = made_one s (At x AbortMove)

line_made : (l : WorldLine) (s : Standing) → Made s (done_by l s).standing
line_made lines.Empty s = made_none s
line_made (lines.Host host a) s = asked_made (host_in host s) a s
line_made (lines.Deliver k) s = made_one s (Deliver k)

answers_made : (o : Option WorldLine) (n : ℕ) (s : Standing) (rest : Standing → Answers)
    → ((t : Standing) → Made t (rest t).standing) → Made s (answers_by o n s rest).standing
answers_made None n s rest others = made_none s
answers_made (Some l) n s rest others =
    let t = (done_by l s).standing in
    made_both s t (rest t).standing (line_made l s) (others t)

pub script_made : (ls : List (List ℕ)) (n : ℕ) (s : Standing) → Made s (world_script_of ls n s).standing
unfolding world_script_of
script_made [] n s = made_none s
script_made (l ∷ ls) n s =
    answers_made (world_line_of s.world.count l) n s (world_script_of ls (n + 1)) (script_made ls (n + 1))
