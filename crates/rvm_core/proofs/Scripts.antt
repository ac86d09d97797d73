-- What scripts whose lines are those of events do.
use Rattle.std.proofs.Common.{◌≡◌, ℕ, ◌+◌, ◌-◌, ◌≤◌, Bool, true, false, cond, eqb, eqb-true, ◌&&◌, nat_lt, List, [], ◌∷◌, map, Option, Some, None, refl, sym, ap, subst}
use Rattle.rvm_board.specs.declared.event.BoardEvent.{BoardEvent}
use Rattle.rvm_board.specs.declared.event.BoardEvent.TheVariants as asked
use Rattle.rvm_core.specs.EventLines.{event_lines, is_other}
use Rattle.rvm_guest.specs.TheGuest.{board}
use Rattle.rvm_message.specs.declared.event.Command.TheVariants as command
use Rattle.rvm_message.specs.Events.{BoardHostEvent}
use Rattle.rvm_protocol.specs.Commands.{Board}
use Rattle.rvm_protocol.specs.World.{At, happened, meaning}
use Rattle.rvm_dis.proofs.Reading.{second_of}
use Rattle.rvm_debug.specs.Words.{lines}
use Rattle.rvm_core.specs.declared.event.Event.{Event}
use Rattle.rvm_core.specs.declared.event.Event.TheVariants as event
use Rattle.rvm_core.specs.Worlds.{BoardWorld, meant}
use Rattle.rvm_core.specs.WorldLines.{world_line_of}
use Rattle.rvm_core.specs.WorldScript.{Answers, Replied, Standing, after, after_all, answers_by, done_by, inputs, is_taken, reply_in, stepping, target, world_script_of}
use Rattle.rvm_core.specs.Sayable.{AreSayable, line_making}
use Rattle.rvm_core.proofs.Joined.{no_lines}
use Rattle.rvm_core.proofs.Reading.{text, text_ends, text_read}

-- a byte leaves the same standing whether it was taken or not
either : (b : Bool) (r q : Replied) (s : Standing) → r.standing ≡ s → q.standing ≡ s → (cond b r q).standing ≡ s
either true r q s e f = e
either false r q s e f = f

-- a line that was made for an event makes that event
asked_made : (n h : ℕ) (e : BoardEvent) (s : Standing)
    → (done_by (line_making n (event.At h (command.Board e))) s).standing ≡ after s (At h (Board e))
unfolding stepping inputs
asked_made m h (asked.Step x) s = refl
asked_made m h (asked.Input b) s = either (is_taken (reply_in s (At h (Board (asked.Input b))))) _ _ _ refl refl
asked_made m h (asked.Drain n) s = refl
asked_made m h (asked.Break a) s = refl
asked_made m h (asked.Clear a) s = refl
asked_made m h (asked.Regs x) s = refl
asked_made m h (asked.Mem a n) s = refl
asked_made m h (asked.Dis a) s = refl
asked_made m h (asked.PokeReg x r v) s = refl
asked_made m h (asked.PokeMem a bytes) s = refl

-- a line that names no target means the other one of two hosts
other_is : (n h to : ℕ) → is_other n h to ≡ true → 1 - h ≡ to
other_is n h to is =
    sym (eqb-true to (1 - h) (second_of (nat_lt h 2) (eqb to (1 - h))
    (second_of (eqb n 2) (nat_lt h 2 && eqb to (1 - h)) is)))

target_is : (n h to : ℕ) (is : Bool) → is_other n h to ≡ is → target h (cond is None (Some to)) ≡ to
target_is n h to true e = other_is n h to e
target_is n h to false e = refl

pub line_made : (n : ℕ) (e : Event) (s : Standing) → (done_by (line_making n e) s).standing ≡ after s (meant e)
line_made n (event.At h (command.Board e)) s = asked_made n h e s
line_made n (event.At h (command.Begin to p)) s =
    ap (λ t. after s (meant (event.At h (command.Begin t p)))) (target_is n h to (is_other n h to) refl)
line_made n (event.At h command.Copy) s = refl
line_made n (event.At h command.Resend) s = refl
line_made n (event.At h command.Abort) s = refl
line_made n (event.Deliver k) s = refl

-- no event changes the number of hosts
happened_count : (w : BoardWorld) (e : Option (ℕ × BoardHostEvent)) → (happened board w e).count ≡ w.count
happened_count w None = refl
happened_count w (Some e) = refl

count_after : (s : Standing) (e : Event) → (after s (meant e)).world.count ≡ s.world.count
count_after s e = happened_count s.world (meaning board s.world (meant e))

-- a script of these lines makes these events
abbrev pub Makes : (es : List Event) → (s : Standing) → Answers → Type 0
Makes es s a = (a.standing ≡ after_all s (map meant es)) × (a.end ≡ None)

none_makes : (k : ℕ) (s : Standing) → Makes [] s (world_script_of [] k s)
unfolding world_script_of after_all
none_makes k s = (refl, refl)

next_makes : (k : ℕ) (s : Standing) (e : Event) (es : List Event) (line : List ℕ) (ls : List (List ℕ))
    → world_line_of s.world.count line ≡ Some (line_making s.world.count e)
    → Makes es (after s (meant e)) (world_script_of ls (k + 1) (after s (meant e)))
    → Makes (e ∷ es) s (world_script_of (line ∷ ls) k s)
unfolding world_script_of after_all
next_makes k s e es line ls read rest =
    let made = line_made s.world.count e s in
    subst (λ l. Makes (e ∷ es) s (answers_by l k s (world_script_of ls (k + 1)))) (sym read)
    (subst (λ t. Makes es (after s (meant e)) (world_script_of ls (k + 1) t)) (sym made) rest)

pub lines_make : (es : List Event) (k : ℕ) (s : Standing) → s.world.count ≤ 8 → AreSayable s.world.count es
    → Makes es s (world_script_of (lines (event_lines s.world.count es)) k s)
lines_make [] k s most can = subst (λ l. Makes [] s (world_script_of l k s)) (sym no_lines) (none_makes k s)
lines_make (e ∷ es) k s most can =
    let next = after s (meant e) in
    let count = sym (count_after s e) in
    let n = s.world.count in
    let there = lines_make es (k + 1) next (subst (λ n. n ≤ 8) count most) (subst (λ n. AreSayable n es) count can.1) in
    let rest = subst (λ n. Makes es next (world_script_of (lines (event_lines n es)) (k + 1) next)) (count_after s e) there in
    subst (λ l. Makes (e ∷ es) s (world_script_of l k s))
    (sym (text_ends n e (event_lines n es) most can.0))
    (next_makes k s e es (text n e) (lines (event_lines n es)) (text_read n e most can.0) rest)
