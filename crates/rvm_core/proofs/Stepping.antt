-- Consecutive steps of a hart at a host, event by event.
use Rattle.std.proofs.Common.{◌≡◌, ℕ, zero, suc, ◌+◌, ◌-◌, ◌<◌, ◌≤◌, true, false, cond, Option, Some, refl, ap, sym, ◌∙◌, arith}
use Rattle.rvm_board.specs.declared.event.BoardReply.{BoardReply}
use Rattle.rvm_board.specs.declared.event.BoardReply.TheVariants as answer
use Rattle.rvm_board.specs.declared.turns.Stop.{Stop}
use Rattle.rvm_board.specs.declared.turns.Stop.TheVariants as stop
use Rattle.rvm_board.specs.Events.{leaves, stops}
use Rattle.rvm_board.specs.Events as events
use Rattle.rvm_board.specs.Turns.{reply_of_stop}
use Rattle.rvm_guest.specs.TheGuest.{board}
use Rattle.rvm_message.specs.Replies.{ends_steps}
use Rattle.rvm_protocol.specs.Replies.{Reply, Answered}
use Rattle.rvm_protocol.specs.World.{reply_to, step}
use Rattle.rvm_core.specs.Steps.{AreFirst, AreSteps, Stepping, last_of, step_at, stepping, steps_of}
use Rattle.rvm_core.specs.Worlds.{BoardWorld}

-- ONE STEP MORE

pub step_more : (x h left made : ℕ) (last : Reply BoardReply) (w : BoardWorld) → ends_steps last ≡ false
    → stepping x h (suc left) made last w
    ≡ stepping x h left (made + 1) (reply_to board w (step_at x h)) (step board w (step_at x h))
unfolding stepping
step_more x h left made last w goes =
    let here : Stepping = record { world = w; count = made; reply = last } in
    ap (λ b. cond b here
    (stepping x h left (made + 1) (reply_to board w (step_at x h)) (step board w (step_at x h)))) goes

steps_stop : (x h left made : ℕ) (last : Reply BoardReply) (w : BoardWorld) → ends_steps last ≡ true
    → stepping x h left made last w ≡ record { world = w; count = made; reply = last }
unfolding stepping
steps_stop x h zero made last w stops = refl
steps_stop x h (suc left) made last w stops =
    let here : Stepping = record { world = w; count = made; reply = last } in
    ap (λ b. cond b here
    (stepping x h left (made + 1) (reply_to board w (step_at x h)) (step board w (step_at x h)))) stops

steps_spent : (x h made : ℕ) (last : Reply BoardReply) (w : BoardWorld)
    → stepping x h 0 made last w ≡ record { world = w; count = made; reply = last }
unfolding stepping
steps_spent x h made last w = refl

-- steps go on alike after any two replies that do not end them
pub go_on_alike : (x h left made : ℕ) (last other : Reply BoardReply) (w : BoardWorld) → 0 < left
    → ends_steps last ≡ false → ends_steps other ≡ false
    → stepping x h left made last w ≡ stepping x h left made other w
go_on_alike x h zero made last other w some goes alike = absurd (omega (arith, some))
go_on_alike x h (suc left) made last other w some goes alike =
    step_more x h left made last w goes ∙ sym (step_more x h left made other w alike)

-- STEPS ONE BY ONE

-- the steps that were made, none of which ended them, and this many more, are all
pub record StepsLeft (all : Stepping) (x h left made : ℕ) (w : BoardWorld) : Type 0 where
  pub last : Reply BoardReply
  pub goes : ends_steps last ≡ false
  pub same : stepping x h left made last w ≡ all

pub steps_begin : (x h left made : ℕ) (w : BoardWorld)
    → StepsLeft (stepping x h left made (Answered answer.Retired) w) x h left made w
steps_begin x h left made w = record { last = Answered answer.Retired; goes = refl; same = refl }

one_step : (all : Stepping) (x h count made : ℕ) (next : Reply BoardReply) (w w' : BoardWorld)
    → StepsLeft all x h (count - made) made w → made < count → next ≡ reply_to board w (step_at x h)
    → w' ≡ step board w (step_at x h) → stepping x h (count - (made + 1)) (made + 1) next w' ≡ all
one_step all x h count made next w w' p lt said leaves =
    let left = count - (made + 1) in
    let one : suc left ≡ count - made = omega (arith, lt) in
    (λ i. stepping x h left (made + 1) (said i) (leaves i))
    ∙ sym (step_more x h left made p.last w p.goes) ∙ ap (λ n. stepping x h n made p.last w) one ∙ p.same

pub steps_one : (all : Stepping) (x h count made : ℕ) (next : Reply BoardReply) (w w' : BoardWorld)
    → StepsLeft all x h (count - made) made w → made < count → next ≡ reply_to board w (step_at x h)
    → w' ≡ step board w (step_at x h) → ends_steps next ≡ false
    → StepsLeft all x h (count - (made + 1)) (made + 1) w'
steps_one all x h count made next w w' p lt said leaves goes =
    record { last = next; goes = goes; same = one_step all x h count made next w w' p lt said leaves }

stepped_as : (all : Stepping) (made : ℕ) (last : Reply BoardReply) (w : BoardWorld)
    → record { world = w; count = made; reply = last } ≡ all → AreSteps all w made last
stepped_as all made last w same =
    record {
      world = ap (λ (s : Stepping). s.world) same;
      made = ap (λ (s : Stepping). s.count) same;
      reply = ap (λ (s : Stepping). s.reply) same;
    }

pub steps_ended : (all : Stepping) (x h count made : ℕ) (next : Reply BoardReply) (w w' : BoardWorld)
    → StepsLeft all x h (count - made) made w → made < count → next ≡ reply_to board w (step_at x h)
    → w' ≡ step board w (step_at x h) → ends_steps next ≡ true → AreSteps all w' (made + 1) next
steps_ended all x h count made next w w' p lt said leaves ends =
    stepped_as all (made + 1) next w'
    (sym (steps_stop x h (count - (made + 1)) (made + 1) next w' ends)
    ∙ one_step all x h count made next w w' p lt said leaves)

pub steps_over : (all : Stepping) (x h count made : ℕ) (next : Reply BoardReply) (w w' : BoardWorld)
    → StepsLeft all x h (count - made) made w → made < count → count ≤ made + 1
    → next ≡ reply_to board w (step_at x h) → w' ≡ step board w (step_at x h) → AreSteps all w' count next
steps_over all x h count made next w w' p lt le said leaves =
    let none : count - (made + 1) ≡ 0 = omega (arith, le) in
    let all_made : count ≡ made + 1 = omega (arith, lt, le) in
    stepped_as all count next w'
    (ap (λ n. record { world = w'; count = n; reply = next }) all_made
    ∙ sym (steps_spent x h (made + 1) next w')
    ∙ ap (λ n. stepping x h n (made + 1) next w') (sym none)
    ∙ one_step all x h count made next w w' p lt said leaves)

-- ALL STEPS

-- no step is asked for
pub no_steps : (x h count : ℕ) (w : BoardWorld) → count ≡ 0
    → AreSteps (steps_of x h count w) w 0 (Answered answer.Retired)
no_steps x h count w none =
    stepped_as (steps_of x h count w) 0 (Answered answer.Retired) w
    (sym (steps_spent x h 0 (Answered answer.Retired) w)
    ∙ ap (λ n. stepping x h n 0 (Answered answer.Retired) w) (sym none))

stop_ends : (s : Stop) → events.ends_steps (reply_of_stop s) ≡ true
stop_ends (stop.Break a) = refl
stop_ends (stop.Halted s) = refl

-- turns that ended early
pub steps_stopped : (x h n count : ℕ) (old new : BoardWorld) (made : ℕ) (o : Option Stop) (s : Stop)
    → AreFirst x h n old new made o → n < count → o ≡ Some s
    → AreSteps (steps_of x h count old) new made (Answered (reply_of_stop s))
steps_stopped x h n count old new made o s f less stopped =
    let last = Answered (reply_of_stop s) in
    stepped_as (steps_of x h count old) made last new
    (sym (steps_stop x h (count - made) made last new (stop_ends s))
    ∙ ap (λ z. stepping x h (count - made) made (last_of z) new) (sym stopped) ∙ sym (f.first count less))
