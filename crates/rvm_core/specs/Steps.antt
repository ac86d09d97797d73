-- Consecutive steps of a hart at a host, event by event.
use Rattle.std.specs.Prelude.{◌≡◌, ℕ, zero, suc, ◌+◌, ◌-◌, ◌<◌, ◌≤◌, if◌then◌else◌, Option, Some, None}
use Rattle.rvm_board.specs.declared.event.BoardEvent.{BoardEvent}
use Rattle.rvm_board.specs.declared.event.BoardEvent.TheVariants as event
use Rattle.rvm_board.specs.declared.event.BoardReply.{BoardReply}
use Rattle.rvm_board.specs.declared.event.BoardReply.TheVariants as answer
use Rattle.rvm_board.specs.declared.turns.Stop.{Stop}
use Rattle.rvm_board.specs.Turns.{reply_of_stop}
use Rattle.rvm_guest.specs.TheGuest.{board}
use Rattle.rvm_message.specs.Replies.{ends_steps}
use Rattle.rvm_protocol.specs.Commands.{Board}
use Rattle.rvm_protocol.specs.Replies.{Reply, Answered}
use Rattle.rvm_protocol.specs.World.{At, Event, reply_to, step}
use Rattle.rvm_core.specs.Worlds.{BoardWorld}

-- the world that steps leave, the number of the steps, and the last reply
pub record Stepping : Type 0 where
  pub world : BoardWorld
  pub count : ℕ
  pub reply : Reply BoardReply

-- a step of hart h at host x
abbrev pub step_at : (x h : ℕ) → Event BoardEvent
step_at x h = At x (Board (event.Step h))

-- at most `left` more steps of hart h at host x, after `made` steps, the last of which had this reply
unfoldable pub stepping : (x h left made : ℕ) → Reply BoardReply → BoardWorld → Stepping
stepping x h zero made last w = record { world = w; count = made; reply = last }
stepping x h (suc left) made last w =
    if ends_steps last then record { world = w; count = made; reply = last }
    else stepping x h left (made + 1) (reply_to board w (step_at x h)) (step board w (step_at x h))

-- at most this many steps of hart h at host x
abbrev pub steps_of : (x h count : ℕ) → BoardWorld → Stepping
steps_of x h count w = stepping x h count 0 (Answered answer.Retired) w

-- the reply to the last of turns: the one that ended them early, or else Retired
abbrev pub last_of : Option Stop → Reply BoardReply
last_of None = Answered answer.Retired
last_of (Some s) = Answered (reply_of_stop s)

-- the `made` turns, at most n, are the first of any number of steps above n
pub record AreFirst (x h n : ℕ) (old new : BoardWorld) (made : ℕ) (stop : Option Stop) : Type 0 where
  pub few : made ≤ n
  pub first : (count : ℕ) → n < count
      → steps_of x h count old ≡ stepping x h (count - made) made (last_of stop) new

-- the world that these steps leave, the number of the steps, and the reply to the last
pub record AreSteps (s : Stepping) (new : BoardWorld) (count : ℕ) (last : Reply BoardReply) : Type 0 where
  pub world : new ≡ s.world
  pub made : count ≡ s.count
  pub reply : last ≡ s.reply
