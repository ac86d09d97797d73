-- What a script does to a world, and its answers: a fold over its lines.
use Rattle.std.specs.Prelude.{ℕ, zero, suc, ◌+◌, ◌-◌, Bool, true, false, if◌then◌else◌, nat_le, List, [], ◌∷◌, ◌++◌, length, codes, Option, Some, None}
use Rattle.std.specs.Fmt.{decimal}
use Rattle.rvm_board.specs.declared.event.BoardEvent.{BoardEvent}
use Rattle.rvm_board.specs.declared.event.BoardEvent.TheVariants as event
use Rattle.rvm_board.specs.declared.event.BoardReply.{BoardReply}
use Rattle.rvm_board.specs.declared.event.BoardReply.TheVariants.{Done, Retired}
use Rattle.rvm_board.specs.Guest.{Guest}
use Rattle.rvm_guest.specs.TheGuest.{board}
use Rattle.rvm_message.specs.Replies.{ends_steps}
use Rattle.rvm_precopy.specs.declared.policy.Policy.{Policy}
use Rattle.rvm_precopy.specs.Policies as policies
use Rattle.rvm_protocol.specs.Commands.{Begin, Board, Copy, Resend, AbortMove}
use Rattle.rvm_protocol.specs.DrivenMove.{drive_opening}
use Rattle.rvm_protocol.specs.Modes.{guest_in}
use Rattle.rvm_protocol.specs.Replies.{Reply, Answered, Begun}
use Rattle.rvm_protocol.specs.Rounds.{page_count}
use Rattle.rvm_protocol.specs.Told.{Told, told}
use Rattle.rvm_protocol.specs.World.{At, Deliver, Event, entry_of, meaning, mode_at, reply_to, step}
use Rattle.rvm_debug.specs.declared.line.Line.{Line}
use Rattle.rvm_debug.specs.declared.line.Line.TheVariants as line
use Rattle.rvm_debug.specs.Answers.{address_of, is_refused}
use Rattle.rvm_core.specs.Driving.{drive_of}
use Rattle.rvm_core.specs.Worlds.{BoardWorld, place_of}
use Rattle.rvm_core.specs.declared.world_line.Asked.{Asked}
use Rattle.rvm_core.specs.declared.world_line.Asked.TheVariants as asked
use Rattle.rvm_core.specs.declared.world_line.WorldLine.{WorldLine}
use Rattle.rvm_core.specs.declared.world_line.WorldLine.TheVariants as lines
use Rattle.rvm_core.specs.Replies.{guest_text, move_text, steps_text, words_of}
use Rattle.rvm_core.specs.WorldLines.{world_line_of}

-- where a script stands: the world, and what its replies told of the guest
pub record Standing : Type 0 where
  pub world : BoardWorld
  pub told : Told Guest

-- the reply to an event
abbrev pub reply_in : Standing → Event BoardEvent → Reply BoardReply
reply_in s e = reply_to board s.world e

-- the place of the frame that an event makes, if it makes one
abbrev pub place_in : Standing → Event BoardEvent → Option ℕ
place_in s e = place_of (length s.world.sent) (length (step board s.world e).sent)

-- where a script stands after an event
abbrev pub after : Standing → Event BoardEvent → Standing
after s e =
    record {
      world = step board s.world e;
      told = told board s.told (entry_of board s.world (meaning board s.world e));
    }

-- where a script stands after a list of events
unfoldable pub after_all : Standing → List (Event BoardEvent) → Standing
after_all s [] = s
after_all s (e ∷ es) = after_all (after s e) es

-- where a script stands after a line, and the text of the line's answer
pub record Replied : Type 0 where
  pub standing : Standing
  pub text : List ℕ

-- what an event of a move or a frame that comes does
abbrev pub replied : Event BoardEvent → Standing → Replied
replied e s = record { standing = after s e; text = move_text (reply_in s e) (place_in s e) }

-- what an event of the guest at host x does, other than a step
abbrev pub guest_replied : (x : ℕ) → BoardEvent → Standing → Replied
guest_replied x e s =
    let ev = At x (Board e) in
    record { standing = after s ev; text = guest_text (address_of e) (reply_in s ev) }

-- where a script stands after steps, the number of the steps, and the last reply
pub record Stepping : Type 0 where
  pub standing : Standing
  pub count : ℕ
  pub reply : Reply BoardReply

-- at most `left` more steps of hart h at host x, after `made` steps, the last of which had this reply
unfoldable pub stepping : (x h left made : ℕ) → Reply BoardReply → Standing → Stepping
stepping x h zero made last s = record { standing = s; count = made; reply = last }
stepping x h (suc left) made last s =
    let ev = At x (Board (event.Step h)) in
    if ends_steps last then record { standing = s; count = made; reply = last }
    else stepping x h left (made + 1) (reply_in s ev) (after s ev)

-- what at most this many steps of hart h at host x do
abbrev pub steps_replied : (x h count : ℕ) → Standing → Replied
steps_replied x h n s =
    let t = stepping x h n 0 (Answered Retired) s in
    record { standing = t.standing; text = steps_text h t.count t.reply }

-- whether a byte was taken
abbrev pub is_taken : Reply BoardReply → Bool
is_taken (Answered a) = if is_refused a then false else true
is_taken r = false

-- what bytes that come to the console at host x do, up to the first that is refused
unfoldable pub inputs : (x : ℕ) → List ℕ → Reply BoardReply → Standing → Replied
inputs x [] last s = record { standing = s; text = guest_text None last }
inputs x (b ∷ bs) last s =
    let ev = At x (Board (event.Input b)) in
    if is_taken (reply_in s ev) then inputs x bs (reply_in s ev) (after s ev)
    else record { standing = after s ev; text = guest_text None (reply_in s ev) }

-- what a line for the guest at host x does
abbrev pub guest_done : (x : ℕ) → Line → Standing → Replied
guest_done x line.Empty s = record { standing = s; text = [] }
guest_done x (line.Steps h n) s = steps_replied x h n s
guest_done x (line.Input bytes) s = inputs x bytes (Answered Done) s
guest_done x (line.Ask e) s = guest_replied x e s

-- the target that the line of a move names, or else the other host of two
abbrev pub target : (x : ℕ) → Option ℕ → ℕ
target x (Some to) = to
target x None = 1 - x

-- what a whole move does: each of its frames comes once and in order; if the target takes fewer pages than the guest
-- has, the move ends with the target's answer
abbrev pub moved_with : (x to : ℕ) → Policy → Option Guest → (n : ℕ) → Standing → Replied
moved_with x to p None n s = record { standing = s; text = [] }
moved_with x to p (Some g) n s =
    if nat_le (page_count board g) (s.world.limits to) then (
    let events = drive_of s.world x to (policies.policy_of p) g in
    record {
      standing = after_all s events;
      text = codes "moved " ++ decimal n ++ codes " events " ++ decimal (length events) ++ codes "\n";
    }
    ) else record {
      standing = after_all s (drive_opening x to (policies.policy_of p) (length s.world.sent));
      text = codes "declined " ++ decimal (s.world.limits to) ++ codes "\n";
    }

-- what a whole move does, by the reply to its beginning
abbrev pub moved_if : (x to : ℕ) → Policy → Reply BoardReply → Standing → Replied
moved_if x to p (Begun n) s = moved_with x to p (guest_in (mode_at board s.world x)) n s
moved_if x to p r s = record { standing = s; text = words_of r ++ codes "\n" }

-- what a whole move from host x does, or why it did not begin
abbrev pub moved : (x to : ℕ) → Policy → Standing → Replied
moved x to p s = moved_if x to p (reply_in s (At x (Begin to (policies.policy_of p)))) s

-- what is done if this is asked of host x
abbrev pub asked_done : (x : ℕ) → Asked → Standing → Replied
asked_done x (asked.Guest l) s = guest_done x l s
asked_done x (asked.Begin to p) s = replied (At x (Begin (target x to) (policies.policy_of p))) s
asked_done x (asked.Move to p) s = moved x (target x to) p s
asked_done x asked.Copy s = replied (At x Copy) s
asked_done x asked.Resend s = replied (At x Resend) s
asked_done x asked.Abort s = replied (At x AbortMove) s

-- the host that a line names, or the one that has the guest
abbrev pub host_in : Option ℕ → Standing → ℕ
host_in (Some x) s = x
host_in None s = s.told.current

-- what a line does
abbrev pub done_by : WorldLine → Standing → Replied
done_by lines.Empty s = record { standing = s; text = [] }
done_by (lines.Host host a) s = asked_done (host_in host s) a s
done_by (lines.Deliver k) s = replied (Deliver k) s

-- where a script stands at its end, the text of all its answers, and the number of the line that is not in the
-- grammar, if one ended it
pub record Answers : Type 0 where
  pub standing : Standing
  pub text : List ℕ
  pub end : Option ℕ

-- the answers of later lines, after this text
abbrev pub behind : (text : List ℕ) → Answers → Answers
behind text a = record a { text = text ++ a.text }

-- what the line with this number does, and the rest of its script after it
abbrev pub answers_by : Option WorldLine → (number : ℕ) → Standing → (Standing → Answers) → Answers
answers_by None n s rest = record { standing = s; text = []; end = Some n }
answers_by (Some l) n s rest = let r = done_by l s in behind r.text (rest r.standing)

-- what lines do, the first of which has this number
unfoldable pub world_script_of : List (List ℕ) → (number : ℕ) → Standing → Answers
world_script_of [] n s = record { standing = s; text = []; end = None }
world_script_of (l ∷ ls) n s = answers_by (world_line_of s.world.count l) n s (world_script_of ls (n + 1))
