-- What a script does to a guest, and what it answers: a fold over its lines.
use Rattle.std.specs.Prelude.{ℕ, zero, suc, ◌+◌, if◌then◌else◌, List, [], ◌∷◌, ◌++◌, Option, Some, None}
use Rattle.rvm_board.specs.declared.event.BoardEvent.TheVariants as event
use Rattle.rvm_board.specs.declared.event.BoardReply.{BoardReply}
use Rattle.rvm_board.specs.declared.event.BoardReply.TheVariants as reply
use Rattle.rvm_board.specs.Guest.{Guest}
use Rattle.rvm_board.specs.Events.{Answered, answered, ends_steps, leaves}
use Rattle.rvm_debug.specs.declared.line.Line.{Line}
use Rattle.rvm_debug.specs.declared.line.Line.TheVariants as line
use Rattle.rvm_debug.specs.Lines.{line_of}
use Rattle.rvm_debug.specs.Answers.{address_of, is_refused, reply_text, step_text}

-- the guest that steps leave, the pages that they wrote, how many there were and the last answer
pub record Stepping : Type 0 where
  pub guest : Guest
  pub pages : List ℕ
  pub count : ℕ
  pub reply : BoardReply

-- the same after pages that were written before
abbrev pub stepping_after : List ℕ → Stepping → Stepping
stepping_after ps s = record s { pages = ps ++ s.pages }

-- at most this many more steps of a hart, after this many were made and the last was answered so
unfoldable pub stepping : (hart left made : ℕ) → BoardReply → Guest → Stepping
stepping h zero made last g = record { guest = g; pages = []; count = made; reply = last }
stepping h (suc left) made last g =
    let a = answered (event.Step h) g in
    if ends_steps last then record { guest = g; pages = []; count = made; reply = last }
    else stepping_after a.pages (stepping h left (made + 1) a.reply a.guest)

-- at most this many steps of a hart
abbrev pub stepped : (hart count : ℕ) → Guest → Stepping
stepped h n g = stepping h n 0 reply.Retired g

-- an answer after pages that were written before
abbrev pub answered_after : List ℕ → Answered → Answered
answered_after ps a = record a { pages = ps ++ a.pages }

-- bytes come to the console, up to the first that is refused
unfoldable pub inputs : List ℕ → Guest → Answered
inputs [] g = leaves g reply.Done
inputs (b ∷ bs) g =
    let a = answered (event.Input b) g in
    if is_refused a.reply then a else answered_after a.pages (inputs bs a.guest)

-- the guest that a line leaves, the pages that it wrote and the text of its answer
pub record Replied : Type 0 where
  pub guest : Guest
  pub pages : List ℕ
  pub text : List ℕ

-- the same of an event's answer
abbrev pub replied : (address : Option ℕ) → Answered → Replied
replied address a =
    record { guest = a.guest; pages = a.pages; text = reply_text address a.reply }

-- the same of steps of a hart
abbrev pub replied_steps : (hart : ℕ) → Stepping → Replied
replied_steps h s =
    record { guest = s.guest; pages = s.pages; text = step_text h s.count s.reply }

-- what a line does
abbrev pub done_by : Line → Guest → Replied
done_by line.Empty g = record { guest = g; pages = []; text = [] }
done_by (line.Steps h n) g = replied_steps h (stepped h n g)
done_by (line.Input bs) g = replied None (inputs bs g)
done_by (line.Ask e) g = replied (address_of e) (answered e g)

-- the guest that a script leaves, the pages that it wrote, all its answers, and the number of the line that is not in
-- the grammar, if one ended the script
pub record Answers : Type 0 where
  pub guest : Guest
  pub pages : List ℕ
  pub text : List ℕ
  pub end : Option ℕ

-- the same after pages that were written and text that was answered before
abbrev pub answers_behind : (pages text : List ℕ) → Answers → Answers
answers_behind ps ts t = record t { pages = ps ++ t.pages; text = ts ++ t.text }

-- a script ends
abbrev pub ended : Option ℕ → Guest → Answers
ended end g = record { guest = g; pages = []; text = []; end = end }

-- a line with this number, and the rest of its script after it
abbrev pub answers_by : Option Line → (number : ℕ) → Guest → (Guest → Answers) → Answers
answers_by None n g rest = ended (Some n) g
answers_by (Some l) n g rest = let r = done_by l g in answers_behind r.pages r.text (rest r.guest)

-- what lines do, the first of which has this number
unfoldable pub script_of : List (List ℕ) → (number : ℕ) → Guest → Answers
script_of [] n g = ended None g
script_of (l ∷ ls) n g = answers_by (line_of l) n g (script_of ls (n + 1))
