-- An event that is refused makes no frame and leaves the mode as it is; when Copy and Resend are refused.
use Rattle.std.proofs.Common.{◌≡◌, ℕ, ◌-◌, ◌^◌, ◌==◌, Bool, true, false, nat_le, if◌then◌else◌, length, Option, Some, None, refl}
use Rattle.rvm_board.specs.Guest.{Guest}
use Rattle.rvm_board.specs.declared.event.BoardEvent.{BoardEvent}
use Rattle.rvm_board.specs.declared.event.BoardReply.{BoardReply}
use Rattle.rvm_guest.specs.TheGuest.{board}
use Rattle.rvm_message.specs.Answers.{BoardMode, BoardOutcome}
use Rattle.rvm_message.specs.Replies.{is_refused_outright, is_seq_spent}
use Rattle.rvm_protocol.specs.Commands.{Policy, Command, Board, Begin, Copy, Resend, AbortMove, is_allowed}
use Rattle.rvm_protocol.specs.Frames.{is_compact}
use Rattle.rvm_protocol.specs.Host.{is_there, obey_at}
use Rattle.rvm_protocol.specs.Modes.{Empty, Run, Offering, Copying, Stopped, Given, Staging, Held, says, sends, refuses}
use Rattle.rvm_protocol.specs.Obeying as obeying
use Rattle.rvm_protocol.specs.Obeying.{begin_allowed, begun, copy_last, copy_page, part_frame, resend_last, sends_last, sends_page, sends_state, state_frame}
use Rattle.rvm_protocol.specs.Replies.{BadHost, BadSize, EpochsSpent, PartSent, Reply, Resent, SeqSpent, StateSent, Stopping}
use Rattle.rvm_protocol.specs.Rounds.{Last, Rounds, next_page, next_turn, pieces_of, stopped, to_copy}

-- what holds of both outcomes holds of the one that a test chooses
either : (P : BoardOutcome → Type 0) (b : Bool) (x y : BoardOutcome) → P x → P y → P (if b then x else y)
either P true x y px py = px
either P false x y px py = py

-- WHAT IS REFUSED MAKES NO FRAME

abbrev pub MakesNone : BoardOutcome → Type 0
MakesNone o = is_refused_outright o.reply ≡ true → o.made ≡ None

page_none : (n : ℕ) (r : Rounds Guest) (o : Option ℕ) → MakesNone (copy_page board n r o)
page_none n r (Some p) =
    either MakesNone (nat_le (2 ^ 32 - 1) r.copies) (refuses SeqSpent (Copying n r)) (sends_page board n r p) (λ _. refl) (λ is. absurd cc)
page_none n r None = λ is. absurd cc

state_none : (version n : ℕ) (whole piece : Reply BoardReply) (l : Last Guest) → is_refused_outright whole ≡ false → is_refused_outright piece ≡ false
    → MakesNone (sends_state board version whole piece n l)
state_none version n whole piece l a b =
    either MakesNone (is_compact version) (sends piece (part_frame board n l) (Stopped n (next_turn board l))) (sends whole (state_frame board n l) (Stopped n l))
    (λ is. absurd cc) (λ is. absurd cc)

last_none : (version n : ℕ) (l : Last Guest) (o : Option ℕ) → MakesNone (copy_last board version n l o)
last_none version n l (Some p) =
    either MakesNone (nat_le (2 ^ 32 - 1) l.copies) (refuses SeqSpent (Stopped n l)) (sends_last board n l p) (λ _. refl) (λ is. absurd cc)
last_none version n l None = state_none version n StateSent (PartSent l.turn (length (pieces_of board l))) l refl refl

again_none : (version n : ℕ) (l : Last Guest) (o : Option ℕ) → MakesNone (resend_last board version n l o)
again_none version n l (Some p) = λ _. refl
again_none version n l None = state_none version n Resent Resent l refl refl

begin_none : (p : Policy) (mode : BoardMode) → MakesNone (obeying.begin board p mode)
begin_none p (Empty n) = λ _. refl
begin_none p (Run n g) =
    either MakesNone (is_allowed p) (begin_allowed board p n g) (refuses BadSize (Run n g))
    (either MakesNone (n == 2 ^ 64 - 1) (refuses EpochsSpent (Run n g)) (begun board p n g) (λ _. refl) (λ is. absurd cc))
    (λ _. refl)
begin_none p (Offering n g r) = λ _. refl
begin_none p (Copying n r) = λ _. refl
begin_none p (Stopped n l) = λ _. refl
begin_none p (Given n kept) = λ _. refl
begin_none p (Staging n s) = λ _. refl
begin_none p (Held n g) = λ _. refl

copy_none : (version : ℕ) (mode : BoardMode) → MakesNone (obeying.copy board version mode)
copy_none version (Empty n) = λ _. refl
copy_none version (Run n g) = λ _. refl
copy_none version (Offering n g r) = λ _. refl
copy_none version (Copying n r) =
    either MakesNone r.stop (says Stopping (Stopped n (stopped board r))) (copy_page board n r (next_page board r)) (λ _. refl)
    (page_none n r (next_page board r))
copy_none version (Stopped n l) = last_none version n l (to_copy board l)
copy_none version (Given n kept) = λ _. refl
copy_none version (Staging n s) = λ _. refl
copy_none version (Held n g) = λ _. refl

resend_none : (version : ℕ) (mode : BoardMode) → MakesNone (obeying.resend board version mode)
resend_none version (Empty n) = λ _. refl
resend_none version (Run n g) = λ _. refl
resend_none version (Offering n g r) = λ is. absurd cc
resend_none version (Copying n r) = λ _. refl
resend_none version (Stopped n l) = again_none version n l (to_copy board l)
resend_none version (Given n kept) = λ is. absurd cc
resend_none version (Staging n s) = λ _. refl
resend_none version (Held n g) = λ is. absurd cc

abort_none : (mode : BoardMode) → MakesNone (obeying.abort board mode)
abort_none (Empty n) = λ _. refl
abort_none (Run n g) = λ _. refl
abort_none (Offering n g r) = λ is. absurd cc
abort_none (Copying n r) = λ is. absurd cc
abort_none (Stopped n l) = λ is. absurd cc
abort_none (Given n kept) = λ _. refl
abort_none (Staging n s) = λ _. refl
abort_none (Held n g) = λ _. refl

board_none : (e : BoardEvent) (mode : BoardMode) → MakesNone (obeying.board board e mode)
board_none e (Empty n) = λ _. refl
board_none e (Run n g) = λ _. refl
board_none e (Offering n g r) = λ _. refl
board_none e (Copying n r) = λ _. refl
board_none e (Stopped n l) = λ _. refl
board_none e (Given n kept) = λ _. refl
board_none e (Staging n s) = λ _. refl
board_none e (Held n g) = λ _. refl

pub refused_makes_none : (version self count : ℕ) (c : Command BoardEvent) (mode : BoardMode) → MakesNone (obey_at board version self count c mode)
refused_makes_none version self count (Board e) mode = board_none e mode
refused_makes_none version self count (Begin to p) (Empty n) = begin_none p (Empty n)
refused_makes_none version self count (Begin to p) (Run n g) =
    either MakesNone (is_there self count to) (obeying.begin board p (Run n g)) (refuses BadHost (Run n g)) (begin_none p (Run n g)) (λ _. refl)
refused_makes_none version self count (Begin to p) (Offering n g r) = begin_none p (Offering n g r)
refused_makes_none version self count (Begin to p) (Copying n r) = begin_none p (Copying n r)
refused_makes_none version self count (Begin to p) (Stopped n l) = begin_none p (Stopped n l)
refused_makes_none version self count (Begin to p) (Given n kept) = begin_none p (Given n kept)
refused_makes_none version self count (Begin to p) (Staging n s) = begin_none p (Staging n s)
refused_makes_none version self count (Begin to p) (Held n g) = begin_none p (Held n g)
refused_makes_none version self count Copy mode = copy_none version mode
refused_makes_none version self count Resend mode = resend_none version mode
refused_makes_none version self count AbortMove mode = abort_none mode

-- COPY, WHEN A PAGE MAY BE DUE

-- the only refusal that is known outright is that no copy number is left
abbrev OnlySpent : BoardOutcome → Type 0
OnlySpent o = is_refused_outright o.reply ≡ is_seq_spent o.reply

page_only : (n : ℕ) (r : Rounds Guest) (o : Option ℕ) → OnlySpent (copy_page board n r o)
page_only n r (Some p) = either OnlySpent (nat_le (2 ^ 32 - 1) r.copies) (refuses SeqSpent (Copying n r)) (sends_page board n r p) refl refl
page_only n r None = refl

pub copying_only : (version n : ℕ) (r : Rounds Guest) → OnlySpent (obeying.copy board version (Copying n r))
copying_only version n r =
    either OnlySpent r.stop (says Stopping (Stopped n (stopped board r))) (copy_page board n r (next_page board r)) refl (page_only n r (next_page board r))

last_only : (version n : ℕ) (l : Last Guest) (o : Option ℕ) → OnlySpent (copy_last board version n l o)
last_only version n l (Some p) = either OnlySpent (nat_le (2 ^ 32 - 1) l.copies) (refuses SeqSpent (Stopped n l)) (sends_last board n l p) refl refl
last_only version n l None =
    either OnlySpent (is_compact version) (sends (PartSent l.turn (length (pieces_of board l))) (part_frame board n l) (Stopped n (next_turn board l)))
    (sends StateSent (state_frame board n l) (Stopped n l)) refl refl

pub stopped_only : (version n : ℕ) (l : Last Guest) → OnlySpent (obeying.copy board version (Stopped n l))
stopped_only version n l = last_only version n l (to_copy board l)

-- if no copy number is left, nothing is done
abbrev Stays : BoardMode → BoardOutcome → Type 0
Stays mode o = is_seq_spent o.reply ≡ true → o ≡ refuses SeqSpent mode

page_stays : (n : ℕ) (r : Rounds Guest) (o : Option ℕ) → Stays (Copying n r) (copy_page board n r o)
page_stays n r (Some p) =
    either (Stays (Copying n r)) (nat_le (2 ^ 32 - 1) r.copies) (refuses SeqSpent (Copying n r)) (sends_page board n r p) (λ _. refl) (λ is. absurd cc)
page_stays n r None = λ is. absurd cc

last_stays : (version n : ℕ) (l : Last Guest) (o : Option ℕ) → Stays (Stopped n l) (copy_last board version n l o)
last_stays version n l (Some p) =
    either (Stays (Stopped n l)) (nat_le (2 ^ 32 - 1) l.copies) (refuses SeqSpent (Stopped n l)) (sends_last board n l p) (λ _. refl) (λ is. absurd cc)
last_stays version n l None =
    either (Stays (Stopped n l)) (is_compact version) (sends (PartSent l.turn (length (pieces_of board l))) (part_frame board n l) (Stopped n (next_turn board l)))
    (sends StateSent (state_frame board n l) (Stopped n l)) (λ is. absurd cc) (λ is. absurd cc)

pub spent_stays : (version : ℕ) (mode : BoardMode) → Stays mode (obeying.copy board version mode)
spent_stays version (Empty n) = λ is. absurd cc
spent_stays version (Run n g) = λ is. absurd cc
spent_stays version (Offering n g r) = λ is. absurd cc
spent_stays version (Copying n r) =
    either (Stays (Copying n r)) r.stop (says Stopping (Stopped n (stopped board r))) (copy_page board n r (next_page board r)) (λ is. absurd cc)
    (page_stays n r (next_page board r))
spent_stays version (Stopped n l) = last_stays version n l (to_copy board l)
spent_stays version (Given n kept) = λ is. absurd cc
spent_stays version (Staging n s) = λ is. absurd cc
spent_stays version (Held n g) = λ is. absurd cc
