-- A step of a hart that is there, in a mode in which the guest runs.
use Rattle.std.proofs.Common.{◌≡◌, ℕ, ◌/◌, ◌<◌, cond, Bool, ◌||◌, length, sym, ap, ◌∙◌, subst}
use Rattle.std.proofs.lemmas.Bool.{lt-ltb}
use Rattle.std.proofs.Math.Path.{fun_ext}
use Rattle.rvm_mem.specs.Pages.{has, mark_all}
use Rattle.rvm_board.specs.declared.event.BoardEvent.TheVariants as event
use Rattle.rvm_board.specs.declared.event.BoardRefusal.TheVariants.{BadHart}
use Rattle.rvm_board.specs.Guest.{Guest, GuestState}
use Rattle.rvm_board.specs.Events.{Answered as GuestAnswered, answered, refuses, steps}
use Rattle.rvm_board.specs.Turns.{AfterTurns}
use Rattle.rvm_board.specs.Kept.{Keeps}
use Rattle.rvm_board.proofs.Answering.{answered_keeps}
use Rattle.rvm_guest.specs.Pages.{count_of}
use Rattle.rvm_guest.specs.TheGuest.{board}
use Rattle.rvm_precopy.specs.Plans.{Plan, rounds_of}
use Rattle.rvm_message.specs.Answers.{BoardOutcome}
use Rattle.rvm_message.proofs.Logs.{length_marked, log_is}
use Rattle.rvm_protocol.specs.Modes as protocol
use Rattle.rvm_protocol.specs.Modes.{says}
use Rattle.rvm_protocol.specs.Obeying as obeying
use Rattle.rvm_protocol.specs.Replies.{Answered}
use Rattle.rvm_source.specs.declared.phase.Phase.{Phase}
use Rattle.rvm_source.specs.declared.phase.Phase.TheVariants as phases
use Rattle.rvm_host.specs.Modes.{PlainMode, Run, Leaving, mode_of}

-- a guest and its dirty log after turns, and after a step of a hart
abbrev pub behind_turns : AfterTurns → GuestState → GuestState
behind_turns t g = record { guest = t.guest; dirty = mark_all t.pages g.dirty }

abbrev pub stepped : (h : ℕ) → GuestState → GuestState
stepped h g = let a = steps h g.guest in record { guest = a.guest; dirty = mark_all a.pages g.dirty }

-- a guest's dirty log has an item for each of its pages
abbrev pub IsLogged : GuestState → Type 0
IsLogged g = length g.dirty ≡ count_of g.guest

-- the event of a step of a hart that is there makes the hart's step
pub there_steps : (h : ℕ) (g : Guest) → h < length g.board.harts → answered (event.Step h) g ≡ steps h g
there_steps h g there =
    ap (λ b. cond b (steps h g) (refuses BadHart g)) (lt-ltb h (length g.board.harts) there)

pub stepped_logged : (h : ℕ) (g : GuestState) → h < length g.guest.board.harts → IsLogged g → IsLogged (stepped h g)
stepped_logged h g there logged =
    let e = there_steps h g.guest there in
    let kept = subst (λ (a : GuestAnswered). Keeps a g.guest) e (answered_keeps (event.Step h) g.guest) in
    length_marked (steps h g.guest).pages g.dirty ∙ logged ∙ sym (ap (λ n. n / 4096) kept.size)

-- the protocol's outcome of such a step in a mode
abbrev pub law_step : (h : ℕ) → PlainMode → BoardOutcome
law_step h m = obeying.board board (event.Step h) (mode_of m)

-- modes by the guest that runs in them: the step is answered as the guest's, and is all that happens
pub record Runs (mode : GuestState → PlainMode) : Type 0 where
  pub step : (h : ℕ) (g : GuestState) → IsLogged g → h < length g.guest.board.harts
      → law_step h (mode g) ≡ says (Answered (steps h g.guest).reply) (mode_of (mode (stepped h g)))

-- no move is going on
abbrev pub run : (move : ℕ) → GuestState → PlainMode
run k g = Run k g.guest

pub run_runs : (k : ℕ) → Runs (run k)
unfolding board
run_runs k =
    record {
      step = λ h g logged there.
          ap (λ (a : GuestAnswered). says (Answered a.reply) (protocol.Run k a.guest)) (there_steps h g.guest there);
    }

-- the guest's move is going on, in a phase
abbrev pub leaving : (move : ℕ) → Plan → Phase → GuestState → PlainMode
leaving k r f g = Leaving (record { move_number = k; guest = g; plan = r; phase = f })

pub offering_runs : (k : ℕ) (r : Plan) → Runs (leaving k r phases.Offering)
unfolding board
offering_runs k r =
    record {
      step = λ h g logged there.
          ap (λ (a : GuestAnswered). says (Answered a.reply) (protocol.Offering k a.guest r.policy))
          (there_steps h g.guest there);
    }

-- the pages that the step writes are logged
log_stepped : (h : ℕ) (g : GuestState) → IsLogged g → h < length g.guest.board.harts
    → ◌≡◌ {A = ℕ → Bool} (λ p. has p g.dirty || board.wrote g.guest (event.Step h) p) (λ p. has p (stepped h g).dirty)
unfolding board
log_stepped h g logged there =
    let e = there_steps h g.guest there in
    let new = (stepped h g).dirty in
    fun_ext (λ p. sym (log_is g.guest (event.Step h) g.dirty new p
    (ap (λ (a : GuestAnswered). mark_all a.pages g.dirty) (sym e)) logged))

pub copying_runs : (k : ℕ) (r : Plan) → Runs (leaving k r phases.Copying)
unfolding board
copying_runs k r =
    record {
      step = λ h g logged there.
          let e = there_steps h g.guest there in
          let logs = log_stepped h g logged there in
          λ i. says (Answered (e i).reply)
          (protocol.Copying k (record (rounds_of g.guest g.dirty r) { guest = (e i).guest; log = logs i }));
    }
