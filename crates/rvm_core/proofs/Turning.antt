-- Turns of a guest that runs are the first steps of its hart at its host.
use Rattle.std.proofs.Common.{◌≡◌, ℕ, zero, suc, ◌+◌, ◌-◌, ◌<◌, ◌≤◌, Bool, true, false, cond, [], length, get_or, Option, Some, None, is_some, refl, ap, sym, ◌∙◌, subst, arith, append-nil, replicate}
use Rattle.std.specs.Prelude.{nat_lt}
use Rattle.std.proofs.lemmas.Bool.{ltb-true}
use Rattle.std.proofs.lemmas.List.{get_or-set_same, length-set, set-set, length-replicate}
use Rattle.rvm_hart.specs.declared.outcome.Stepped.{Stepped}
use Rattle.rvm_hart.specs.declared.outcome.Stepped.TheVariants as outcome
use Rattle.rvm_board.specs.Board as boards
use Rattle.rvm_board.specs.declared.event.BoardEvent.TheVariants as event
use Rattle.rvm_board.specs.declared.event.BoardReply.{BoardReply}
use Rattle.rvm_board.specs.declared.event.BoardReply.TheVariants as answer
use Rattle.rvm_board.specs.declared.turns.Order.TheVariants.{Alone}
use Rattle.rvm_board.specs.declared.turns.Stop.{Stop}
use Rattle.rvm_board.specs.Guest.{Guest, GuestState}
use Rattle.rvm_board.specs.Events.{leaves, pc_of, reply_of, steps, stops, takes_step, with_stopped}
use Rattle.rvm_board.specs.Events as events
use Rattle.rvm_board.specs.Turns.{after_turns, reply_of_stop, stop_in, unless_stopped}
use Rattle.rvm_board.proofs.Turning.{steps_count, mark_more}
use Rattle.rvm_guest.specs.TheGuest.{board}
use Rattle.rvm_guest.specs.Pages.{count_of}
use Rattle.rvm_precopy.specs.Plans.{Plan}
use Rattle.rvm_message.specs.declared.reply.HostReply.TheVariants as reply
use Rattle.rvm_message.specs.Replies.{ends_steps}
use Rattle.rvm_message.specs.Answers.{BoardOutcome}
use Rattle.rvm_message.specs.Turns.{guest_turned}
use Rattle.rvm_protocol.specs.Commands.{Board, Do}
use Rattle.rvm_protocol.specs.Replies.{Reply, Answered}
use Rattle.rvm_protocol.specs.Frames.{made_as, posted}
use Rattle.rvm_protocol.specs.Modes.{says}
use Rattle.rvm_source.specs.declared.phase.Phase.{Phase}
use Rattle.rvm_source.specs.declared.phase.Phase.TheVariants as phases
use Rattle.rvm_source.specs.Turns.{turned_in}
use Rattle.rvm_host.specs.Hosts.{PlainHost, Steps}
use Rattle.rvm_host.specs.Modes.{PlainMode, Empty, Run, Leaving, Given, Staging, Held, mode_of}
use Rattle.rvm_host.specs.Turns.{turned, HasLog}
use Rattle.rvm_core.specs.Steps.{AreFirst, last_of, step_at, stepping}
use Rattle.rvm_core.specs.Worlds.{IsWorld, PlainWorld, world_of}
use Rattle.rvm_core.proofs.Happenings.{Becomes, at_becomes, unchanged, with_host}
use Rattle.rvm_host.proofs.Running.{IsLogged, Runs, behind_turns, copying_runs, law_step, leaving, offering_runs, run, run_runs, stepped, stepped_logged}
use Rattle.rvm_core.proofs.Stepping.{go_on_alike, step_more}

-- ONE TURN

-- a step's answer ends steps if and only if it ends turns
alike_reply : (x : Stepped) → events.ends_steps (reply_of x) ≡ is_some (stop_in (reply_of x))
alike_reply outcome.Retired = refl
alike_reply (outcome.Trapped e) = refl
alike_reply (outcome.Interrupted i) = refl
alike_reply (outcome.Halted s) = refl

alike_on : (b : Bool) (h : ℕ) (g : Guest)
    → let a = cond b (leaves (with_stopped h true g) (answer.Break (pc_of h g))) (takes_step h g) in
    events.ends_steps a.reply ≡ is_some (stop_in a.reply)
alike_on true h g = refl
alike_on false h g = alike_reply (boards.stepped h g.board).answer

alike_halted : (o : Option ℕ) (h : ℕ) (g : Guest)
    → events.ends_steps (events.unless_halted o h g).reply ≡ is_some (stop_in (events.unless_halted o h g).reply)
alike_halted None h g = alike_on (stops h g) h g
alike_halted (Some status) h g = refl

alike : (h : ℕ) (g : Guest) → events.ends_steps (steps h g).reply ≡ is_some (stop_in (steps h g).reply)
alike h g = alike_halted g.board.shared.devices.halted h g

-- the answer that ended turns, if one did, else this one
abbrev told_or : Option Stop → BoardReply → BoardReply
told_or (Some s) r = reply_of_stop s
told_or None r = r

told_same : (r : BoardReply) → told_or (stop_in r) r ≡ r
told_same answer.Retired = refl
told_same (answer.Trapped e) = refl
told_same (answer.Interrupted i) = refl
told_same (answer.Halted s) = refl
told_same (answer.Break a) = refl
told_same answer.Done = refl
told_same (answer.Bytes bytes) = refl
told_same (answer.Regs values) = refl
told_same (answer.Line a word) = refl
told_same (answer.Refused why) = refl

stop_told : (r : BoardReply) (s : Stop) → stop_in r ≡ Some s → r ≡ reply_of_stop s
stop_told r s e = sym (told_same r) ∙ ap (λ o. told_or o r) e

-- TURNS

-- the `made` turns, at most n, are the first of any number of steps above n, however many there were before
record First (w new : PlainWorld) (x h n made : ℕ) (stop : Option Stop) : Type 0 where
  pub few : made ≤ n
  pub first : (count before : ℕ) (last : Reply BoardReply) → n < count → ends_steps last ≡ false
      → stepping x h count before last (world_of w)
      ≡ stepping x h (count - made) (before + made) (last_of stop) (world_of new)
  pub stays : IsWorld new

none_first : (w : PlainWorld) (x h n : ℕ) → IsWorld w → First w w x h n 0 None
none_first w x h n is =
    record {
      few = omega arith;
      first = λ count before last less goes.
          let left : count ≡ count - 0 = omega arith in
          let made : before ≡ before + 0 = omega arith in
          go_on_alike x h count before last (last_of None) (world_of w) (omega (arith, less)) goes refl
          ∙ (λ i. stepping x h (left i) (made i) (last_of None) (world_of w));
      stays = is;
    }

stopped_first : (w new : PlainWorld) (x h m : ℕ) (r : BoardReply) (s : Stop)
    → Becomes w new (step_at x h) (Answered r) → stop_in r ≡ Some s → First w new x h (suc m) 1 (Some s)
stopped_first w new x h m r s b stopped =
    record {
      few = omega arith;
      first = λ count before last less goes.
          let left : count ≡ suc (count - 1) = omega (arith, less) in
          ap (λ n. stepping x h n before last (world_of w)) left
          ∙ step_more x h (count - 1) before last (world_of w) goes
          ∙ (λ i. stepping x h (count - 1) (before + 1) (sym b.replied i) (sym b.turned i))
          ∙ ap (λ z. stepping x h (count - 1) (before + 1) (Answered z) (world_of new)) (stop_told r s stopped);
      stays = b.stays;
    }

one_more_first : (w mid new : PlainWorld) (x h m made : ℕ) (r : BoardReply) (o : Option Stop)
    → Becomes w mid (step_at x h) (Answered r) → events.ends_steps r ≡ false → First mid new x h m made o
    → First w new x h (suc m) (1 + made) o
one_more_first w mid new x h m made r o b on f =
    record {
      few = let few = f.few in omega (arith, few);
      first = λ count before last less goes.
          let left : count ≡ suc (count - 1) = omega (arith, less) in
          let less' : m < count - 1 = omega (arith, less) in
          let rest : count - 1 - made ≡ count - (1 + made) = omega arith in
          let all : before + 1 + made ≡ before + (1 + made) = omega arith in
          ap (λ n. stepping x h n before last (world_of w)) left
          ∙ step_more x h (count - 1) before last (world_of w) goes
          ∙ (λ i. stepping x h (count - 1) (before + 1) (sym b.replied i) (sym b.turned i))
          ∙ f.first (count - 1) (before + 1) (Answered r) less' on
          ∙ (λ i. stepping x h (rest i) (all i) (last_of o) (world_of new));
      stays = f.stays;
    }

-- no turn is made at a host that stays as it is
still_first : (w : PlainWorld) (x h n : ℕ) (old new : PlainHost) → IsWorld w → old ≡ get_or w.hosts x old → new ≡ old
    → First w (with_host w x new w.sent w.current) x h n 0 None
still_first w x h n old new is here same =
    subst (λ z. First w z x h n 0 None) (sym (unchanged w x old new w.sent same here refl)) (none_first w x h n is)

-- a host in another mode
abbrev in_mode : PlainHost → PlainMode → PlainHost
in_mode old m = record old { mode = m }

-- a world with a host in another mode
abbrev with_mode : PlainWorld → (x : ℕ) → PlainHost → PlainMode → PlainWorld
with_mode w x old m = with_host w x (in_mode old m) w.sent w.current

-- A GUEST THAT RUNS

module _ (mode : GuestState → PlainMode) (runs : Runs mode) where
  -- a turn of a hart that is there is the host's step
  turn_steps : (h : ℕ) (g : GuestState) (old : PlainHost) → old.mode ≡ mode g → IsLogged g
      → h < length g.guest.board.harts
      → Steps old (Do (Board (event.Step h))) (reply.Board (steps h g.guest).reply, None)
      (in_mode old (mode (stepped h g)))
  turn_steps h g old is logged there =
      let law : law_step h old.mode ≡ says (Answered (steps h g.guest).reply) (mode_of (mode (stepped h g))) =
      ap (law_step h) is ∙ runs.step h g logged there
      in
      record {
        reply = sym (ap (λ (o : BoardOutcome). o.reply) law);
        made = sym (ap (λ (o : BoardOutcome). posted old.id old.partner (made_as board old.version o.made)) law);
        next = sym (ap (λ (o : BoardOutcome). record { mode = o.next; partner = old.partner }) law);
        rest = refl;
      }

  turn_becomes : (w : PlainWorld) (x h : ℕ) (g : GuestState) (old : PlainHost) → IsWorld w → x < length w.hosts
      → old ≡ get_or w.hosts x old → old.mode ≡ mode g → IsLogged g → h < length g.guest.board.harts
      → Becomes w (with_mode w x old (mode (stepped h g))) (step_at x h) (Answered (steps h g.guest).reply)
  turn_becomes w x h g old is lt here same logged there =
      at_becomes w w.sent x 0 (Board (event.Step h)) (reply.Board (steps h g.guest).reply, None) old
      (in_mode old (mode (stepped h g))) is lt here (turn_steps h g old same logged there) tt
      (sym (append-nil w.sent))

  turn_first : (m : ℕ) (w : PlainWorld) (x h : ℕ) (g : GuestState) (old : PlainHost) (o : Option Stop)
      → stop_in (steps h g.guest).reply ≡ o
      → Becomes w (with_mode w x old (mode (stepped h g))) (step_at x h) (Answered (steps h g.guest).reply)
      → (let t = after_turns Alone m h (steps h g.guest).guest in
      First (with_mode w x old (mode (stepped h g))) (with_mode w x old (mode (behind_turns t (stepped h g)))) x h m
      t.made t.stop)
      → let t = unless_stopped o (steps h g.guest) (after_turns Alone m h (steps h g.guest).guest) in
      First w (with_mode w x old (mode (behind_turns t g))) x h (suc m) t.made t.stop
  turn_first m w x h g old (Some s) stopped b others =
      stopped_first w (with_mode w x old (mode (stepped h g))) x h m (steps h g.guest).reply s b stopped
  turn_first m w x h g old None on b others =
      let a = steps h g.guest in
      let t = after_turns Alone m h a.guest in
      subst (λ d. First w (with_mode w x old (mode (record { guest = t.guest; dirty = d }))) x h (suc m) (1 + t.made)
      t.stop) (sym (mark_more a.pages t.pages g.dirty))
      (one_more_first w (with_mode w x old (mode (stepped h g)))
      (with_mode w x old (mode (behind_turns t (stepped h g)))) x h m t.made a.reply t.stop b
      (alike h g.guest ∙ ap is_some on) others)

  turns_first : (n : ℕ) (w : PlainWorld) (x h : ℕ) (g : GuestState) (old : PlainHost) → IsWorld w
      → x < length w.hosts → old ≡ get_or w.hosts x old → old.mode ≡ mode g → IsLogged g
      → h < length g.guest.board.harts
      → let t = after_turns Alone n h g.guest in
      First w (with_mode w x old (mode (behind_turns t g))) x h n t.made t.stop
  unfolding after_turns
  turns_first zero w x h g old is lt here same logged there =
      still_first w x h 0 old (in_mode old (mode g)) is here (λ i. in_mode old (sym same i))
  turns_first (suc m) w x h g old is lt here same logged there =
      let b = turn_becomes w x h g old is lt here same logged there in
      let g' = stepped h g in
      let mid = with_mode w x old (mode g') in
      let old' = in_mode old (mode g') in
      let t = after_turns Alone m h g'.guest in
      let new = mode (behind_turns t g') in
      let twice : with_mode mid x old' new ≡ with_mode w x old new =
      ap (λ hosts. record { version = w.version; hosts = hosts; sent = w.sent; current = w.current })
      (set-set w.hosts x old' (in_mode old new))
      in
      let others =
      turns_first m mid x h g' old' b.stays (subst (λ z. x < z) (sym (length-set w.hosts x old')) lt)
      (sym (get_or-set_same w.hosts x old' old' lt)) refl (stepped_logged h g there logged)
      (subst (λ z. h < z) (sym (steps_count h g.guest)) there)
      in
      turn_first m w x h g old (stop_in (steps h g.guest).reply) refl b
      (subst (λ z. First mid z x h m t.made t.stop) twice others)

  guest_first : (b : Bool) (n : ℕ) (w : PlainWorld) (x h : ℕ) (g : GuestState) (old : PlainHost)
      → nat_lt h (length g.guest.board.harts) ≡ b → IsWorld w → x < length w.hosts → old ≡ get_or w.hosts x old
      → old.mode ≡ mode g → IsLogged g
      → let t = cond b (after_turns Alone n h g.guest)
      (record { guest = g.guest; pages = []; made = 0; stop = None }) in
      First w (with_mode w x old (mode (behind_turns t g))) x h n t.made t.stop
  guest_first true n w x h g old there is lt here same logged =
      turns_first n w x h g old is lt here same logged (ltb-true h (length g.guest.board.harts) there)
  guest_first false n w x h g old there is lt here same logged =
      still_first w x h n old (in_mode old (mode g)) is here (λ i. in_mode old (sym same i))

  runs_first : (n : ℕ) (w : PlainWorld) (x h : ℕ) (g : GuestState) (old : PlainHost) → old.mode ≡ mode g → IsLogged g
      → IsWorld w → x < length w.hosts → old ≡ get_or w.hosts x old
      → let t = guest_turned h n g.guest in
      First w (with_mode w x old (mode (behind_turns t g))) x h n t.made t.stop
  runs_first n w x h g old same logged is lt here =
      guest_first (nat_lt h (length g.guest.board.harts)) n w x h g old refl is lt here same logged

-- EACH MODE

-- a mode in which no turn is made
stays_first : (m : PlainMode) (n : ℕ) (w : PlainWorld) (x h : ℕ) (old : PlainHost) → old.mode ≡ m → IsWorld w
    → old ≡ get_or w.hosts x old → First w (with_mode w x old m) x h n 0 None
stays_first m n w x h old same is here = still_first w x h n old (in_mode old m) is here (λ i. in_mode old (sym same i))

source_first : (f : Phase) (k : ℕ) (g : GuestState) (r : Plan) (n : ℕ) (w : PlainWorld) (x h : ℕ) (old : PlainHost)
    → old.mode ≡ leaving k r f g → IsLogged g → IsWorld w → x < length w.hosts → old ≡ get_or w.hosts x old
    → let t = turned_in f h n (record { move_number = k; guest = g; plan = r; phase = f }) in
    First w (with_mode w x old (Leaving t.source)) x h n t.made t.stop
source_first phases.Offering k g r n w x h old same logged is lt here =
    runs_first (leaving k r phases.Offering) (offering_runs k r) n w x h g old same logged is lt here
source_first phases.Copying k g r n w x h old same logged is lt here =
    runs_first (leaving k r phases.Copying) (copying_runs k r) n w x h g old same logged is lt here
source_first (phases.Stopped turn) k g r n w x h old same logged is lt here =
    stays_first (leaving k r (phases.Stopped turn) g) n w x h old same is here

mode_first : (m : PlainMode) (n : ℕ) (w : PlainWorld) (x h : ℕ) (old : PlainHost) → old.mode ≡ m → HasLog m → IsWorld w
    → x < length w.hosts → old ≡ get_or w.hosts x old
    → let t = turned h n m in First w (with_mode w x old t.mode) x h n t.made t.stop
mode_first (Run k g) n w x h old same logged is lt here =
    runs_first (run k) (run_runs k) n w x h (record { guest = g; dirty = replicate (count_of g) false }) old same
    (length-replicate (count_of g) false) is lt here
mode_first (Leaving s) n w x h old same logged is lt here =
    source_first s.phase s.move_number s.guest s.plan n w x h old same logged is lt here
mode_first (Empty k) n w x h old same logged is lt here = stays_first (Empty k) n w x h old same is here
mode_first (Given k kept) n w x h old same logged is lt here = stays_first (Given k kept) n w x h old same is here
mode_first (Staging k s) n w x h old same logged is lt here = stays_first (Staging k s) n w x h old same is here
mode_first (Held k g) n w x h old same logged is lt here = stays_first (Held k g) n w x h old same is here

-- a world after turns at a host: it is a world still, and the turns are the first of any number of steps above n
pub record TurnsBecome (w new : PlainWorld) (x h n made : ℕ) (stop : Option Stop) : Type 0 where
  pub stays : IsWorld new
  pub first : AreFirst x h n (world_of w) (world_of new) made stop

become : (w new : PlainWorld) (x h n made : ℕ) (stop : Option Stop) → First w new x h n made stop
    → TurnsBecome w new x h n made stop
become w new x h n made stop f =
    let all : 0 + made ≡ made = omega arith in
    record {
      stays = f.stays;
      first = record {
        few = f.few;
        first = λ count less.
            f.first count 0 (last_of None) less refl
            ∙ ap (λ k. stepping x h (count - made) k (last_of stop) (world_of new)) all;
      };
    }

pub turns_become : (w : PlainWorld) (x h n : ℕ) (old new : PlainHost) (made : ℕ) (stop : Option Stop) → IsWorld w
    → x < length w.hosts → old ≡ get_or w.hosts x old → new ≡ record old { mode = (turned h n old.mode).mode }
    → made ≡ (turned h n old.mode).made → stop ≡ (turned h n old.mode).stop → HasLog old.mode
    → TurnsBecome w (with_host w x new w.sent w.current) x h n made stop
turns_become w x h n old new made stop is lt here same count why logged =
    let f = mode_first old.mode n w x h old refl logged is lt here in
    let t = turned h n old.mode in
    become w (with_host w x new w.sent w.current) x h n made stop
    (subst (λ z. First w (with_host w x z w.sent w.current) x h n made stop) (sym same)
    (subst (λ z. First w (with_host w x (record old { mode = t.mode }) w.sent w.current) x h n z stop) (sym count)
    (subst (λ z. First w (with_host w x (record old { mode = t.mode }) w.sent w.current) x h n t.made z) (sym why) f)))
