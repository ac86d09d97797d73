-- A run takes at most one byte of its input in each turn, so bytes that no turn can take change nothing.
use Rattle.std.proofs.Common.{◌≡◌, ◌∙◌, ◌+◌, ◌%◌, ◌==◌, ◌≤◌, Bool, false, true, ℕ, zero, suc, List, [], ◌∷◌, ◌++◌, Option, Result, Ok, Err, take, drop, get_or, refl, sym, ap, ap₂, subst, inl, inr, arith}
use Rattle.std.proofs.lemmas.List.{take-take}
use Rattle.std.specs.List.{concat}
use Rattle.std.specs.Io.KnownBytes.{Appends}
use Rattle.std.specs.Prelude.{IfOk, if◌then◌else◌}
use Rattle.rvm_arguments.specs.declared.arguments.RunArguments.{RunArguments}
use Rattle.rvm_board.specs.declared.event.BoardEvent.{BoardEvent}
use Rattle.rvm_board.specs.declared.event.BoardEvent.TheVariants.{Input}
use Rattle.rvm_board.specs.declared.event.BoardReply.{BoardReply}
use Rattle.rvm_board.specs.declared.event.BoardReply.TheVariants as reply
use Rattle.rvm_board.specs.Guest.{Guest}
use Rattle.rvm_board.specs.Events.{Answered, answered}
use Rattle.rvm_command.specs.declared.refused.Refused.{Refused}
use Rattle.rvm_command.specs.declared.run.Ended.{Ended}
use Rattle.rvm_command.specs.Command.{guest_of, image_of}
use Rattle.rvm_command.specs.Saved.{is_saved}
use Rattle.rvm_command.specs.Ends.{IsImageRunEnd, IsRunEnd, IsRunEndOf, IsSavedRunEnd, Writes}
use Rattle.rvm_guest.specs.Pages.{count_of}
use Rattle.rvm_command.specs.Reports.{report_text}
use Rattle.rvm_command.specs.Taken.{steps_in}
use Rattle.rvm_command.specs.Watched.{Watched, end_at, fault_among, run_with, trace_of, traced_of, turns_of, turns_until}
use Rattle.rvm_command.proofs.FewSteps.{turns_within}
use Rattle.rvm_command.specs.Run.{Run, after, drains, first, left, offers, run_by, step_by, unless_halted, unless_refused}

-- lists with the same first bytes have the same first bytes but one
fewer : (n : ℕ) (a b : List ℕ) → take (suc n) a ≡ take (suc n) b → take n a ≡ take n b
fewer zero a b same = refl
fewer (suc n) [] [] same = refl
fewer (suc n) [] (y ∷ b) same = absurd cc
fewer (suc n) (x ∷ a) [] same = absurd cc
fewer (suc n) (x ∷ a) (y ∷ b) same =
    ap₂ (λ (z : ℕ) (l : List ℕ). z ∷ l) (ap (λ l. get_or l 0 0) same) (fewer n a b (ap (drop 1) same))

-- what is left of two lists whose next byte is offered
left_same : (n x : ℕ) (a b : List ℕ) (r : BoardReply) → take (suc n) (x ∷ a) ≡ take (suc n) (x ∷ b)
    → take n (unless_refused r (x ∷ a) a) ≡ take n (unless_refused r (x ∷ b) b)
left_same n x a b (reply.Refused why) same = fewer n (x ∷ a) (x ∷ b) same
left_same n x a b reply.Retired same = ap (drop 1) same
left_same n x a b (reply.Trapped cause) same = ap (drop 1) same
left_same n x a b (reply.Interrupted cause) same = ap (drop 1) same
left_same n x a b (reply.Halted s) same = ap (drop 1) same
left_same n x a b (reply.Break address) same = ap (drop 1) same
left_same n x a b reply.Done same = ap (drop 1) same
left_same n x a b (reply.Bytes bytes) same = ap (drop 1) same
left_same n x a b (reply.Regs values) same = ap (drop 1) same
left_same n x a b (reply.Line address word) same = ap (drop 1) same

-- a turn after what was offered
abbrev turned : (seed : Option ℕ) → (t : ℕ) → Guest → List BoardEvent → Answered
turned seed t g offered = answered (step_by seed t g) (after offered g).guest

-- what is taken after it
abbrev taken_at : (t : ℕ) → Guest → List BoardEvent
taken_at t g = if t % 64 == 63 then drains g else []

-- the guest of the next turn
abbrev next_guest : (seed : Option ℕ) → (t : ℕ) → Guest → List BoardEvent → Guest
next_guest seed t g offered = (after (taken_at t (turned seed t g offered).guest) (turned seed t g offered).guest).guest

-- a turn, and the run that follows it
abbrev turn_of : (seed : Option ℕ) → (t : ℕ) → Guest → List BoardEvent → Run → Run
turn_of seed t g offered rest =
    first (offered ++ step_by seed t g ∷ [])
    (unless_halted (turned seed t g offered).reply (turned seed t g offered).guest
    (first (taken_at t (turned seed t g offered).guest) rest))

turn_is : (seed : Option ℕ) (n t : ℕ) (input : List ℕ) (g : Guest) → run_by seed (suc n) t input g
    ≡ turn_of seed t g (offers input) (run_by seed n (t + 1) (left input g) (next_guest seed t g (offers input)))
unfolding run_by
turn_is seed n t input g = refl

no_turn : (seed : Option ℕ) (t : ℕ) (a b : List ℕ) (g : Guest) → run_by seed zero t a g ≡ run_by seed zero t b g
unfolding run_by
no_turn seed t a b g = refl

-- runs of n turns with the same first n bytes of input are the same
same_run : (seed : Option ℕ) (n t : ℕ) (a b : List ℕ) (g : Guest) → take n a ≡ take n b → run_by seed n t a g ≡ run_by seed n t b g
same_run seed zero t a b g same = no_turn seed t a b g
same_run seed (suc n) t [] [] g same = refl
same_run seed (suc n) t [] (y ∷ b) g same = absurd cc
same_run seed (suc n) t (x ∷ a) [] g same = absurd cc
same_run seed (suc n) t (x ∷ a) (y ∷ b) g same =
    let next : x ≡ y = ap (λ l. get_or l 0 0) same in
    subst (λ z. take (suc n) (x ∷ a) ≡ take (suc n) (z ∷ b) → run_by seed (suc n) t (x ∷ a) g ≡ run_by seed (suc n) t (z ∷ b) g) next
    (λ it. turn_is seed n t (x ∷ a) g
    ∙ ap (turn_of seed t g (Input x ∷ [])) (same_run seed n (t + 1) (left (x ∷ a) g) (left (x ∷ b) g) (next_guest seed t g (Input x ∷ []))
    (left_same n x a b (answered (Input x) g).reply it))
    ∙ sym (turn_is seed n t (x ∷ b) g)) same

-- the first bytes of fewer
take_fewer : (n m : ℕ) (a b : List ℕ) → n ≤ m → a ≡ take m b → take n a ≡ take n b
take_fewer n m a b small is = ap (take n) is ∙ take-take n m b small

-- what a run leaves, by its events and those of the whole run that it may stop in
abbrev watched_of : (stop : Bool) → Option (ℕ × ℕ) → (steps : ℕ) → (whole run : Run) → Guest → Watched
watched_of stop range steps whole run g =
    let all = after run.events g in
    record {
      guest = all.guest;
      pages = all.pages;
      written = all.bytes;
      ended = end_at (fault_among stop [] (steps_in whole.events g)) run.ended;
      steps = steps_in run.events g;
      lines = trace_of range (steps_in run.events g);
    }

same_watched : (seed : Option ℕ) (stop : Bool) (range : Option (ℕ × ℕ)) (steps : ℕ) (begun input : List ℕ) (g : Guest) → begun ≡ take steps input → run_with seed stop range steps begun g ≡ run_with seed stop range steps input g
same_watched seed stop range steps begun input g is =
    let whole : run_by seed steps 0 begun g ≡ run_by seed steps 0 input g = same_run seed steps 0 begun input g (take_fewer steps steps begun input (omega arith) is) in
    let n = turns_of seed stop steps begun g in
    let turns : n ≡ turns_of seed stop steps input g = ap (λ (r : Run). turns_until (fault_among stop [] (steps_in r.events g)) steps) whole in
    let run : run_by seed n 0 begun g ≡ run_by seed n 0 input g = same_run seed n 0 begun input g (take_fewer n steps begun input (turns_within seed stop steps begun g) is) in
    ap (λ (r : Run). watched_of stop range steps r (run_by seed n 0 begun g) g) whole
    ∙ ap (λ (r : Run). watched_of stop range steps (run_by seed steps 0 input g) r g) run
    ∙ ap (λ (k : ℕ). watched_of stop range steps (run_by seed steps 0 input g) (run_by seed k 0 input g) g) turns

if_ok : {X E : Type 0} (r : Result X E) (P Q : X → Type 0) → ((x : X) → P x → Q x) → IfOk r P → IfOk r Q
if_ok (Ok x) P Q f p = f x p
if_ok (Err e) P Q f p = tt

-- how a run of an image ended that was given the bytes of its input that its turns can take, so it ends with all of them
image_ends_so : (a : RunArguments) (file begun input symbols : List ℕ) (end : Result Ended Refused) (before after trace_before trace_after report_before report_after : Option (List ℕ))
    → begun ≡ take a.steps input → IsImageRunEnd a file begun symbols end before after trace_before trace_after report_before report_after
    → IsImageRunEnd a file input symbols end before after trace_before trace_after report_before report_after
image_ends_so a file begun input symbols (Ok ended) before after trace_before trace_after report_before report_after is (begun_so, came) = (
  begun_so,
  if_ok (image_of a.guest.raw file) _ _ (λ i came.
      let same = same_watched a.seed a.stop_at_fault (traced_of a.trace) a.steps begun input (guest_of a.guest.harts a.guest.pages i.0 i.1) is in (
        came.0 ∙ ap (λ (r : Watched). r.ended) same,
        subst (Appends before after) (ap (λ (r : Watched). r.written) same) came.1,
        subst (λ (l : List (List ℕ)). Appends trace_before trace_after (concat l)) (ap (λ (r : Watched). r.lines) same) came.2,
        subst (λ (r : Watched). Appends report_before report_after (report_text a.report a.guest.pages i.1 symbols r)) same came.3,
      )) came,
)
image_ends_so a file begun input symbols (Err r) before after trace_before trace_after report_before report_after is (inl refused) = inl refused
image_ends_so a file begun input symbols (Err r) before after trace_before trace_after report_before report_after is (inr (failed, begun_so, came)) =
    inr (
      failed,
      begun_so,
      if_ok (image_of a.guest.raw file) _ _ (λ i some.
          let same = same_watched a.seed a.stop_at_fault (traced_of a.trace) a.steps begun input (guest_of a.guest.harts a.guest.pages i.0 i.1) is in
          subst (λ (r : Watched). Writes r a.trace a.report) same some) came,
    )

-- the same of a run of a saved guest
saved_ends_so : (a : RunArguments) (file begun input symbols : List ℕ) (end : Result Ended Refused) (before after trace_before trace_after report_before report_after : Option (List ℕ))
    → begun ≡ take a.steps input → IsSavedRunEnd a file begun symbols end before after trace_before trace_after report_before report_after
    → IsSavedRunEnd a file input symbols end before after trace_before trace_after report_before report_after
saved_ends_so a file begun input symbols (Ok ended) before after trace_before trace_after report_before report_after is (good, (g, saved, ends, out, traced, reports)) =
    let same = same_watched a.seed a.stop_at_fault (traced_of a.trace) a.steps begun input g is in (
      good,
      (
        g,
        saved,
        ends ∙ ap (λ (r : Watched). r.ended) same,
        subst (Appends before after) (ap (λ (r : Watched). r.written) same) out,
        subst (λ (l : List (List ℕ)). Appends trace_before trace_after (concat l)) (ap (λ (r : Watched). r.lines) same) traced,
        subst (λ (r : Watched). Appends report_before report_after (report_text a.report (count_of g) [] symbols r)) same reports,
      ),
    )
saved_ends_so a file begun input symbols (Err r) before after trace_before trace_after report_before report_after is (inl refused) = inl refused
saved_ends_so a file begun input symbols (Err r) before after trace_before trace_after report_before report_after is (inr (failed, good, (g, saved, some))) =
    let same = same_watched a.seed a.stop_at_fault (traced_of a.trace) a.steps begun input g is in
    inr (failed, good, (g, saved, subst (λ (r : Watched). Writes r a.trace a.report) same some))

ends_as : (saved : Bool) (a : RunArguments) (file begun input symbols : List ℕ) (end : Result Ended Refused) (before after trace_before trace_after report_before report_after : Option (List ℕ))
    → begun ≡ take a.steps input → IsRunEndOf saved a file begun symbols end before after trace_before trace_after report_before report_after
    → IsRunEndOf saved a file input symbols end before after trace_before trace_after report_before report_after
ends_as true a file begun input symbols end before after trace_before trace_after report_before report_after is e =
    saved_ends_so a file begun input symbols end before after trace_before trace_after report_before report_after is e
ends_as false a file begun input symbols end before after trace_before trace_after report_before report_after is e =
    image_ends_so a file begun input symbols end before after trace_before trace_after report_before report_after is e

-- the same of a run of a file
pub ends_so : (a : RunArguments) (file begun input symbols : List ℕ) (end : Result Ended Refused) (before after trace_before trace_after report_before report_after : Option (List ℕ))
    → begun ≡ take a.steps input → IsRunEnd a file begun symbols end before after trace_before trace_after report_before report_after
    → IsRunEnd a file input symbols end before after trace_before trace_after report_before report_after
ends_so a file begun input symbols end before after trace_before trace_after report_before report_after is e =
    ends_as (is_saved a.guest.raw file) a file begun input symbols end before after trace_before trace_after report_before report_after is e
