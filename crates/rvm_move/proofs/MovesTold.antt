-- What a sound move leaves.
use Rattle.std.proofs.Common.{◌∙◌, Bool, true, false, ap, arith, refl, subst, sym}
use Rattle.std.proofs.KnownBytes.{Appends-trans}
use Rattle.std.specs.Io.KnownBytes.{Appends}
use Rattle.std.specs.Prelude.{◌≡◌, ◌≢◌, ◌++◌, ℕ, zero, suc, List, Option, None, Some, Result, Ok, Err, IfOk, if◌then◌else◌}
use Rattle.std.specs.Result.{IsOkAnd}
use Rattle.rvm_arguments.specs.declared.arguments.MoveArguments.{MoveArguments}
use Rattle.rvm_recorder.specs.declared.closing.CloseKind.{CloseKind}
use Rattle.rvm_cell.specs.declared.harts.TurnsEnd.{TurnsEnd}
use Rattle.rvm_cell.specs.declared.harts.TurnsEnd.TheVariants.{Halted, StepsSpent}
use Rattle.rvm_command.specs.Command.{image_of}
use Rattle.rvm_command.specs.Ends.{IsLoadable}
use Rattle.rvm_host.specs.Hosts.{PlainHost}
use Rattle.rvm_recorder.specs.Entries.{PlainEntry}
use Rattle.rvm_recorder.specs.History.{History, Recording}
use Rattle.rvm_recorder.specs.Replay.{IsReplay}
use Rattle.rvm_move.specs.declared.ends.Ends.{Ends}
use Rattle.rvm_move.specs.Hosts.{IsFirstEnd, IsSecondEnd}
use Rattle.rvm_move.proofs.Over.{move_is_over}
use Rattle.rvm_move.specs.Ends.{failure_of_turns, fails_copying}
use Rattle.rvm_move.specs.Runs.{IsEndRun, IsRunOf}
use Rattle.rvm_move.specs.Answers.{answers_text}
use Rattle.rvm_move.specs.Ended.{AreLeft, IsMade, IsMoved, IsSound, IsToldOf, end_line, move_status}
use Rattle.rvm_move.specs.Opening.{AreOpened, HasValidGuest, IsFirstHost, IsSecondHost}
use Rattle.rvm_move.specs.Plans.{plan_of}
use Rattle.rvm_cell.specs.declared.end.WorkEnd.{WorkEnd}
use Rattle.rvm_cell.specs.declared.end.WorkEnd.TheVariants.{LinkFault}

pub if_ok : {X E : Type 0} (r : Result X E) (P Q : X → Type 0) → ((x : X) → P x → Q x) → IfOk r P → IfOk r Q
if_ok (Ok x) P Q f p = f x p
if_ok (Err e) P Q f p = tt

-- the turns of a sound move came to their end
turned : (harts : Result TurnsEnd WorkEnd) (rest : Option WorkEnd) → failure_of_turns harts rest ≡ None
    → (end : TurnsEnd) × (harts ≡ Ok end)
turned (Ok end) rest none = (end, refl)
turned (Err end) rest none = absurd cc

-- the turns of a move that was closed at both hosts came to their end
pub sound_end : (ends : Ends) (a b : Option CloseKind) → IsSound ends a b → (end : TurnsEnd) × (ends.harts ≡ Ok end)
sound_end ends a b sound = turned ends.harts _ sound.0

-- turns that came to their end are no fault of a link
is_no_fault : (harts : Result TurnsEnd WorkEnd) (end : TurnsEnd) → harts ≡ Ok end → harts ≢ Err LinkFault
is_no_fault harts end is fault = absurd cc

unfailed : (b : Bool) (copier : WorkEnd) (rest : Option WorkEnd) → (if b then Some copier else rest) ≡ None → b ≡ false
unfailed false copier rest none = refl
unfailed true copier rest none = absurd cc

-- the copier of a sound move came to its end with it
copied : (harts : Result TurnsEnd WorkEnd) (copier : WorkEnd) (rest : Option WorkEnd)
    → failure_of_turns harts (if fails_copying copier then Some copier else rest) ≡ None → fails_copying copier ≡ false
copied (Err end) copier rest none = absurd cc
copied (Ok end) copier rest none = unfailed (fails_copying copier) copier rest none

-- hosts whose journals begin as two new hosts did
pub opened : (a : MoveArguments) (file : List ℕ) (first second : Recording) (at_a at_b : PlainHost)
    → IsLoadable (image_of a.guest.raw file) a.guest.pages → HasValidGuest a file → IsFirstHost a file first
    → IsSecondHost a second → at_a ≡ first.journal.opening → at_b ≡ second.journal.opening → AreOpened a file at_a at_b
opened a file first second at_a at_b loadable valid has_guest has_none same_a same_b = record {
  loadable = loadable;
  valid = valid;
  has_guest = if_ok (image_of a.guest.raw file) _ _ (λ i is. same_a ∙ ap (λ r. r.journal.opening) is) has_guest;
  has_none = same_b ∙ ap (λ r. r.journal.opening) has_none;
}

-- the two hosts as a move left them
pub left : {X E : Type 0} (m : Result X E) (a : MoveArguments) (file : List ℕ) (ends : X → Ends)
    (fault_a fault_b : X → Option CloseKind) (first second : X → History)
    → IfOk m (λ x. AreOpened a file (first x).opening (second x).opening)
    → IfOk m (λ x. IsFirstEnd (plan_of a).policy (ends x) (fault_a x) (first x).entries)
    → IfOk m (λ x. IsSecondEnd (ends x) (fault_b x) (second x).entries)
    → IfOk m (λ x. AreLeft a file (ends x) (fault_a x) (fault_b x) (first x) (second x))
left (Ok x) a file ends fault_a fault_b first second opened end_a end_b =
    record { opened = opened; of_first = end_a; of_second = end_b }
left (Err e) a file ends fault_a fault_b first second opened end_a end_b = tt

-- what stands in the journals of a sound move whose turns ended so
made_so : (a : MoveArguments) (ends : Ends) (fault_a fault_b : Option CloseKind) (first second : List PlainEntry)
    (before after : Option (List ℕ)) → IsFirstEnd (plan_of a).policy ends fault_a first → IsSecondEnd ends fault_b second
    → IsEndRun ends fault_a fault_b first second before after a.guest.harts a.steps → IsSound ends fault_a fault_b
    → (end : TurnsEnd) → ends.harts ≡ Ok end → IsMade a first second before after
made_so a ends fault_a fault_b first second before after end_a end_b run sound end is = record {
  asked = record { of_first = end_a.asked sound.1; of_second = end_b.asked sound.2 };
  ends = ends;
  unfailed = sound.0;
  worked = record {
    copied = end_a.copied sound.1;
    heard_a = end_a.heard sound.1;
    heard_b = end_b.heard sound.2;
  };
  over = move_is_over ends.copier first (end_a.copied sound.1) (copied ends.harts ends.copier _ sound.0);
  end = end;
  run = subst (IsRunOf first second before after a.guest.harts a.steps) is
      (run (is_no_fault ends.harts end is) sound.1 sound.2);
}

-- the same of any sound move
pub made : (a : MoveArguments) (ends : Ends) (fault_a fault_b : Option CloseKind) (first second : List PlainEntry)
    (before after : Option (List ℕ)) → IsFirstEnd (plan_of a).policy ends fault_a first → IsSecondEnd ends fault_b second
    → IsEndRun ends fault_a fault_b first second before after a.guest.harts a.steps → IsSound ends fault_a fault_b
    → IsMade a first second before after
made a ends fault_a fault_b first second before after end_a end_b run sound =
    let end = sound_end ends fault_a fault_b sound in
    made_so a ends fault_a fault_b first second before after end_a end_b run sound end.0 end.1

-- if the end of a sound move was reported, the guest was moved
pub moved : (arguments : MoveArguments) (file : List ℕ) (status : ℕ) (ends : Ends) (a b : Option CloseKind)
    (first second : History) (before after output_before output_after : Option (List ℕ)) → AreLeft arguments file ends a b first second
    → IsEndRun ends a b first.entries second.entries output_before output_after arguments.guest.harts arguments.steps
    → IsToldOf arguments.verdict status ends a b first second before after
    → IsMoved arguments file status before after output_before output_after
unfolding made_so
moved arguments file status ends a b first second before after output_before output_after left run told = record {
  first = first;
  second = second;
  opened = left.opened;
  first_replays = told.first_replays;
  second_replays = told.second_replays;
  made = made_so arguments ends a b first.entries second.entries output_before output_after left.of_first left.of_second run told.sound
      told.end told.turned;
  status_is = told.status_is;
  written = told.written;
}

-- the same of what a call returns
pub moved_told : {X E F : Type 0} (r : Result ℕ F) (m : Result X E) (left output : X → Type 0) (told : ℕ → X → Type 0)
    (Z : ℕ → Type 0) → ((s : ℕ) (x : X) → left x → output x → told s x → Z s) → IfOk m left → IfOk m output
    → IfOk r (λ s. s ≢ 1 → IsOkAnd m (told s)) → IfOk r (λ s. s ≢ 1 → Z s)
moved_told (Ok s) (Ok x) left output told Z f n o t = λ other. f s x n o (t other)
moved_told (Ok s) (Err e) left output told Z f n o t = λ other. absurd (t other)
moved_told (Err e) m left output told Z f n o t = tt

-- the replies of both hosts were told, and then how the turns ended
told_end : (verdict : Bool) (s : ℕ) (ends : Ends) (a b : Option CloseKind) (first second : History)
    (before one two three after : Option (List ℕ)) → IsReplay first.opening first.entries
    → IsReplay second.opening second.entries → Appends before one (answers_text first.entries)
    → Appends one two (answers_text second.entries) → three ≡ two → IsSound ends a b
    → IfOk ends.harts (λ end. (s ≡ move_status verdict end) × Appends three after (end_line verdict end))
    → IsToldOf verdict s ends a b first second before after
told_end verdict s ends a b first second before one two three after replay_a replay_b of_first of_second silent sound ended =
    let end = sound_end ends a b sound in
    let told = subst (λ h. IfOk h (λ end. (s ≡ move_status verdict end) × Appends three after (end_line verdict end))) end.1 ended in
    record {
      sound = sound;
      end = end.0;
      turned = end.1;
      status_is = told.0;
      first_replays = replay_a;
      second_replays = replay_b;
      written =
          Appends-trans before one after (answers_text first.entries)
          (answers_text second.entries ++ end_line verdict end.0) of_first
          (Appends-trans one two after (answers_text second.entries) (end_line verdict end.0) of_second
          (subst (λ w. Appends w after (end_line verdict end.0)) silent told.1));
    }

-- the same, if a call told how the turns ended
pub end_answered : {F : Type 0} (r : Result ℕ F) (verdict : Bool) (ends : Ends) (a b : Option CloseKind) (first second : History)
    (before one two three after : Option (List ℕ)) → IsReplay first.opening first.entries
    → IsReplay second.opening second.entries → Appends before one (answers_text first.entries)
    → Appends one two (answers_text second.entries) → three ≡ two → IsSound ends a b
    → IfOk r (λ s. IfOk ends.harts (λ end. (s ≡ move_status verdict end) × Appends three after (end_line verdict end)))
    → IfOk r (λ s. s ≢ 1 → IsToldOf verdict s ends a b first second before after)
end_answered (Ok s) verdict ends a b first second before one two three after ra rb fa fb silent sound ended =
    λ other. told_end verdict s ends a b first second before one two three after ra rb fa fb silent sound ended
end_answered (Err e) verdict ends a b first second before one two three after ra rb fa fb silent sound ended = tt

-- the status of a move whose turns came to their end is never 1
no_one : (verdict : Bool) (end : TurnsEnd) → move_status verdict end ≡ 1 → ⊥
no_one false (Halted s) is = let it : 0 ≡ 1 = is in absurd (omega (arith, it))
no_one false StepsSpent is = let it : 0 ≡ 1 = is in absurd (omega (arith, it))
no_one true (Halted zero) is = let it : 0 ≡ 1 = is in absurd (omega (arith, it))
no_one true (Halted (suc n)) is = let it : 3 ≡ 1 = is in absurd (omega (arith, it))
no_one true StepsSpent is = let it : 4 ≡ 1 = is in absurd (omega (arith, it))

-- if the call reported how the turns ended, its status is not 1
pub never_one : {F : Type 0} (r : Result ℕ F) (verdict : Bool) (ends : Ends) (a b : Option CloseKind)
    (P : ℕ → TurnsEnd → Type 0) (Z : Type 0) → IsSound ends a b
    → IfOk r (λ s. IfOk ends.harts (λ end. (s ≡ move_status verdict end) × P s end)) → IfOk r (λ s. s ≡ 1 → Z)
never_one (Err e) verdict ends a b P Z sound ended = tt
never_one (Ok s) verdict ends a b P Z sound ended =
    let end = sound_end ends a b sound in
    let told = subst (λ h. IfOk h (λ end. (s ≡ move_status verdict end) × P s end)) end.1 ended in
    λ one. absurd (no_one verdict end.0 (sym told.0 ∙ one))
