-- The statuses of commands.
use Rattle.std.proofs.Common.{◌≡◌, ◌⊎◌, ◌<◌, Bool, true, false, ℕ, zero, suc, List, ◌++◌, codes, Option, None, Some, Result, Ok, Err, refl, inl, inr, subst, sym, ◌∙◌, arith}
use Rattle.std.specs.Borrow.{Bor}
use Rattle.std.specs.Result.{IfErr, IfOk}
use Rattle.std.specs.Prelude.{OnErr}
use Rattle.rvm_arguments.specs.declared.arguments.Arguments.{Arguments}
use Rattle.rvm_arguments.specs.declared.arguments.Arguments.TheVariants.{Run, Live, Orders, Asm, Dis, Debug, Script, Move, Audit, Host, Tell, Replay, ReplayTurns, AuditJournals}
use Rattle.rvm_program.specs.Ended.{AreShown, HasEnded, HasRunTo, HostEnded, IsReplayEnd, IsUnbegun, IsUntold, JournalsEnded, LiveEnded, MoveHasStatus, ReplayEnded, TellEnded, TurnsEnded, Written}
use Rattle.rvm_program.specs.Performed.{HasFailed, IsJudged, IsPassingOn, MayBeOpen, TellsMore}
use Rattle.rvm_arguments.specs.declared.arguments.AuditJournalsArguments.{AuditJournalsArguments}
use Rattle.rvm_arguments.specs.declared.arguments.HostArguments.{HostArguments}
use Rattle.rvm_arguments.specs.declared.arguments.LiveArguments.{LiveArguments}
use Rattle.rvm_arguments.specs.declared.arguments.MoveArguments.{MoveArguments}
use Rattle.rvm_arguments.specs.declared.arguments.OrdersArguments.{OrdersArguments}
use Rattle.rvm_arguments.specs.declared.arguments.ReplayArguments.{ReplayArguments}
use Rattle.rvm_arguments.specs.declared.arguments.ReplayTurnsArguments.{ReplayTurnsArguments}
use Rattle.rvm_arguments.specs.declared.arguments.RunArguments.{RunArguments}
use Rattle.rvm_arguments.specs.declared.arguments.StatusOf.{StatusOf}
use Rattle.rvm_arguments.specs.declared.arguments.StatusOf.TheVariants.{Command, Verdict, Guest}
use Rattle.rvm_arguments.specs.declared.arguments.TellArguments.{TellArguments}
use Rattle.rvm_command.specs.declared.refused.Refused.{Refused}
use Rattle.rvm_command.specs.declared.run.Ended.{Ended}
use Rattle.rvm_command.specs.declared.run.Ended.TheVariants.{Fault, HaltedWith, StepsSpent}
use Rattle.rvm_command.specs.Command.{refused_text}
use Rattle.rvm_command.specs.Seeds.{IsOrdersEnd, OrdersHaveStatus}
use Rattle.rvm_command.specs.declared.orders_command.FailedRun.{FailedRun}
use Rattle.rvm_command.specs.Ends.{RunHasStatus, run_status}
use Rattle.rvm_command.specs.Refusals.{refused}
use Rattle.rvm_station.specs.declared.host_harts.HartsEnd.{HartsEnd}
use Rattle.rvm_station.specs.declared.host_harts.HartsEnd.TheVariants.{ConsoleFault, Halted, Spent, Stopped}
use Rattle.rvm_host_command.specs.Live.{live_status}
use Rattle.rvm_move.specs.Ended.{ended_of, status_asked}
use Rattle.rvm_files.specs.Files.{IsUnread, Named}
use Rattle.rvm_refusal.specs.declared.refusal.Refusal.{Refusal}
use Rattle.rvm_replay.specs.Turns.{HasTurnStatus}
use Rattle.rvm_replay.specs.Journals.{JournalText}

-- what a command was asked for that has ended with this status, if it is more than 1
pub record IsAskedFor (a : Arguments) (s : ℕ) : Type 0 where
  pub passing : s ≡ 2 → IsPassingOn a
  pub lost : s ≡ 3 → MayBeOpen a ⊎ IsJudged a
  pub judged : 3 < s → IsJudged a

-- a status of 0 or 1 may be that of each
little : (a : Arguments) (s : ℕ) → s < 2 → IsAskedFor a s
little a s below = record {
  passing = λ two. absurd (omega (arith, below, two));
  lost = λ three. absurd (omega (arith, below, three));
  judged = λ more. absurd (omega (arith, below, more));
}

-- a verdict is 0, 3, 4 or 5
no_verdict : (e : Ended) → run_status Verdict e ≡ 2 → ⊥
no_verdict (HaltedWith zero) is = let it : 0 ≡ 2 = is in absurd (omega (arith, it))
no_verdict (HaltedWith (suc n)) is = let it : 3 ≡ 2 = is in absurd (omega (arith, it))
no_verdict StepsSpent is = let it : 4 ≡ 2 = is in absurd (omega (arith, it))
no_verdict (Fault f) is = let it : 5 ≡ 2 = is in absurd (omega (arith, it))

-- a run, or a live run, that was asked for such a status
module _ (a : Arguments) (asked : StatusOf) (judges : TellsMore asked → IsJudged a) (passes : asked ≡ Guest → IsPassingOn a) where
  -- has the status that was asked for
  run_asked : (it : StatusOf) (s : ℕ) (e : Ended) → asked ≡ it → s ≡ run_status it e → IsAskedFor a s
  run_asked Command s e same is = let none : s ≡ 0 = is in little a s (omega (arith, none))
  run_asked Verdict s e same is =
      let more = judges (subst TellsMore (sym same) tt) in
      record { passing = λ two. absurd (no_verdict e (sym is ∙ two)); lost = λ three. inr more; judged = λ above. more }
  run_asked Guest s e same is =
      let more = judges (subst TellsMore (sym same) tt) in
      record { passing = λ two. passes same; lost = λ three. inr more; judged = λ above. more }

-- a run has the status that was asked for, and so has one that was refused
run_ended : (a : RunArguments) (s : ℕ) (End : Result Ended Refused → Type 0) (before after : Option (List ℕ))
    → RunHasStatus a.status s End before after → IsAskedFor (Run a) s
run_ended a s End before after (inl e) = run_asked (Run a) a.status (λ more. more) (λ is. is) a.status s e.0 refl e.1
run_ended a s End before after (inr r) = little (Run a) s (omega (arith, r.1))

-- so has a live run
live_asked : (a : LiveArguments) (s : ℕ) (end : Option HartsEnd) → s ≡ live_status a.status end → IsAskedFor (Live a) s
live_asked a s None is = let one : s ≡ 1 = is in little (Live a) s (omega (arith, one))
live_asked a s (Some Stopped) is = let one : s ≡ 1 = is in little (Live a) s (omega (arith, one))
live_asked a s (Some ConsoleFault) is = let one : s ≡ 1 = is in little (Live a) s (omega (arith, one))
live_asked a s (Some (Halted n)) is =
    run_asked (Live a) a.status (λ more. more) (λ same. same) a.status s (HaltedWith n) refl is
live_asked a s (Some Spent) is =
    run_asked (Live a) a.status (λ more. more) (λ same. same) a.status s StepsSpent refl is

live_ended : (files : Named) (a : LiveArguments) (s : ℕ) (output : Written) → LiveEnded files a s output → IsAskedFor (Live a) s
live_ended files a s output (inl has) = live_asked a s has.ended.0 has.ended.1
live_ended files a s output (inr unbegun) = little (Live a) s (omega (arith, unbegun.0))

-- runs by several seeds have a verdict, or were refused
orders_ended : (a : OrdersArguments) (s : ℕ) (End : Result (Option FailedRun) Refused → Type 0) (before after : Option (List ℕ))
    → OrdersHaveStatus a s End before after → IsAskedFor (Orders a) s
orders_ended a s End before after (inl failed) = record {
  passing = λ two. absurd (no_verdict failed.0.ended (sym failed.1 ∙ two));
  lost = λ three. inr tt;
  judged = λ above. tt;
}
orders_ended a s End before after (inr (inl passed)) = little (Orders a) s (omega (arith, passed.0))
orders_ended a s End before after (inr (inr r)) = little (Orders a) s (omega (arith, r.1))

-- a move has the status that was asked for
move_asked : (a : MoveArguments) (verdict : Bool) (s : ℕ) (e : Ended) → a.verdict ≡ verdict
    → s ≡ run_status (status_asked verdict) e → IsAskedFor (Move a) s
move_asked a false s e same is = let it : s ≡ 0 = is in little (Move a) s (omega (arith, it))
move_asked a true s e same is = record {
  passing = λ two. absurd (no_verdict e (sym is ∙ two));
  lost = λ three. inr same;
  judged = λ above. same;
}

-- a move that was refused, or failed, has a status that it was asked for
move_ended : (a : MoveArguments) (s : ℕ) (image : List ℕ) (errors output : Written)
    → MoveHasStatus s a image errors.before errors.after output.before output.after → IsAskedFor (Move a) s
move_ended a s image errors output (inl moved) = move_asked a a.verdict s (ended_of moved.made.end) refl moved.status_is
move_ended a s image errors output (inr failed) = little (Move a) s (omega (arith, failed.0))

-- a host has a status above 1 only if it was asked for a verdict
hosted : (files : Named) (a : HostArguments) (n : ℕ) (output : Written) → HostEnded files a (suc (suc n)) output
    → IsAskedFor (Host a) (suc (suc n))
hosted files a zero output none = absurd none
hosted files a (suc zero) output (verdict, has) = record {
  passing = λ two. (let it : 3 ≡ 2 = two in absurd (omega (arith, it)));
  lost = λ three. inr verdict;
  judged = λ above. verdict;
}
hosted files a (suc (suc n)) output none = absurd none

-- `tell` has one of three statuses
told : (a : TellArguments) (s : ℕ) → TellEnded s → IsAskedFor (Tell a) s
told a s (inl none) = little (Tell a) s (omega (arith, none))
told a s (inr (inl one)) = little (Tell a) s (omega (arith, one))
told a s (inr (inr three)) = record {
  passing = λ two. absurd (omega (arith, three, two));
  lost = λ is. inl tt;
  judged = λ above. absurd (omega (arith, three, above));
}

-- a replay has one of two statuses
no_end : (files : Named) (a : ReplayArguments) (name : Option (Bor (List ℕ))) (n : ℕ) (journal image : List ℕ)
    (input : Option (List ℕ)) (output errors : Written)
    → IsReplayEnd files a name (suc (suc n)) journal image input output errors → ⊥
no_end files a None n journal image input output errors none = none
no_end files a (Some name) n journal image input output errors e = e.ended

replayed : (files : Named) (a : ReplayArguments) (n : ℕ) (input : Option (List ℕ))
    (output errors : Written) → ReplayEnded files a (suc (suc n)) input output errors → ⊥
replayed files a n input output errors (inl e) =
    no_end files a a.script n e.journal e.image input output errors e.ended
replayed files a n input output errors (inr u) = let it : suc (suc n) ≡ 1 = u.0 in omega (arith, it)

-- an audit of journals has one of three statuses
shown : (created : Named) (a : AuditJournalsArguments) (chart : Option (Bor (List ℕ))) (n : ℕ) (journals : List JournalText)
    (image : List ℕ) (output : Option (List ℕ)) (errors : Written)
    → AreShown created a chart (suc (suc n)) journals image output errors → n ≡ 1
shown created a None zero journals image output errors has = absurd has.1
shown created a None (suc zero) journals image output errors has = refl
shown created a None (suc (suc n)) journals image output errors has = absurd has.1
shown created a (Some name) zero journals image output errors has = absurd has.audited.1
shown created a (Some name) (suc zero) journals image output errors has = refl
shown created a (Some name) (suc (suc n)) journals image output errors has = absurd has.audited.1

-- a command that may be left open may have the status 3
undecided : (a : Arguments) (n : ℕ) → MayBeOpen a → n ≡ 1 → IsAskedFor a (suc (suc n))
undecided a zero may one = absurd (omega (arith, one))
undecided a (suc zero) may one = record {
  passing = λ two. (let it : 3 ≡ 2 = two in absurd (omega (arith, it)));
  lost = λ three. inl may;
  judged = λ above. (let it : 3 < 3 = above in absurd (omega (arith, it)));
}
undecided a (suc (suc n)) may one = let it : suc (suc n) ≡ 1 = one in absurd (omega (arith, it))

audited : (files created : Named) (a : AuditJournalsArguments) (n : ℕ) (output : Option (List ℕ)) (errors : Written)
    → JournalsEnded files created a (suc (suc n)) output errors → IsAskedFor (AuditJournals a) (suc (suc n))
audited files created a n output errors (inl has) =
    undecided (AuditJournals a) n tt (shown created a a.chart n has.journals has.image output errors has.shown)
audited files created a n output errors (inr u) = let it : suc (suc n) ≡ 1 = u.0 in absurd (omega (arith, it))

-- so has a replay up to a turn
turn_answered : (a : ReplayTurnsArguments) (n : ℕ) (journals : List JournalText) (image : List ℕ)
    (session output told errors errors' : Option (List ℕ))
    → HasTurnStatus (suc (suc n)) journals image a.turns session output told errors errors' → n ≡ 1
turn_answered a n journals image session output told errors errors' (inl has) = absurd has.ended
turn_answered a zero journals image session output told errors errors' (inr none) = absurd none
turn_answered a (suc zero) journals image session output told errors errors' (inr may) = refl
turn_answered a (suc (suc n)) journals image session output told errors errors' (inr none) = absurd none

turns_ended : (files : Named) (a : ReplayTurnsArguments) (n : ℕ) (input output : Option (List ℕ)) (errors : Written)
    → TurnsEnded files a (suc (suc n)) input output errors → IsAskedFor (ReplayTurns a) (suc (suc n))
turns_ended files a n input output errors (inl has) =
    undecided (ReplayTurns a) n tt (turn_answered a n has.journals has.image has.ended.session output has.ended.answered.0
    errors.before errors.after has.ended.answered.1)
turns_ended files a n input output errors (inr u) = let it : suc (suc n) ≡ 1 = u.0 in absurd (omega (arith, it))

-- a command that ended with more than 1 was asked for such a status
more : (files created : Named) (a : Arguments) (n : ℕ) (script : Option (List ℕ)) (output errors : Written)
    → HasEnded files created a (suc (suc n)) script output errors → IsAskedFor a (suc (suc n))
more files created (Run a) n script output errors e =
    run_ended a (suc (suc n)) (λ end. HasRunTo created a e.image e.input e.symbols end output) errors.before errors.after
    e.ended
more files created (Live a) n script output errors e = live_ended files a (suc (suc n)) output e
more files created (Orders a) n script output errors e =
    orders_ended a (suc (suc n)) (λ end. IsOrdersEnd a e.image e.input end output.before output.after) errors.before errors.after
    e.ended
more files created (Asm a) n script output errors e = absurd e.ended
more files created (Dis a) n script output errors e = absurd e.ended
more files created (Debug a) n script output errors e = absurd e.ended
more files created (Script a) n script output errors e = absurd e.ended
more files created (Move a) n script output errors e = move_ended a (suc (suc n)) e.image errors output e.ended
more files created (Audit a) n script output errors e = absurd e.ended
more files created (Host a) n script output errors e = hosted files a n output e
more files created (Tell a) n script output errors e = told a (suc (suc n)) e
more files created (Replay a) n script output errors e = absurd (replayed files a n script output errors e)
more files created (ReplayTurns a) n script output errors e = turns_ended files a n script output.before errors e
more files created (AuditJournals a) n script output errors e = audited files created a n output.before errors e

-- a command that has ended was asked for its status
ended : (files created : Named) (a : Arguments) (s : ℕ) (script : Option (List ℕ)) (output errors : Written)
    → HasEnded files created a s script output errors → IsAskedFor a s
ended files created a zero script output errors e = little a 0 (omega arith)
ended files created a (suc zero) script output errors e = little a 1 (omega arith)
ended files created a (suc (suc n)) script output errors e = more files created a n script output errors e

-- and so was one that did not begin
either : (files created : Named) (a : Arguments) (s : ℕ) (script : Option (List ℕ)) (output errors : Written)
    → HasEnded files created a s script output errors ⊎ IsUnbegun files a s errors → IsAskedFor a s
either files created a s script output errors (inl e) = ended files created a s script output errors e
either files created a s script output errors (inr u) = little a s (omega (arith, u.status_is))

-- a command whose status is more than 1 did begin
begun : (files created : Named) (a : Arguments) (s : ℕ) (script : Option (List ℕ)) (output errors : Written)
    → HasEnded files created a s script output errors ⊎ IsUnbegun files a s errors → 1 < s
    → HasEnded files created a s script output errors
begun files created a s script output errors (inl e) above = e
begun files created a s script output errors (inr u) above = absurd (omega (arith, u.status_is, above))

module _ {F : Type 0} (files created : Named) (a : Arguments) (script : Option (List ℕ)) (output errors : Written) (s : ℕ)
  where
    -- a command was asked for its status, even if the report of how it ended is missing
    pub asked_for : (told : Result ℕ F)
        → IfOk told (λ status. HasEnded files created a status script output errors ⊎ IsUnbegun files a status errors)
        → IfOk told (λ status. s ≡ status) → IfErr told (λ fault. s ≡ 1) → IsAskedFor a s
    asked_for (Ok status) has_ended is untold =
        subst (IsAskedFor a) (sym is) (either files created a status script output errors has_ended)
    asked_for (Err fault) has_ended is untold = little a s (omega (arith, untold))

    -- a command whose status is more than 1 has ended with it
    pub has_ended_so : (told : Result ℕ F)
        → IfOk told (λ status. HasEnded files created a status script output errors ⊎ IsUnbegun files a status errors)
        → IfOk told (λ status. s ≡ status) → IfErr told (λ fault. s ≡ 1) → 1 < s
        → HasEnded files created a s script output errors
    has_ended_so (Ok status) has_ended is untold above =
        begun files created a s script output errors
        (subst (λ n. HasEnded files created a n script output errors ⊎ IsUnbegun files a n errors) (sym is) has_ended) above
    has_ended_so (Err fault) has_ended is untold above = absurd (omega (arith, untold, above))

-- a command that has the status 1 has failed
pub failed : {F : Type 0} (files created : Named) (a : Arguments) (script : Option (List ℕ)) (output errors : Written) (s : ℕ)
    (told : Result ℕ F)
    → IfOk told (λ status. HasEnded files created a status script output errors ⊎ IsUnbegun files a status errors)
    → OnErr told (IsUntold files created a script output) → IfOk told (λ status. s ≡ status) → s ≡ 1
    → HasFailed files created a script output errors
failed files created a script output errors s (Err fault) ended untold is has_failed = inr (inr untold)
failed files created a script output errors s (Ok status) ended untold is has_failed =
    let it : status ≡ 1 = sym is ∙ has_failed in
    elim (subst (λ n. HasEnded files created a n script output errors ⊎ IsUnbegun files a n errors) it ended) [
      | inl done ↦ inl done
      | inr unbegun ↦ inr (inl unbegun)
    ]

-- what was to be reported of a command that did not begin
pub unbegun : {X F : Type 0} (files created : Named) (a : Arguments) (script : Option (List ℕ)) (output : Written) (why : Refusal)
    (r : Result X F) → IsUnread files a why → OnErr r (IsUntold files created a script output)
unbegun files created a script output why (Ok x) reason = tt
unbegun files created a script output why (Err e) reason =
    (1, refused_text (refused why) ++ codes "\n", inr (record { why = why; reason = reason; told = refl; status_is = refl }))
