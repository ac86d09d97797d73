-- What a host answers, and what status it has, worked out by hand.
use Rattle.std.proofs.Common.{◌≡◌, ◌≢◌, ℕ, List, [], ◌∷◌, None, Some, true, false, ap, arith, codes, refl}
use Rattle.std.specs.Prelude.{slice_index}
use Rattle.rvm_arguments.specs.declared.arguments.StatusOf.TheVariants as tells
use Rattle.rvm_station.specs.declared.host_harts.HartsEnd.TheVariants.{Stopped, Halted, Spent, ConsoleFault}
use Rattle.rvm_host_command.specs.Answered.{AreAnswers, AreAnswered, GoesOn, Says}
use Rattle.rvm_host_command.specs.Hosted.{host_status}
use Rattle.rvm_host_command.specs.Live.{live_status}
use Rattle.rvm_host_command.specs.Lines.{IsToldLine, line_size}
use Rattle.rvm_host_command.specs.declared.tell_command.Told.TheVariants.{Done, NotDone}

-- texts that differ in their first byte
others : (text other : List ℕ) → (slice_index text 0 ≡ slice_index other 0 → ⊥) → text ≢ other
others text other differ = λ is. differ (ap (λ (l : List ℕ). slice_index l 0) is)

-- a line that is not the last one of an answer
pub a_progress_goes_on : GoesOn (codes "progress 1\n")
a_progress_goes_on = record {
  not_done = others (codes "progress 1\n") (codes "end 0\n") (λ is. (let it : 112 ≡ 101 = is in absurd (omega (arith, it))));
  not_undone = others (codes "progress 1\n") (codes "end 1\n") (λ is. (let it : 112 ≡ 101 = is in absurd (omega (arith, it))));
}

pub a_moved_goes_on : GoesOn (codes "moved 1\n")
a_moved_goes_on = record {
  not_done = others (codes "moved 1\n") (codes "end 0\n") (λ is. (let it : 109 ≡ 101 = is in absurd (omega (arith, it))));
  not_undone = others (codes "moved 1\n") (codes "end 1\n") (λ is. (let it : 109 ≡ 101 = is in absurd (omega (arith, it))));
}

-- two lines and `end 0`, after which something else comes
pub a_move_is_done : Says Done (codes "progress 1\nmoved 1\nend 0\nthen") (codes "then")
a_move_is_done = record {
  lines = 2;
  last = codes "end 0\nthen";
  before = (a_progress_goes_on, (a_moved_goes_on, refl));
  says = refl;
  rest = refl;
}

-- `end 1` alone
pub nothing_was_done : Says NotDone (codes "end 1\n") []
nothing_was_done = record { lines = 0; last = codes "end 1\n"; before = refl; says = refl; rest = refl }

-- both answers, one after the other
pub both_answers : AreAnswers (Done ∷ NotDone ∷ []) (codes "progress 1\nmoved 1\nend 0\nend 1\n") []
both_answers = (codes "end 1\n", a_move, ([], nothing_was_done, refl)) where
  a_move : Says Done (codes "progress 1\nmoved 1\nend 0\nend 1\n") (codes "end 1\n")
  a_move = record {
    lines = 2;
    last = codes "end 0\nend 1\n";
    before = (a_progress_goes_on, (a_moved_goes_on, refl));
    says = refl;
    rest = refl;
  }

-- the answers to two lines, of which the second did not happen
pub two_lines_are_answered :
    AreAnswered (Some (codes "move B\nmove B\n")) (Some (codes "progress 1\nmoved 1\nend 0\nend 1\n")) NotDone
two_lines_are_answered = record {
  each = Done ∷ NotDone ∷ [];
  asked = (((λ is. absurd cc), omega arith), (((λ is. absurd cc), omega arith), refl));
  answered = ([], both_answers);
  says = refl;
}

-- the size of a line is that of the first one, without its line feed; a last line may have none
pub a_line_of_6_bytes : line_size (codes "move B\nstatus now\n") ≡ 6
a_line_of_6_bytes = refl

pub a_last_line_of_4_bytes : line_size (codes "stop") ≡ 4
a_last_line_of_4_bytes = refl

pub an_empty_line_is_told : IsToldLine (codes "\n")
an_empty_line_is_told = ((λ is. absurd cc), omega arith)

-- the status of a host that was ended, with a verdict
pub a_stop_has_0 : host_status true Stopped ≡ 0
a_stop_has_0 = refl

pub a_halt_with_7_has_3 : host_status true (Halted 7) ≡ 3
a_halt_with_7_has_3 = refl

pub a_halt_with_0_has_0 : host_status true (Halted 0) ≡ 0
a_halt_with_0_has_0 = refl

pub a_console_fault_has_1 : host_status true ConsoleFault ≡ 1
a_console_fault_has_1 = refl

-- the status of a host without a verdict
pub a_halt_with_7_is_not_told_unasked : host_status false (Halted 7) ≡ 0
a_halt_with_7_is_not_told_unasked = refl

-- the status of a live run, with a verdict, and in place of the guest's own
pub a_live_halt_with_7_fails : live_status tells.Verdict (Some (Halted 7)) ≡ 3
a_live_halt_with_7_fails = refl

pub a_live_halt_with_7_has_7 : live_status tells.Guest (Some (Halted 7)) ≡ 7
a_live_halt_with_7_has_7 = refl

pub spent_turns_have_4 : live_status tells.Verdict (Some Spent) ≡ 4
spent_turns_have_4 = refl

pub a_live_console_fault_has_1 : live_status tells.Command (Some ConsoleFault) ≡ 1
a_live_console_fault_has_1 = refl

pub a_live_run_that_did_not_begin_has_1 : live_status tells.Command None ≡ 1
a_live_run_that_did_not_begin_has_1 = refl
