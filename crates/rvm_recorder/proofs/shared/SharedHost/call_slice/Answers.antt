use Rattle.std.proofs.Common.{subst}
use Rattle.std.proofs.lemmas.Result.{IfOk-weaker}
use Rattle.std.specs.Prelude.{IfOk}
use Rattle.rvm_recorder.specs.Calls.{AreOfSeat}
use Rattle.rvm_recorder.specs.Runs.{all_of}
use Rattle.rvm_recorder.specs.Seats.{PlainSeat}
use Rattle.rvm_recorder.proofs.Receipts.{slice_has_steps, slice_of_seat}
use Rattle.rvm_recorder.proofs.shared.SharedHost.call_slice.Goals as goal

pub returns-clause-steps : goal.returns-clause-steps
returns-clause-steps g c =
    IfOk-weaker c.call_slice.result _ _ (λ v called. slice_has_steps _ _ _ _ _ _ _ called) c.call_slice.ensures.called

pub returns-clause-receipts : goal.returns-clause-receipts
returns-clause-receipts g c =
    subst (λ (s : PlainSeat). IfOk c.call_slice.result (λ v. AreOfSeat s c.args.turn c.args.harts (all_of v.items)))
    c.take_slice_room.ensures.same
    (IfOk-weaker c.call_slice.result _ _ (λ v called. slice_of_seat _ _ _ _ _ _ _ called) c.call_slice.ensures.called)
