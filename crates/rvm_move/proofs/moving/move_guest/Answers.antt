use Rattle.std.proofs.Common.{◌∙◌, ◌++◌, append_assoc, subst, sym}
use Rattle.rvm_recorder.specs.Runs.{all_of}
use Rattle.rvm_move.proofs.Over.{copier_ended, receiver_ended, second_ended}
use Rattle.rvm_move.proofs.Told.{asked_of_first, asked_of_second, run_of, turns_of_second}
use Rattle.rvm_move.specs.Ends.{IsCopiedEnd, IsHeardEnd}
use Rattle.rvm_move.specs.Hosts.{AreAll}
use Rattle.rvm_move.specs.Runs.{IsRunOf}
use Rattle.rvm_move.proofs.moving.move_guest.Goals as goal

pub returns-clause-a : goal.returns-clause-a
returns-clause-a g c =
    let moved = c.close_both.result in
    let entries = moved.a.recorded.journal.entries in
    let carried = c.seat_and_work-carried.result.0 in
    let turns = all_of c.seat_and_work-carried.result.1.receipts.0.items in
    let copier = all_of carried.copier.receipts.items in
    let heard = all_of carried.receiver_a.receipts.items in
    let are = c.seat_and_work-carried.ensures.carried in
    record {
      asked = asked_of_first c.args.plan.now.policy _ _ _ _ _ _ _ _ are _ _ _ _ _ _ _ _ c.seat_and_work-carried.ensures.run
          moved.a.fault entries c.close_both.ensures.told_a;
      copied = λ closed. subst (λ end. IsCopiedEnd end entries) (sym c.close_both.ensures.copier)
          (copier_ended entries turns copier heard (c.close_both.ensures.told_a closed) carried.copier.end are.of_copier.ended);
      heard = λ closed. subst (λ end. IsHeardEnd end entries) (sym c.close_both.ensures.receivers.0)
          (receiver_ended (g.K.Link.remaining c.args.links.0.receiving) entries (turns ++ copier) heard
          (subst (AreAll entries) (sym (append_assoc turns copier heard)) (c.close_both.ensures.told_a closed))
          1 0 carried.receiver_a.end are.of_first.ended);
    }

pub returns-clause-b : goal.returns-clause-b
returns-clause-b g c =
    let moved = c.close_both.result in
    let entries = moved.b.recorded.journal.entries in
    let carried = c.seat_and_work-carried.result.0 in
    let turns = all_of c.seat_and_work-carried.result.1.receipts.1.items in
    let heard = all_of carried.receiver_b.receipts.items in
    let are = c.seat_and_work-carried.ensures.carried in
    record {
      asked = asked_of_second c.args.plan.now.policy _ _ _ _ _ _ _ _ are _ _ _ _ _ _ _ _ c.seat_and_work-carried.ensures.run
          moved.b.fault entries c.close_both.ensures.told_b;
      heard = λ closed. subst (λ end. IsHeardEnd end entries) (sym c.close_both.ensures.receivers.1)
          (second_ended (g.K.Link.remaining c.args.links.1.receiving) entries turns heard (c.close_both.ensures.told_b closed) carried.receiver_b.end
          (turns_of_second c.args.plan.now.policy _ _ _ _ _ _ _ _ are _ _ _ _ _ _ _ _ c.seat_and_work-carried.ensures.run)
          are.of_second);
    }

pub returns-clause-run : goal.returns-clause-run
returns-clause-run g c works a b =
    subst (λ end. IsRunOf c.close_both.result.a.recorded.journal.entries c.close_both.result.b.recorded.journal.entries
    (g.W.Write.contents c.args.writer.now) (g.W.Write.contents c.seat_and_work-carried.new.writer)
    c.args.plan.now.harts c.args.plan.now.steps end) (sym c.close_both.ensures.harts)
    (run_of c.args.plan.now.policy _ _ _ _ _ _ _ _ c.seat_and_work-carried.ensures.carried _ _ _ _ _ _ _ _ c.seat_and_work-carried.ensures.run
    c.close_both.result.a.recorded.journal.entries c.close_both.result.b.recorded.journal.entries
    (λ is. works (c.close_both.ensures.harts ∙ is))
    (c.close_both.ensures.told_a a) (c.close_both.ensures.told_b b)
    c.seat_and_work-carried.ensures.one.0 c.seat_and_work-carried.ensures.one.1)
