use Rattle.std.proofs.Common.{◌≢◌, Err, ap, subst, sym}
use Rattle.rvm_recorder.specs.Runs.{all_of}
use Rattle.rvm_cell.specs.declared.end.WorkEnd.TheVariants.{LinkFault}
use Rattle.rvm_cell.specs.Work.{PlainCaller}
use Rattle.rvm_cell.specs.Calls.{IsRun}
use Rattle.rvm_cell.proofs.Calls.{is_run}
use Rattle.rvm_cell.proofs.harts.hart_worker.Goals as goal

pub returns-clause-run : goal.returns-clause-run
returns-clause-run g c =
    let before = g.W.Write.contents c.args.writer.now in
    let after = g.W.Write.contents c.run-end.new.writer in
    let new = c.run-end.new.pair in
    let back = c.give_back.ensures in
    let ran = is_run c.run-end.result (c.new.result, c.new-2.result) (new.at_a, new.at_b) before after c.args.harts c.args.steps
    (ap (λ (x : PlainCaller). x.receipts) c.new.ensures) (ap (λ (x : PlainCaller). x.receipts) c.new-2.ensures)
    c.run-end.ensures.run c.run-end.ensures.err in
    subst (λ end. IsRun (all_of c.give_back.result.receipts.0.items) (all_of c.give_back.result.receipts.1.items) before after
    (end ≢ Err LinkFault) c.args.harts c.args.steps end) (sym back.end)
    (subst (λ rs. IsRun rs (all_of c.give_back.result.receipts.1.items) before after (c.run-end.result ≢ Err LinkFault)
    c.args.harts c.args.steps c.run-end.result) (sym back.receipts.0)
    (subst (λ rs. IsRun new.at_a.receipts rs before after (c.run-end.result ≢ Err LinkFault)
    c.args.harts c.args.steps c.run-end.result) (sym back.receipts.1) ran))
