use Rattle.std.proofs.Common.{◌∙◌, ap, subst}
use Rattle.std.specs.Io.KnownBytes.{Appends}
use Rattle.rvm_asm.specs.Images.{pieces_of}
use Rattle.rvm_board.specs.Guest.{Guest}
use Rattle.rvm_command.specs.Counting.{written_text}
use Rattle.rvm_command.specs.Watched.{run_with, traced_of}
use Rattle.rvm_command.proofs.Covering.{report_is}
use Rattle.rvm_command.proofs.run_command.run_to_report.Goals as goal

-- what is written by the numbers and the guest that the run left is the report on the run
pub returns-in-Ok-write_report-clause-report : goal.returns-in-Ok-write_report-clause-report
returns-in-Ok-write_report-clause-report g c = λ pages pieces covers.
    let a = c.args.arguments.now in
    let kept = c.args.kept.now in
    let r = run_with a.seed a.stop_at_fault (traced_of a.trace) a.steps c.args.input.now c.args.guest.now.guest in
    subst (Appends (g.R.Write.contents c.args.files.now.report) (g.R.Write.contents c.write_report.new.writer))
    (ap (λ (x : Guest). written_text a.report (pieces_of kept.segments.items) c.args.symbols.now c.run_to_end.new.counts x) c.in-Ok.ensures.run.guest
    ∙ report_is a.report kept.segments.items pages pieces c.args.symbols.now c.run_to_end.new.counts kept.counts r c.run_to_end.ensures.count c.in-Ok.ensures.counted covers)
    c.in-Ok-write_report.ensures.text
