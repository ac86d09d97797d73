use Rattle.std.specs.Io.Buffered.{writer_contents}
use Rattle.rvm_replay.proofs.HostJournals.{written_kept}
use Rattle.rvm_replay.specs.Findings.{text_of}
use Rattle.rvm_replay.proofs.audit.write_flushed.Goals as goal

pub returns-clause-written : goal.returns-clause-written
returns-clause-written g c =
    written_kept (text_of c.args.text) c.args.all.now c.args.order.now (writer_contents g.O.Write.contents c.args.output.now)
    (writer_contents g.O.Write.contents c.write_text.new.output) (writer_contents g.O.Write.contents c.flush.new.writer)
    c.flush.result c.in_ok-write_text.ensures c.flush.ensures.same
