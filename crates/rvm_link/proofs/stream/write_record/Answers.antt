use Rattle.rvm_link.proofs.stream.write_record.Goals as goal
use Rattle.rvm_link.proofs.Streams.{one_frame_told}

pub returns : goal.returns
returns g c =
    one_frame_told c.write_frame.result c.args.version c.args.addressed.now c.record_len.result
    (g.W.Write.contents c.args.output.now) (g.W.Write.contents c.write_head.new.output)
    (g.W.Write.contents c.write_frame.new.writer) c.requires c.record_len.ensures c.in_ok-write_head.ensures
    c.write_frame.ensures
