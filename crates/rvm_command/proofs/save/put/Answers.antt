use Rattle.rvm_command.proofs.FramesPut.{frame_put}
use Rattle.rvm_command.proofs.save.put.Goals as goal

pub returns : goal.returns
returns g c =
    frame_put (g.W.Write.contents c.args.writer.now) (g.W.Write.contents c.write_frame.new.writer) c.args.frame c.requires
    c.in_ok-write_frame.ensures
