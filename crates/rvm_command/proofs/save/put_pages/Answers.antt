use Rattle.rvm_command.proofs.FramesPut.{page_put, pages_none}
use Rattle.rvm_command.specs.Saved.{page_frame}
use Rattle.rvm_command.proofs.save.put_pages.Goals as goal

pub loop-page-init : goal.loop-page-init
loop-page-init g c = pages_none (g.W.Write.contents c.args.writer.now) (page_frame c.args.guest.now.guest.board.shared.bytes)

pub loop-page-preserved : goal.loop-page-preserved
loop-page-preserved g c =
    page_put (g.W.Write.contents c.args.writer.now) (g.W.Write.contents c.loop-page.writer)
    (g.W.Write.contents c.put_page.new.writer) (page_frame c.args.guest.now.guest.board.shared.bytes) c.loop-page.page
    c.loop-page.invariant c.in_ok-put_page.ensures
