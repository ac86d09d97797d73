use Rattle.rvm_protocol.specs.Pages.{listed}
use Rattle.rvm_command.specs.Saved.{page_frame}
use Rattle.rvm_command.specs.Puts.{Puts}
use Rattle.rvm_command.proofs.save.put_pages.Given as goal

-- the pages so far were written
abbrev pub invariant-loop-page : goal.invariant-loop-page
invariant-loop-page g l =
    Puts (g.W.Write.contents l.fn.writer) (g.W.Write.contents l.writer)
    (listed (page_frame l.guest.guest.board.shared.bytes) 0 l.page)
