use Rattle.std.proofs.Common.{◌≡◌, ◌∙◌, sym, subst}
use Rattle.rvm_guest.specs.TheGuest.{board}
use Rattle.rvm_message.specs.Replies.{is_seq_spent}
use Rattle.rvm_protocol.specs.Obeying.{copy}
use Rattle.rvm_source.specs.Sources.{HasPages, PlainSource, mode_of}
use Rattle.rvm_source.proofs.Refusing.{spent_paused, spent_running}
use Rattle.rvm_source.proofs.source.Source.is_spent.Goals as goal

pub returns-in-Copying : goal.returns-in-Copying
returns-in-Copying g c = λ version.
    let h = subst (HasPages c.pages-pages.result) (sym c.self.view_is) c.pages-pages.ensures in
    subst (λ (s : PlainSource). c.is_spent.result ≡ is_seq_spent (copy board version (mode_of s)).reply) c.self.view_is
    (c.is_spent.ensures ∙ sym (spent_running version c.pages-pages.result _ h c.in-Copying.is))

pub returns-in-Stopped : goal.returns-in-Stopped
returns-in-Stopped g c = λ version.
    let h = subst (HasPages c.pages-pages.result) (sym c.self.view_is) c.pages-pages.ensures in
    subst (λ (s : PlainSource). c.is_last_spent.result ≡ is_seq_spent (copy board version (mode_of s)).reply) c.self.view_is
    (c.is_last_spent.ensures ∙ sym (spent_paused version c.pages-pages.result c.in-Stopped.turn _ h c.in-Stopped.is))
