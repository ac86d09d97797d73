use Rattle.std.proofs.Common.{◌≡◌, ◌∙◌, sym, subst}
use Rattle.rvm_guest.specs.TheGuest.{board}
use Rattle.rvm_message.specs.Replies.{is_refused_outright}
use Rattle.rvm_protocol.specs.Obeying.{resend}
use Rattle.rvm_source.specs.Sources.{HasPages, PlainSource, mode_of}
use Rattle.rvm_source.proofs.Refusing.{resend_refused}
use Rattle.rvm_source.proofs.source.Source.refuses_resend.Goals as goal

pub returns-in-Stopped : goal.returns-in-Stopped
returns-in-Stopped g c = λ version.
    let h = subst (HasPages c.pages-pages.result) (sym c.self.view_is) c.pages-pages.ensures in
    subst (λ (s : PlainSource). c.is_left.result ≡ is_refused_outright (resend board version (mode_of s)).reply) c.self.view_is
    (c.is_left.ensures ∙ sym (resend_refused version c.pages-pages.result c.in-Stopped.turn _ h c.in-Stopped.is))
