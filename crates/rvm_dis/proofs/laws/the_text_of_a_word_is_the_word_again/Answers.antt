use Rattle.std.proofs.Common.{◌≡◌, arith, subst}
use Rattle.std.specs.Prelude.{IfSome}
use Rattle.rvm_isa.specs.Words.{word_of}
use Rattle.rvm_dis.proofs.RoundTrip.{text_assembles}
use Rattle.rvm_dis.proofs.laws.the_text_of_a_word_is_the_word_again.Goals as goal

pub returns : goal.returns
returns c = λ aligned names. text_assembles names c.args.address c.args.word (omega arith) aligned
    (omega arith)
    (subst (λ o. IfSome o (λ i. word_of i
    ≡ c.args.word)) c.decode-ins.ensures.row c.decode-ins.ensures.word)
