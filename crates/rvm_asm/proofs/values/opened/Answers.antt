use Rattle.std.proofs.Common.{sym}
use Rattle.rvm_text.specs.Tokens.{lexemes_of}
use Rattle.rvm_asm.proofs.Expressions.{none_opened, one_opened}
use Rattle.rvm_asm.proofs.values.opened.Goals as goal

pub loop-inner-init : goal.loop-inner-init
loop-inner-init c = none_opened (lexemes_of c.args.tokens.now)

pub loop-inner-preserved : goal.loop-inner-preserved
loop-inner-preserved c =
    one_opened (lexemes_of c.args.tokens.now) c.loop-inner.so_far.0 (lexemes_of c.loop-inner.so_far.1.now) c.in-Some.field-0-0 (lexemes_of c.in-Some.inner.now) c.loop-inner.invariant (sym c.in-Some.ensures.half)
