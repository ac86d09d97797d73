use Rattle.std.proofs.Common.{Ok, sym, ◌∙◌}
use Rattle.rvm_text.specs.Tokens.{lexemes_of}
use Rattle.rvm_asm.proofs.Expressions.{all_closed}
use Rattle.rvm_asm.proofs.values.closed.Goals as goal

pub returns : goal.returns
returns c =
    sym (all_closed (lexemes_of c.args.tokens.now) c.loop-index.index (Ok (c.loop-index.so_far.0, lexemes_of c.loop-index.so_far.1.now)) c.loop-index-test.false) ∙ c.loop-index.invariant
