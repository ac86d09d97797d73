use Rattle.std.proofs.Common.{rules}
use Rattle.rvm_link.proofs.GreetingPieces.{opening_is}
use Rattle.rvm_link.proofs.greeting.opening_of.Goals as goal

pub returns : goal.returns
returns c = opening_is c.args.name.now c.args.hosts.now c.args.nonce.now (search rules) (search rules)
